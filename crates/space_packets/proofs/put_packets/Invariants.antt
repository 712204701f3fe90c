-- `space_packets::put_packets` meets its contract. The loop: the output begins with the packets so far, and is as it was after them.
use Prim.Native.Nat.{◌-◌, ◌≤◌}
use mathlib.Core.Path.{◌≡◌}
use lib.ListN.{length}
use Rattle.lists.specs.Tables.{concat_to, overwrite}
use Rattle.space_packets.specs.Packet.{count_of}
use Rattle.space_packets.proofs.Packets.{packet_at}
use Rattle.space_packets.proofs.put_packets.Given as goal

abbrev pub invariant-loop-p : goal.invariant-loop-p
invariant-loop-p l =
    (l.p ≤ l.packets) × (length l.out ≡ length l.initial.out) × (l.count ≡ count_of l.first l.p) × (l.out ≡ overwrite (concat_to l.p (packet_at l.apid l.first l.most l.samples)) l.initial.out)

abbrev pub decreases-loop-p : goal.decreases-loop-p
decreases-loop-p l = l.packets - l.p
