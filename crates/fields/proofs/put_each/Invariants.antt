-- `fields::put_each` meets its contract. The loop: the output begins with the bytes of the samples so far, and is as it was after them.
use Prim.Native.Nat.{◌-◌, ◌*◌, ◌≤◌}
use mathlib.Core.Path.{◌≡◌}
use mathlib.Core.List.{◌++◌}
use lib.ListN.{length, drop}
use Rattle.lists.specs.Tables.{concat_to}
use Rattle.fields.proofs.Samples.{bytes_of}
use Rattle.fields.proofs.put_each.Given as goal

abbrev pub invariant-loop-i : goal.invariant-loop-i
invariant-loop-i l =
    (l.i ≤ length l.samples) × (l.i-end ≡ length l.samples) × (2 * length l.samples ≤ length l.initial.out) × (length l.out ≡ length l.initial.out)
    × (l.out ≡ concat_to l.i (bytes_of l.samples) ++ drop (2 * l.i) l.initial.out)

abbrev pub decreases-loop-i : goal.decreases-loop-i
decreases-loop-i l = l.i-end - l.i
