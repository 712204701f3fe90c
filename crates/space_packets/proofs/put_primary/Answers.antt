-- `space_packets::put_primary` meets its contract: the bytes of three times 16 bits. Assumes nothing.
use Prim.Native.Nat.{ℕ}
use mathlib.Core.Path.{◌≡◌, sym, ap₂, ◌∙◌}
use mathlib.Core.List.{List, ◌++◌}
use lib.ListN.{drop}
use Rattle.space_packets.specs.Packet.{primary_bytes}
use Rattle.space_packets.proofs.Headers.{primary-length, primary-bytes}
use Rattle.space_packets.proofs.put_primary.Goals as goal

pub returns : goal.returns
returns c =
    let p = c.args.primary in
    let bytes : c.copy_from_slice.new.self ≡ primary_bytes p =
    c.copy_from_slice.ensures.after ∙ rw (c.to_be_bytes.ensures, c.to_be_bytes-2.ensures, c.to_be_bytes-3.ensures) (sym (primary-bytes p c.requires.0)) in
    ap₂ (λ (l : List ℕ) (n : ℕ). l ++ drop n c.args.packet.now) bytes (sym (primary-length p))
