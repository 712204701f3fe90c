-- `snapshot::is_snapshot` meets its contract: with the SID of a snapshot the auxiliary length decides. Assumes nothing.
use Prim.Native.Nat.{ℕ}
use mathlib.Core.Path.{◌≡◌, sym, ap, ◌∙◌}
use mathlib.Core.Bool.{true}
use borrow.Author.Tests.{eq-eqb}
use lib.Dec.{eqb}
use Rattle.fields.specs.Fields.{number_in}
use Rattle.fields.proofs.Numbers.{byte-number}
use Rattle.snapshot.specs.Packet.{sid}
use Rattle.snapshot.proofs.is_snapshot.Goals as goal

pub returns-then-packet-eq-SID : goal.returns-then-packet-eq-SID
returns-then-packet-eq-SID c =
    let packet = c.args.packet.now in
    let first : eqb (number_in sid packet) 33 ≡ true = eq-eqb (number_in sid packet) 33 (byte-number packet 0 ∙ c.if-packet-eq-SID.true) in
    simp first (ap (λ (n : ℕ). eqb n 8) (sym (byte-number packet 7)))
