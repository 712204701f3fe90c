-- `dfb_space_packets::dfb_export_packets` meets its contract: the count list is not one number, or each arm is a case of the export. Assumes nothing.
use Prim.Native.Nat.{ℕ}
use mathlib.Core.Path.{◌≡◌, refl, sym, ap, ◌∙◌}
use mathlib.Core.Bool.{true, false}
use mathlib.Core.List.{List, [], ◌∷◌}
use native.Mathlib.Omega.{arith}
use borrow.Author.Tests.{eq-eqb, ne_eqb}
use lib.Dec.{eqb}
use lib.ListN.{length, get_or, set}
use lib.IntN.{ℤ}
use Rattle.std.specs.Prelude.{Result}
use Rattle.refusal.specs.declared.Refusal.{Refusal}
use Rattle.refusal.specs.Outcome.{answer_outcome}
use Rattle.space_packets.specs.declared.Export.{Export}
use Rattle.space_packets.specs.Calls.{ExportLeft, packets_exported}
use Rattle.dfb_space_packets.specs.Calls.{export_left, export_call}
use Rattle.dfb_space_packets.proofs.dfb_export_packets.Goals as goal

pub returns-then-count-ne-COUNT : goal.returns-then-count-ne-COUNT
unfolding export_call
returns-then-count-ne-COUNT c =
    let a = c.args in
    let other : eqb (length a.count.now) 1 ≡ false = ne_eqb (length a.count.now) 1 (λ e. omega (arith, e)) in
    simp other (ap (λ (n : ℕ). record { answer = n; count = a.count.now; out = a.out.now }) c.above_63.ensures)

-- a list of one number, set
set-one : (l : List ℕ) (x : ℕ) → length l ≡ 1 → set l 0 x ≡ x ∷ []
set-one [] x e = absurd (omega arith)
set-one (y ∷ []) x e = refl
set-one (y ∷ z ∷ l) x e = absurd (omega arith)

-- what the export left is what the call leaves
left : (apid : ℕ) (count : List ℕ) (samples : List ℤ) (out last : List ℕ) (r : Result Export Refusal) → length count ≡ 1 →
    ◌≡◌ {A = ExportLeft} (record { answer = answer_outcome r; out = last }) (packets_exported apid (get_or count 0 0) samples out) →
    export_left count (answer_outcome r) last ≡ export_call apid count samples out
unfolding export_call
left apid count samples out last r e wrote =
    let one : eqb (length count) 1 ≡ true = eq-eqb (length count) 1 e in
    rw one (ap (λ (l : ExportLeft). export_left count l.answer l.out) wrote)

pub returns-in-Ok : goal.returns-in-Ok
returns-in-Ok c =
    let a = c.args in
    let last = c.export_packets.new.out in
    ap (λ (l : List ℕ). record { answer = c.in-Ok.export.bytes; count = l; out = last }) (set-one a.count.now c.in-Ok.export.next (omega arith))
    ∙ ap (λ (r : Result Export Refusal). export_left a.count.now (answer_outcome r) last) (sym c.in-Ok.is)
    ∙ left a.apid a.count.now a.samples.now a.out.now last c.export_packets.result (omega arith) c.export_packets.ensures

pub returns-in-Err : goal.returns-in-Err
returns-in-Err c =
    let a = c.args in
    let last = c.export_packets.new.out in
    ap (λ (n : ℕ). record { answer = n; count = a.count.now; out = last }) c.above_63-in-Err.ensures
    ∙ ap (λ (r : Result Export Refusal). export_left a.count.now (answer_outcome r) last) (sym c.in-Err.is)
    ∙ left a.apid a.count.now a.samples.now a.out.now last c.export_packets.result (omega arith) c.export_packets.ensures
