-- `bands::cadence_of` meets its contract: antt computes each of the eleven divisions and compares it with the whole number. Assumes nothing.
use Rattle.refusal.specs.declared.Refusal.{Refusal}
use Rattle.std.specs.Prelude.{Result}
use mathlib.Core.Path.{◌≡◌, refl, sym, ◌∙◌}
use mathlib.Core.Bool.{cond}
use Prim.Native.Nat.{ℕ, ◌*◌, ◌%◌, ◌^◌, ◌<◌}
use native.Mathlib.Omega.{arith}
use lib.Dec.{leb}
use lib.IntN.{pos}
use lib.Ieee.{binary32, div, of_int, of_bits}
use borrow.Author.Tests.{le-leb, lt-leb}
use Rattle.lists.specs.Tables.{tabulate}
use Rattle.lists.proofs.Tables.{tabulate-agree}
use Rattle.refusal.specs.Outcome.{Outcome, given, answer_outcome}
use Rattle.bands.specs.declared.Cadence.{Cadence}
use Rattle.bands.specs.declared.Cadence.TheVariants.{Rate, Period}
use Rattle.bands.specs.Answer.{whole, cadence_of}
use Rattle.bands.specs.Exact.{ExactCadence}
use Rattle.bands.proofs.Floats.{exact-cadence}
use Rattle.bands.proofs.cadence_of.Goals as goal

-- C as the code shifts it
abbrev ticks : ℕ → ℕ
ticks choice = 1 * 2 ^ choice % 65536

abbrev rate_computed : ℕ → Outcome Cadence
rate_computed choice = given (Rate (div binary32 (of_bits binary32 0x4100_0000) (of_int binary32 (pos (ticks choice)))))

abbrev period_computed : ℕ → Outcome Cadence
period_computed choice = given (Period (div binary32 (of_int binary32 (pos (ticks choice))) (of_bits binary32 0x4100_0000)))

computed : ℕ → Outcome Cadence
computed choice = cond (leb (ticks choice) 8) (rate_computed choice) (period_computed choice)

right : (choice : ℕ) → choice < 11 → computed choice ≡ cadence_of choice
unfolding tabulate computed whole div of_int of_bits
right = tabulate-agree 11 computed cadence_of refl

-- the rule's answer is exact
answered : (choice : ℕ) (r : Result Cadence Refusal) → answer_outcome r ≡ cadence_of choice → (answer_outcome r ≡ cadence_of choice) × ExactCadence choice r
answered choice r is = (is, exact-cadence choice r is)

pub returns-then-choice-gt-NCAD_LIMIT : goal.returns-then-choice-gt-NCAD_LIMIT
returns-then-choice-gt-NCAD_LIMIT c = answered _ _ (simp (lt-leb c.args.choice 10 (omega arith)))

pub returns-then-ticks-le8 : goal.returns-then-ticks-le8
unfolding computed
returns-then-ticks-le8 c =
    let choice = c.args.choice in
    let same : computed choice ≡ rate_computed choice = rw (le-leb (ticks choice) 8 (omega arith)) in
    answered choice _ (sym same ∙ right choice (omega arith))

pub returns-else-ticks-le8 : goal.returns-else-ticks-le8
unfolding computed
returns-else-ticks-le8 c =
    let choice = c.args.choice in
    let same : computed choice ≡ period_computed choice = rw (lt-leb (ticks choice) 8 (omega arith)) in
    answered choice _ (sym same ∙ right choice (omega arith))
