-- Answers that are the number of an outcome. Assumes nothing.
use mathlib.Core.Path.{◌≡◌, ap, ◌∙◌}
use Prim.Native.Nat.{ℕ, ◌+◌}
use Rattle.refusal.specs.declared.Refusal.{Refusal}
use Rattle.refusal.specs.Number.{number_of}
use Rattle.refusal.specs.Outcome.{Outcome, refused, Filled}
use Rattle.dfb_refusals.specs.Numbers.{outcome_number, FilledNumber, filled_number}

-- the answer of a refusal is the number of its outcome
pub refused-number : (base : ℕ) (refusal : Refusal) {n : ℕ} {o : Outcome ℕ} → n ≡ base + number_of refusal → refused (number_of refusal) ≡ o →
    n ≡ outcome_number base o
refused-number base refusal answer e = answer ∙ ap (outcome_number base) e

-- a call whose answer is the number of an outcome leaves what the outcome says
pub numbered : {A : Type 0} (base r : ℕ) {f g : Filled A} → r ≡ outcome_number base f.answer → f ≡ g →
    ◌≡◌ {A = FilledNumber A} (record { answer = r; buffer = f.buffer }) (filled_number base g)
numbered base r {f} answer e =
    ap (λ (n : ℕ). record { answer = n; buffer = f.buffer }) answer ∙ ap (filled_number base) e
