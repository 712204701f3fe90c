-- The state as numbers, and the two cases of a call. Assumes nothing.
use Rattle.refusal.specs.Outcome.{answer_outcome}
use Prim.Native.Nat.{ℕ, ◌+◌}
use mathlib.Core.Path.{◌≡◌, refl, ap, ap₂, ◌∙◌}
use mathlib.Core.List.{List, [], ◌∷◌}
use native.Mathlib.Omega.{arith}
use borrow.Author.Tests.{eq-eqb, ne_eqb}
use lib.IntN.{ℤ}
use lib.ListN.{length}
use Rattle.summed.specs.declared.Summed.{Summed}
use Rattle.summed.specs.Call.{SumLeft, sum_left, component_summed}
use Rattle.dfb_refusals.specs.Numbers.{above16, outcome_number}
use Rattle.dfb_summed.specs.Calls.{state_of, state_numbers, sum_call_left, numbers_left, sum_call}

-- the state of three numbers is those numbers
pub state-numbers : (l : List ℕ) → length l ≡ 3 → state_numbers (state_of l) ≡ l
state-numbers [] e = absurd (omega arith)
state-numbers (x ∷ []) e = absurd (omega arith)
state-numbers (x ∷ y ∷ []) e = absurd (omega arith)
state-numbers (x ∷ y ∷ z ∷ []) e = refl
state-numbers (x ∷ y ∷ z ∷ w ∷ l) e = absurd (omega arith)

module _ (state totals : List ℕ) (n first second : ℕ) (pairs : List ℤ) (out : List ℕ) where
  pub call-other : ¬ (length state ≡ 3) → sum_call state totals n first second pairs out ≡ sum_call_left (above16 + 2) state totals out
  unfolding sum_call
  call-other d = rw (ne_eqb (length state) 3 d)

  pub call-three : length state ≡ 3 → sum_call state totals n first second pairs out ≡ numbers_left (component_summed (state_of state) totals n first second pairs out)
  unfolding sum_call
  call-three e = rw (eq-eqb (length state) 3 e)

-- what the library left, in numbers
pub call-done : (done : Summed) (totals out : List ℕ) (o : SumLeft) (answer : ℕ) (numbers : List ℕ) → answer ≡ outcome_number above16 (answer_outcome done.answer) →
    numbers ≡ state_numbers done.state → sum_left done totals out ≡ o → sum_call_left answer numbers totals out ≡ numbers_left o
call-done done totals out o answer numbers e g h = ap₂ (λ (n : ℕ) (l : List ℕ). sum_call_left n l totals out) e g ∙ ap numbers_left h
