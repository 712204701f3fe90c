-- What the exported function does (include/dfb.h): a state of another length than 3 is refusal 2, and otherwise the call is the library's.
use Rattle.std.specs.Prelude.{ℕ, ◌+◌, cond, not, List, [], ◌∷◌, eqb, ℤ, length, get_or}
use Rattle.summed.specs.declared.SumState.{SumState}
use Rattle.summed.specs.Call.{SumLeft, component_summed}
use Rattle.dfb_refusals.specs.Numbers.{above16, outcome_number}

-- the state as a C program holds it: the next component, the first and the second mask
abbrev pub state_of : List ℕ → SumState
state_of numbers = record { next = get_or numbers 0 0; first = get_or numbers 1 0; second = get_or numbers 2 0 }

abbrev pub state_numbers : SumState → List ℕ
state_numbers s = s.next ∷ s.first ∷ s.second ∷ []

-- what a call leaves: its answer, and the three lists afterwards
pub record SumCall : Type 0 where
  pub answer : ℕ
  pub state : List ℕ
  pub totals : List ℕ
  pub out : List ℕ

abbrev pub sum_call_left : ℕ → List ℕ → List ℕ → List ℕ → SumCall
sum_call_left answer state totals out = record { answer = answer; state = state; totals = totals; out = out }

abbrev pub numbers_left : SumLeft → SumCall
numbers_left o = sum_call_left (outcome_number above16 o.answer) (state_numbers o.state) o.totals o.out

unfoldable pub sum_call : List ℕ → List ℕ → ℕ → ℕ → ℕ → List ℤ → List ℕ → SumCall
sum_call state totals n first second pairs out =
    cond (not (eqb (length state) 3)) (sum_call_left (above16 + 2) state totals out)
    (numbers_left (component_summed (state_of state) totals n first second pairs out))
