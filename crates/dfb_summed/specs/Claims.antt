-- How a caller tells accepted answers from refusals, and what an accepted and a refused call leave. Assumes nothing.
use Rattle.std.specs.Prelude.{ℕ, ◌+◌, ◌≡◌, true, ◌&&◌, List, [], ◌∷◌, ◌⊎◌, ltb, eqb, ℤ, length}
use Rattle.refusal.specs.Outcome.{given, refused, is_given}
use Rattle.summed.specs.Call.{component_summed}
use Rattle.dfb_refusals.specs.Numbers.{above16}
use Rattle.dfb_summed.specs.Calls.{state_of, state_numbers, sum_call_left, sum_call}

-- below 0x10000 the call was accepted; a state of another length than 3 is a refusal too
abbrev pub SumCallApart : Type 0
SumCallApart =
    (state totals : List ℕ) (n first second : ℕ) (pairs : List ℤ) (out : List ℕ) →
    ltb (sum_call state totals n first second pairs out).answer above16
    ≡ (eqb (length state) 3 && is_given (component_summed (state_of state) totals n first second pairs out).answer)

-- an accepted answer is 0 or 4096
abbrev pub AnswersGiven : Type 0
AnswersGiven =
    (state totals : List ℕ) (n first second : ℕ) (pairs : List ℤ) (out : List ℕ) →
    ltb (sum_call state totals n first second pairs out).answer above16 ≡ true →
    ((sum_call state totals n first second pairs out).answer ≡ 0) ⊎ ((sum_call state totals n first second pairs out).answer ≡ 4096)

-- a state of another length than 3 is refused by 2
abbrev pub OtherLengthRefused : Type 0
OtherLengthRefused =
    (state totals : List ℕ) (n first second : ℕ) (pairs : List ℤ) (out : List ℕ) → ¬ (length state ≡ 3) →
    sum_call state totals n first second pairs out ≡ sum_call_left (above16 + 2) state totals out

-- a refused call leaves state, totals and output as they were
abbrev pub RefusedCallUnchanged : Type 0
RefusedCallUnchanged =
    (state totals : List ℕ) (n first second : ℕ) (pairs : List ℤ) (out : List ℕ) (m : ℕ) → length state ≡ 3 →
    (component_summed (state_of state) totals n first second pairs out).answer ≡ refused m →
    sum_call state totals n first second pairs out ≡ sum_call_left (above16 + m) state totals out

-- an accepted call answers the bytes written, and leaves the state, totals and output of the library's
abbrev pub AcceptedCallGiven : Type 0
AcceptedCallGiven =
    (state totals : List ℕ) (n first second : ℕ) (pairs : List ℤ) (out : List ℕ) (v : ℕ) → length state ≡ 3 →
    (component_summed (state_of state) totals n first second pairs out).answer ≡ given v →
    sum_call state totals n first second pairs out
    ≡ sum_call_left v (state_numbers (component_summed (state_of state) totals n first second pairs out).state)
    (component_summed (state_of state) totals n first second pairs out).totals (component_summed (state_of state) totals n first second pairs out).out

-- the next component is the first number, then come the first and the second mask
abbrev pub WorkedNumbers : Type 0
WorkedNumbers =
    (state_numbers (record { next = 5; first = 0x03; second = 0xC0 }) ≡ 5 ∷ 0x03 ∷ 0xC0 ∷ [])
    × (state_of (5 ∷ 0x03 ∷ 0xC0 ∷ []) ≡ record { next = 5; first = 0x03; second = 0xC0 })
