-- What a caller learns from an answer, and what a call leaves. Assumes nothing.
use Prim.Native.Nat.{ℕ, ◌+◌, ◌<◌}
use mathlib.Core.Path.{◌≡◌, refl, sym, ap, subst, ◌∙◌}
use mathlib.Core.Bool.{Bool, true, ◌&&◌, false≢true}
use mathlib.Core.List.{List}
use mathlib.Core.Logic.{◌⊎◌, inl, inr}
use native.Mathlib.Omega.{arith}
use borrow.Author.Tests.{eqb-true, eqb-false, le-ltb}
use lib.Dec.{ltb, eqb}
use lib.IntN.{ℤ}
use lib.ListN.{length}
use Rattle.lists.proofs.Choices.{by_cases}
use Rattle.refusal.specs.Outcome.{Outcome, given, refused, is_given}
use Rattle.summed.specs.declared.SumState.{SumState}
use Rattle.summed.specs.Call.{SumLeft, component_summed}
use Rattle.summed.proofs.Theorems.{by_call, refused-unchanged}
use Rattle.dfb_refusals.specs.Numbers.{above16, outcome_number}
use Rattle.dfb_refusals.proofs.Apart.{Below, given_below, refused-below, told-apart}
use Rattle.dfb_summed.specs.Calls.{state_of, state_numbers, SumCall, sum_call_left, numbers_left, sum_call}
use Rattle.dfb_summed.specs.Claims.{SumCallApart, AnswersGiven, OtherLengthRefused, RefusedCallUnchanged, AcceptedCallGiven, WorkedNumbers}
use Rattle.dfb_summed.proofs.Calls.{state-numbers, call-other, call-three}

pub worked-numbers : WorkedNumbers
worked-numbers = (refl, refl)

pub other-length-refused : OtherLengthRefused
other-length-refused = call-other

module _ (state totals : List ℕ) (n first second : ℕ) (pairs : List ℤ) (out : List ℕ) where
  abbrev left : SumLeft
  left = component_summed (state_of state) totals n first second pairs out

  below : Below above16 left.answer
  below =
      by_call (λ o. Below above16 o.answer) (state_of state) totals n first second pairs out (λ m. refused-below above16 m)
      (λ g sums. given_below above16 0 (omega arith)) (λ g sums. given_below above16 4096 (omega arith))

  answers : (length state ≡ 3) → (sum_call state totals n first second pairs out).answer ≡ outcome_number above16 left.answer
  answers e = ap (λ (c : SumCall). c.answer) (call-three state totals n first second pairs out e)

  apart : ltb (sum_call state totals n first second pairs out).answer above16 ≡ (eqb (length state) 3 && is_given left.answer)
  apart =
      by_cases (eqb (length state) 3)
      (λ t.
      ap (λ (v : ℕ). ltb v above16) (answers (eqb-true (length state) 3 t)) ∙ told-apart above16 left.answer below
      ∙ ap (λ (b : Bool). b && is_given left.answer) (sym t))
      (λ t.
      ap (λ (c : SumCall). ltb c.answer above16) (call-other state totals n first second pairs out (eqb-false (length state) 3 t))
      ∙ le-ltb (above16 + 2) above16 (omega arith) ∙ ap (λ (b : Bool). b && is_given left.answer) (sym t))

  -- the number of an outcome that is below the base
  number-given : ltb (outcome_number above16 left.answer) above16 ≡ true → (outcome_number above16 left.answer ≡ 0) ⊎ (outcome_number above16 left.answer ≡ 4096)
  number-given =
      by_call (λ o. ltb (outcome_number above16 o.answer) above16 ≡ true → (outcome_number above16 o.answer ≡ 0) ⊎ (outcome_number above16 o.answer ≡ 4096))
      (state_of state) totals n first second pairs out
      (λ m t. absurd (false≢true (sym (le-ltb (above16 + m) above16 (omega arith)) ∙ t)))
      (λ g sums t. inl refl) (λ g sums t. inr refl)

  given-answers : ltb (sum_call state totals n first second pairs out).answer above16 ≡ true →
      ((sum_call state totals n first second pairs out).answer ≡ 0) ⊎ ((sum_call state totals n first second pairs out).answer ≡ 4096)
  given-answers t =
      by_cases (eqb (length state) 3)
      (λ u.
      let e = answers (eqb-true (length state) 3 u) in
      subst (λ (v : ℕ). (v ≡ 0) ⊎ (v ≡ 4096)) (sym e) (number-given (subst (λ (v : ℕ). ltb v above16 ≡ true) e t)))
      (λ u. absurd (false≢true (ap (λ (b : Bool). b && is_given left.answer) (sym u) ∙ sym apart ∙ t)))

pub sum-call-apart : SumCallApart
sum-call-apart = apart

pub answers-given : AnswersGiven
answers-given = given-answers

pub refused-call-unchanged : RefusedCallUnchanged
refused-call-unchanged state totals n first second pairs out m e r =
    call-three state totals n first second pairs out e
    ∙ ap numbers_left (refused-unchanged (state_of state) totals n first second pairs out m r)
    ∙ ap (λ (l : List ℕ). sum_call_left (above16 + m) l totals out) (state-numbers state e)

pub accepted-call-given : AcceptedCallGiven
accepted-call-given state totals n first second pairs out v e r =
    call-three state totals n first second pairs out e
    ∙ ap (λ (o : Outcome ℕ). sum_call_left (outcome_number above16 o) (state_numbers (component_summed (state_of state) totals n first second pairs out).state)
    (component_summed (state_of state) totals n first second pairs out).totals (component_summed (state_of state) totals n first second pairs out).out) r

-- a value lies below the base of refusals
abbrev pub Fits : Outcome ℕ → Type 0
Fits (given v) = v < above16
Fits (refused n) = Unit {0}

-- what the library answers fits
pub left-fits : (s : SumState) (totals : List ℕ) (n first second : ℕ) (pairs : List ℤ) (out : List ℕ) → Fits (component_summed s totals n first second pairs out).answer
left-fits s totals n first second pairs out =
    by_call (λ o. Fits o.answer) s totals n first second pairs out (λ m. tt) (λ g sums. omega arith) (λ g sums. omega arith)
