-- 02's claim of ticket 10: what an offer answers depends on the slots that it looks at alone. Assumes nothing.
use Prim.Native.Nat.{ℕ, ◌+◌, ◌<◌}
use mathlib.Core.Path.{◌≡◌, refl, sym, ap, ap₂, ◌∙◌, subst}
use mathlib.Core.Bool.{Bool, true, false, cond, not}
use native.Mathlib.Omega.{arith}
use lib.Dec.{ltb}
use Rattle.lists.proofs.Sums.{all_to-ext, all_to-false}
use Rattle.lists.proofs.Choices.{by_cases, cond-true, cond-false}
use Rattle.bursts.specs.declared.Slots.{Slots}
use Rattle.bursts.specs.declared.SlotState.{SlotState}
use Rattle.bursts.specs.declared.SlotState.TheVariants.{Free, Held, Sending}
use Rattle.bursts.specs.Slots.{slot_state_of, is_free, held_below, held_above, lowest_slot, no_slot, smallest_held, greatest_held, sound, looked_at, offer_outcome}
use Rattle.bursts.specs.Searches.{place_for, place_answer}
use Rattle.bursts.specs.Claims.{AgreeBelow, SameAnswer}
use Rattle.lists.proofs.Lowest.{lowest-at, lowest-ext, lowest-before, lowest-test, none_passes}
use Rattle.bursts.proofs.Cases.{some-passes}
use Rattle.bursts.proofs.Rules.{offer-by-place}

module _ (s t : Slots) (many : s.count ≡ t.count) where
  -- ---- all slots agree

  module _ (agree : AgreeBelow s.count s t) where
    pub same_none : (test : SlotState → Bool) → no_slot s test ≡ no_slot t test
    same_none test =
        all_to-ext s.count (λ i. not (test (slot_state_of s i))) (λ i. not (test (slot_state_of t i))) (λ i l. ap (λ (a : SlotState). not (test a)) (agree i l))
        ∙ rw many

    pub same-lowest : (f g : SlotState → Bool) → ((a : SlotState) → f a ≡ g a) → lowest_slot s f ≡ lowest_slot t g
    same-lowest f g same =
        lowest-ext s.count (λ i. f (slot_state_of s i)) (λ i. g (slot_state_of t i)) (λ i l. same (slot_state_of s i) ∙ ap g (agree i l))
        ∙ rw many

    same-smallest : (a : SlotState) → smallest_held s a ≡ smallest_held t a
    same-smallest Free = refl
    same-smallest (Held c) = same_none (held_below c)
    same-smallest Sending = refl

    pub same-greatest : (a : SlotState) → greatest_held s a ≡ greatest_held t a
    same-greatest Free = refl
    same-greatest (Held c) = same_none (held_above c)
    same-greatest Sending = refl

    same_place : lowest_slot s (smallest_held s) ≡ lowest_slot t (smallest_held t)
    same_place = same-lowest (smallest_held s) (smallest_held t) same-smallest

  -- ---- the search

  pub same-search : (x : ℕ) → AgreeBelow (looked_at s) s t → (place_for s x ≡ place_for t x) × (looked_at s ≡ looked_at t)
  unfolding place_for looked_at
  same-search x agree =
      by_cases (no_slot s is_free)
      (λ e.
      let all : AgreeBelow s.count s t = subst (λ (n : ℕ). AgreeBelow n s t) (cond-true (no_slot s is_free) s.count _ e) agree in
      let e' : no_slot t is_free ≡ true = sym (same_none all is_free) ∙ e in
      let first = ap (λ (b : Bool). cond b s.count (lowest_slot s (smallest_held s))) (same_none all (held_below x)) in
      (simp (e, e') (first ∙ ap₂ (cond (no_slot t (held_below x))) many (same_place all)), simp (e, e') many))
      (λ e.
      let far = subst (λ (n : ℕ). AgreeBelow n s t) (cond-false (no_slot s is_free) s.count _ e) agree in
      let free : ℕ → Bool = λ i. is_free (slot_state_of s i) in
      let p = lowest_slot s is_free in
      let l : p < s.count = some-passes s.count free (no_slot s is_free) (none_passes s.count free) e in
      let here : is_free (slot_state_of t p) ≡ true = ap is_free (sym (far p (omega arith))) ∙ lowest-test s.count free l in
      let e' : no_slot t is_free ≡ false = all_to-false (λ i. not (is_free (slot_state_of t i))) t.count p (omega arith) (ap not here) in
      let q : lowest_slot t is_free ≡ p =
      lowest-at t.count (λ i. is_free (slot_state_of t i)) p (omega arith) here
      (λ j h. ap is_free (sym (far j (omega arith))) ∙ lowest-before s.count free j h) in
      (simp (e, e') (sym q), simp (e, e') (ap (λ (n : ℕ). n + 1) (sym q))))

pub answered : (s : Slots) (x : ℕ) → sound s ≡ true → (offer_outcome s x).answer ≡ place_answer s x
answered s x ok =
    by_cases (ltb (place_for s x) s.count)
    (λ e. ap (λ r. r.answer) (offer-by-place s x) ∙ simp (ok, e))
    (λ e. ap (λ r. r.answer) (offer-by-place s x) ∙ simp (ok, e))

pub same_answer : SameAnswer
same_answer s t x ok ok' many agree =
    let same = same-search s t many x agree in
    answered s x ok ∙ rw (same.0, same.1, many) (sym (answered t x ok'))
