-- The rules of the three calls by the slot that a search finds, or the number of slots. Assumes nothing.
use Prim.Native.Nat.{ℕ, ◌≤◌}
use mathlib.Core.Path.{◌≡◌, refl, sym, ap, ◌∙◌}
use mathlib.Core.Bool.{Bool, true, false, cond, not}
use native.Mathlib.Omega.{arith}
use borrow.Author.Tests.{leb-true, lt-ltb, le-ltb, not-false}
use lib.Dec.{ltb}
use Rattle.lists.proofs.Choices.{by_cases, both}
use Rattle.bursts.specs.declared.Slots.{Slots}
use Rattle.bursts.specs.declared.SlotState.TheVariants.{Free, Sending}
use Rattle.bursts.specs.Slots.{slot_state_of, is_free, is_held, is_sending, held_below, lowest_slot, no_slot, greatest_held, sound, SlotsOutcome, refused_by, becomes, looked_at, OfferOutcome, refused_after, refused_alone, taken, offer_outcome, choose_outcome, finish_outcome}
use Rattle.bursts.specs.Searches.{place_for}
use Rattle.lists.proofs.Lowest.{none_passes}
use Rattle.bursts.proofs.Finding.{smallest-some, greatest-none}

pub sound-few : (s : Slots) → sound s ≡ true → s.count ≤ 32
unfolding sound
sound-few s e = leb-true s.count 32 (both _ _ e).0

-- where none passes, the lowest is the number of slots, and otherwise it is less
some_below : (t : Bool) (l n : ℕ) → t ≡ not (ltb l n) → t ≡ false → ltb l n ≡ true
some_below t l n e f = not-false (ltb l n) (sym e ∙ f)

pub offer-by-place : (s : Slots) (x : ℕ) →
    offer_outcome s x
    ≡ cond (not (sound s)) (record { answer = refused_alone 3; slots = s })
    (cond (ltb (place_for s x) s.count) (taken s (place_for s x) (looked_at s) x) (record { answer = refused_after 25 (looked_at s); slots = s }))
unfolding offer_outcome place_for
offer-by-place s x =
    ap (λ (r : OfferOutcome). cond (not (sound s)) (record { answer = refused_alone 3; slots = s }) r)
    (by_cases (no_slot s is_free)
    (λ e.
    by_cases (no_slot s (held_below x))
    (λ f. simp (e, f, le-ltb s.count s.count (omega arith)))
    (λ f. simp (e, f, lt-ltb _ _ (smallest-some s x f))))
    (λ e. simp (e, some_below (no_slot s is_free) (lowest_slot s is_free) s.count (none_passes s.count (λ i. is_free (slot_state_of s i))) e)))

cond-not : {A : Type 0} (t b : Bool) (x y : A) → t ≡ not b → cond t x y ≡ cond b y x
cond-not t true x y e = rw e
cond-not t false x y e = rw e

pub choose-by-place : (s : Slots) →
    choose_outcome s
    ≡ cond (not (sound s)) (refused_by 3 s)
    (cond (ltb (lowest_slot s is_sending) s.count) (refused_by 27 s)
    (cond (ltb (lowest_slot s (greatest_held s)) s.count) (becomes s (lowest_slot s (greatest_held s)) Sending) (refused_by 26 s)))
unfolding choose_outcome
choose-by-place s =
    let none = none_passes s.count (λ i. is_sending (slot_state_of s i)) in
    ap (λ (r : SlotsOutcome). cond (not (sound s)) (refused_by 3 s) r)
    (ap (λ (r : SlotsOutcome). cond (not (no_slot s is_sending)) (refused_by 27 s) r) (cond-not (no_slot s is_held) (ltb (lowest_slot s (greatest_held s)) s.count) (refused_by 26 s) _ (greatest-none s))
    ∙ cond-not (not (no_slot s is_sending)) (no_slot s is_sending) (refused_by 27 s) _ refl
    ∙ cond-not (no_slot s is_sending) (ltb (lowest_slot s is_sending) s.count) _ (refused_by 27 s) none)

pub finish-by-place : (s : Slots) →
    finish_outcome s
    ≡ cond (not (sound s)) (refused_by 3 s)
    (cond (ltb (lowest_slot s is_sending) s.count) (becomes s (lowest_slot s is_sending) Free) (refused_by 28 s))
unfolding finish_outcome
finish-by-place s =
    ap (λ (r : SlotsOutcome). cond (not (sound s)) (refused_by 3 s) r)
    (cond-not (no_slot s is_sending) (ltb (lowest_slot s is_sending) s.count) (refused_by 28 s) _ (none_passes s.count (λ i. is_sending (slot_state_of s i))))
