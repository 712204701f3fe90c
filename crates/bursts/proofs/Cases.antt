-- The slots after each of the three calls, case by case. Assumes nothing.
use Prim.Native.Nat.{ℕ, ◌<◌}
use mathlib.Core.Path.{◌≡◌, sym, ◌∙◌}
use mathlib.Core.Bool.{Bool, true, false, not, true≢false}
use borrow.Author.Tests.{ltb-true, not-true, not-false}
use lib.Dec.{ltb}
use Rattle.lists.proofs.Choices.{cond-at}
use Rattle.bursts.specs.declared.Slots.{Slots}
use Rattle.bursts.specs.declared.SlotState.TheVariants.{Free, Held, Sending}
use Rattle.lists.specs.Lowest.{lowest}
use Rattle.bursts.specs.Slots.{slot_state_of, is_free, is_held, is_sending, held_below, lowest_slot, no_slot, smallest_held, greatest_held, sound, SlotsOutcome, OfferOutcome, changed, offer_outcome, choose_outcome, finish_outcome}
use Rattle.lists.proofs.Lowest.{lowest-test, none_passes}
use Rattle.bursts.proofs.Finding.{smallest-some, greatest-none}

-- a slot passes where not every slot fails
pub some-passes : (n : ℕ) (test : ℕ → Bool) (t : Bool) → t ≡ not (ltb (lowest n test) n) → t ≡ false → lowest n test < n
some-passes n test t e f = ltb-true (lowest n test) n (not-false _ (sym e ∙ f))

module _ (s : Slots) (P : Slots → Type 0) where
  pub offer-cases : (x : ℕ) →
      ((p : ℕ) → p < s.count → is_free (slot_state_of s p) ≡ true → P (changed s p (Held x))) →
      (no_slot s is_free ≡ true → no_slot s (held_below x) ≡ false → (p : ℕ) → p < s.count → smallest_held s (slot_state_of s p) ≡ true → P (changed s p (Held x))) →
      (no_slot s is_free ≡ true → no_slot s (held_below x) ≡ true → P s) →
      sound s ≡ true → P (offer_outcome s x).slots
  unfolding offer_outcome
  offer-cases x free replaced away ok =
      cond-at (λ (r : OfferOutcome). P r.slots) (not (sound s)) (λ e. absurd (true≢false (sym ok ∙ not-true _ e)))
      (λ e.
      cond-at (λ (r : OfferOutcome). P r.slots) (not (no_slot s is_free))
      (λ f.
      let test : ℕ → Bool = λ i. is_free (slot_state_of s i) in
      let l = some-passes s.count test (no_slot s is_free) (none_passes s.count test) (not-true _ f) in
      free (lowest_slot s is_free) l (lowest-test s.count test l))
      (λ f.
      cond-at (λ (r : OfferOutcome). P r.slots) (not (no_slot s (held_below x)))
      (λ g.
      let l = smallest-some s x (not-true _ g) in
      replaced (not-false _ f) (not-true _ g) (lowest_slot s (smallest_held s)) l (lowest-test s.count (λ i. smallest_held s (slot_state_of s i)) l))
      (λ g. away (not-false _ f) (not-false _ g))))

  pub choose-cases : P s → ((p : ℕ) → p < s.count → no_slot s is_sending ≡ true → P (changed s p Sending)) → P (choose_outcome s).slots
  unfolding choose_outcome
  choose-cases same chosen =
      cond-at (λ (r : SlotsOutcome). P r.slots) (not (sound s)) (λ e. same)
      (λ e.
      cond-at (λ (r : SlotsOutcome). P r.slots) (not (no_slot s is_sending)) (λ f. same)
      (λ f.
      cond-at (λ (r : SlotsOutcome). P r.slots) (no_slot s is_held) (λ g. same)
      (λ g.
      chosen (lowest_slot s (greatest_held s))
      (some-passes s.count (λ i. greatest_held s (slot_state_of s i)) (no_slot s is_held) (greatest-none s) g)
      (not-false _ f))))

  pub finish-cases : P s → ((p : ℕ) → p < s.count → P (changed s p Free)) → P (finish_outcome s).slots
  unfolding finish_outcome
  finish-cases same finished =
      cond-at (λ (r : SlotsOutcome). P r.slots) (not (sound s)) (λ e. same)
      (λ e.
      cond-at (λ (r : SlotsOutcome). P r.slots) (no_slot s is_sending) (λ f. same)
      (λ f.
      let test : ℕ → Bool = λ i. is_sending (slot_state_of s i) in
      finished (lowest_slot s is_sending) (some-passes s.count test (no_slot s is_sending) (none_passes s.count test) f)))
