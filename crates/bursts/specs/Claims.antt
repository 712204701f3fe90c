-- 02, tickets 9 and 10: what is claimed of the slots. Assumes nothing.
use Rattle.std.specs.Prelude.{ℕ, ◌+◌, ◌<◌, min, ◌≡◌, Bool, true, false, cond, List, [], ◌∷◌, ◌↔◌, length, leb}
use Rattle.lists.specs.Sums.{sum_to}
use Rattle.bursts.specs.declared.SlotState.{SlotState}
use Rattle.bursts.specs.declared.SlotState.TheVariants.{Free, Held, Sending}
use Rattle.bursts.specs.declared.Slots.{Slots}
use Rattle.bursts.specs.Slots.{slot_state_of, is_free, held_below, no_slot, sending_slots, sound, looked_at, becomes, refused_after, offer_outcome, finish_outcome}
use Rattle.bursts.specs.Calls.{Call, offer, perform, after_calls, offers, NoFinish}

-- a sound state; every value of the type has 32 slots
pub record Sound (s : Slots) : Type 0 where
  pub whole : length s.slot ≡ 32
  pub state : sound s ≡ true

-- ---- how many criteria are at least x

-- held, with a criterion of at least x
abbrev pub held_from : ℕ → SlotState → Bool
held_from x Free = false
held_from x (Held c) = leb x c
held_from x Sending = false

unfoldable pub held_at_least : ℕ → Slots → ℕ
held_at_least x s = sum_to s.count (λ i. cond (held_from x (slot_state_of s i)) 1 0)

unfoldable pub offered_at_least : ℕ → List ℕ → ℕ
offered_at_least x [] = 0
offered_at_least x (y ∷ ys) = cond (leb x y) 1 0 + offered_at_least x ys

-- What is claimed of a sound state s, and of whole lists of calls from it.
--
-- The blocks held are the best. With no slot sending, after any list of offers, as many held criteria are at least x, for every x, as there are
-- slots, or as there are such criteria among those held before and those offered, whichever is less. So the criteria held are, each as often
-- as it occurs, the greatest of those held before and those offered. Of blocks with equal criteria the theorem does not say which are held:
-- an offer that only equals the smallest is turned away, so that the earlier block stays, and a greater one replaces the lowest slot of the
-- smallest.
pub record SlotsKept (s : Slots) : Type 0 where
  pub stays-sound : (cs : List Call) → Sound (after_calls s cs)
  pub as_many : (cs : List Call) → (after_calls s cs).count ≡ s.count
  pub sending-stays : (cs : List Call) → NoFinish cs → (i : ℕ) → i < s.count → slot_state_of s i ≡ Sending → slot_state_of (after_calls s cs) i ≡ Sending
  pub sending-finished : (i : ℕ) → i < s.count → slot_state_of s i ≡ Sending → finish_outcome s ≡ becomes s i Free
  pub best-held : sending_slots s ≡ 0 → (xs : List ℕ) (x : ℕ) →
      held_at_least x (after_calls s (offers xs)) ≡ min s.count (held_at_least x s + offered_at_least x xs)
  pub turned-away-stays : (x : ℕ) → no_slot s is_free ≡ true → no_slot s (held_below x) ≡ true → perform s (offer x) ≡ s

abbrev pub BurstsKept : Type 0
BurstsKept = (s : Slots) → Sound s → SlotsKept s

-- ---- ticket 9: a block is turned away exactly if no slot is free and no held slot has a smaller criterion

abbrev pub TurnedAwayExactly : Type 0
TurnedAwayExactly =
    (s : Slots) (x : ℕ) → sound s ≡ true →
    ((looked : ℕ) × ((offer_outcome s x).answer ≡ refused_after 25 looked)) ↔ ((no_slot s is_free ≡ true) × (no_slot s (held_below x) ≡ true))

-- ---- ticket 10: two sound states of as many slots that agree as far as an offer looks get the same answer

-- the first n slots are in the same states
abbrev pub AgreeBelow : ℕ → Slots → Slots → Type 0
AgreeBelow n s t = (j : ℕ) → j < n → slot_state_of s j ≡ slot_state_of t j

-- The offer looks at the first `looked_at s` slots: up to and including the first free one, or all of them. The answer is the slot and the
-- number, or 25 and the number.
abbrev pub SameAnswer : Type 0
SameAnswer =
    (s t : Slots) (x : ℕ) → sound s ≡ true → sound t ≡ true → s.count ≡ t.count → AgreeBelow (looked_at s) s t →
    (offer_outcome s x).answer ≡ (offer_outcome t x).answer
