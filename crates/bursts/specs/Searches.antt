-- For contracts of private functions: what the searches answer, and what a call leaves by its answer.
use Rattle.std.specs.Prelude.{ℕ, Bool, false, cond, Option, Some, None, List, length, ltb, eqb}
use Rattle.refusal.specs.Outcome.{Outcome, given, refused}
use Rattle.bursts.specs.declared.SlotState.{SlotState}
use Rattle.bursts.specs.declared.SlotState.TheVariants.{Free, Held, Sending}
use Rattle.bursts.specs.declared.Slot.{Slot}
use Rattle.bursts.specs.declared.Slots.{Slots}
use Rattle.bursts.specs.Slots.{lowest_slot, no_slot, smallest_held, is_free, is_sending, held_below, looked_at, SlotsOutcome, refused_by, becomes, OfferAnswered, takes, refused_after}

-- the slots of a list
abbrev pub listed : List Slot → Slots
listed l = record { slot = l; count = length l }

-- the same state, with the same criterion
abbrev pub same_state : SlotState → SlotState → Bool
same_state Free b = is_free b
same_state (Held c) Free = false
same_state (Held c) (Held d) = eqb d c
same_state (Held c) Sending = false
same_state Sending b = is_sending b

-- a slot, or none where it is the number of slots
abbrev pub slot_below : ℕ → ℕ → Option ℕ
slot_below count i = cond (ltb i count) (Some i) None

-- the lowest slot that passes a test
abbrev pub slot_found : Slots → (SlotState → Bool) → Option ℕ
slot_found s test = slot_below s.count (lowest_slot s test)

-- the slot of the smallest criterion, where that is below x
unfoldable pub smallest_below : Slots → ℕ → Option ℕ
smallest_below s x = slot_below s.count (cond (no_slot s (held_below x)) s.count (lowest_slot s (smallest_held s)))

-- the slot that takes an offered block of criterion x; the number of slots if it is turned away
unfoldable pub place_for : Slots → ℕ → ℕ
place_for s x =
    cond (no_slot s is_free)
    (cond (no_slot s (held_below x)) s.count (lowest_slot s (smallest_held s)))
    (lowest_slot s is_free)

-- what an offer to a sound state answers
abbrev pub place_answer : Slots → ℕ → OfferAnswered
place_answer s x = cond (ltb (place_for s x) s.count) (takes (place_for s x) (looked_at s)) (refused_after 25 (looked_at s))

-- a slot that is given has a new state
abbrev pub settled : Slots → Outcome ℕ → SlotState → SlotsOutcome
settled s (given i) state = becomes s i state
settled s (refused n) state = refused_by n s
