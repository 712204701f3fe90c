-- 02, tickets 9 and 10 (source document 004, sections 1.2 and 2.3): burst slots, and what offer, choose and finish do. Assumes nothing.
use Rattle.std.specs.Prelude.{ℕ, ◌+◌, Bool, true, false, cond, ◌&&◌, not, get_or, set, leb, ltb, Result, Ok, Err}
use Rattle.lists.specs.Sums.{all_to, sum_to}
use Rattle.lists.specs.Lowest.{lowest}
use Rattle.refusal.specs.Number.{number_of}
use Rattle.refusal.specs.declared.Refusal.{Refusal}
use Rattle.refusal.specs.Outcome.{Outcome, given, refused, answer_outcome}
use Rattle.bursts.specs.declared.SlotState.{SlotState}
use Rattle.bursts.specs.declared.SlotState.TheVariants.{Free, Held, Sending}
use Rattle.bursts.specs.declared.Slots.{Slots}
use Rattle.bursts.specs.declared.Done.{Done}
use Rattle.bursts.specs.declared.Placed.{Placed}
use Rattle.bursts.specs.declared.OfferRefusal.{OfferRefusal}
use Rattle.bursts.specs.declared.Offered.{Offered}

-- ---- the state of slot i

abbrev pub slot_state_of : Slots → ℕ → SlotState
slot_state_of s i = (get_or s.slot i (record { state = Free })).state

abbrev pub is_free : SlotState → Bool
is_free Free = true
is_free (Held c) = false
is_free Sending = false

abbrev pub is_held : SlotState → Bool
is_held Free = false
is_held (Held c) = true
is_held Sending = false

abbrev pub is_sending : SlotState → Bool
is_sending Free = false
is_sending (Held c) = false
is_sending Sending = true

-- held, with a criterion smaller than x
abbrev pub held_below : ℕ → SlotState → Bool
held_below x Free = false
held_below x (Held c) = ltb c x
held_below x Sending = false

-- held, with a criterion greater than x
abbrev pub held_above : ℕ → SlotState → Bool
held_above x Free = false
held_above x (Held c) = ltb x c
held_above x Sending = false

-- ---- slots that pass a test

-- the lowest that does; the number of slots if none does
abbrev pub lowest_slot : Slots → (SlotState → Bool) → ℕ
lowest_slot s test = lowest s.count (λ i. test (slot_state_of s i))

-- none does
abbrev pub no_slot : Slots → (SlotState → Bool) → Bool
no_slot s test = all_to s.count (λ i. not (test (slot_state_of s i)))

-- held, and no slot is held with a smaller criterion
abbrev pub smallest_held : Slots → SlotState → Bool
smallest_held s Free = false
smallest_held s (Held c) = no_slot s (held_below c)
smallest_held s Sending = false

-- held, and no slot is held with a greater criterion
abbrev pub greatest_held : Slots → SlotState → Bool
greatest_held s Free = false
greatest_held s (Held c) = no_slot s (held_above c)
greatest_held s Sending = false

-- ---- a sound state: at most 32 slots, and at most one sending

unfoldable pub sending_slots : Slots → ℕ
sending_slots s = sum_to s.count (λ i. cond (is_sending (slot_state_of s i)) 1 0)

unfoldable pub sound : Slots → Bool
sound s = leb s.count 32 && leb (sending_slots s) 1

-- ---- what a call leaves: its answer, and the slots afterwards

pub record SlotsOutcome : Type 0 where
  pub answer : Outcome ℕ
  pub slots : Slots

abbrev pub done_outcome : Done → SlotsOutcome
done_outcome d = record { answer = answer_outcome d.answer; slots = d.slots }

-- refused: the slots are as they were
abbrev pub refused_by : ℕ → Slots → SlotsOutcome
refused_by n s = record { answer = refused n; slots = s }

-- slot i has a new state
abbrev pub changed : Slots → ℕ → SlotState → Slots
changed s i state = record { slot = set s.slot i (record { state = state }); count = s.count }

-- slot i is the answer, and has a new state
abbrev pub becomes : Slots → ℕ → SlotState → SlotsOutcome
becomes s i state = record { answer = given i; slots = changed s i state }

-- what an offer answers: a slot and the number of slots looked at, a refusal with that number, or a refusal alone
pub data OfferAnswered : Type 0 where
  takes : ℕ → ℕ → OfferAnswered
  refused_after : ℕ → ℕ → OfferAnswered
  refused_alone : ℕ → OfferAnswered

pub record OfferOutcome : Type 0 where
  pub answer : OfferAnswered
  pub slots : Slots

abbrev pub offer_answer_outcome : Result Placed OfferRefusal → OfferAnswered
offer_answer_outcome (Ok p) = takes p.slot p.looked
offer_answer_outcome (Err (OfferRefusal.TurnedAway looked)) = refused_after (number_of Refusal.TurnedAway) looked
offer_answer_outcome (Err (OfferRefusal.Refused r)) = refused_alone (number_of r)

abbrev pub offered_outcome : Offered → OfferOutcome
offered_outcome r = record { answer = offer_answer_outcome r.answer; slots = r.slots }

-- slot i takes the block of criterion x
abbrev pub taken : Slots → ℕ → ℕ → ℕ → OfferOutcome
taken s i looked x = record { answer = takes i looked; slots = changed s i (Held x) }

-- ---- the three calls

-- the number of slots that an offer looks at: up to and including the first free one, or all of them
unfoldable pub looked_at : Slots → ℕ
looked_at s = cond (no_slot s is_free) s.count (lowest_slot s is_free + 1)

-- A block of criterion x takes the lowest free slot. If none is free it takes the held slot with the smallest criterion, the lowest on a
-- tie, but only where that criterion is smaller than x.
unfoldable pub offer_outcome : Slots → ℕ → OfferOutcome
offer_outcome s x =
    cond (not (sound s)) (record { answer = refused_alone 3; slots = s })
    (cond (not (no_slot s is_free)) (taken s (lowest_slot s is_free) (looked_at s) x)
    (cond (not (no_slot s (held_below x))) (taken s (lowest_slot s (smallest_held s)) (looked_at s) x)
    (record { answer = refused_after 25 (looked_at s); slots = s })))

-- The held slot with the greatest criterion, the lowest on a tie, begins to send, if none is sending.
unfoldable pub choose_outcome : Slots → SlotsOutcome
choose_outcome s =
    cond (not (sound s)) (refused_by 3 s)
    (cond (not (no_slot s is_sending)) (refused_by 27 s)
    (cond (no_slot s is_held) (refused_by 26 s)
    (becomes s (lowest_slot s (greatest_held s)) Sending)))

-- The sending slot becomes free.
unfoldable pub finish_outcome : Slots → SlotsOutcome
finish_outcome s =
    cond (not (sound s)) (refused_by 3 s)
    (cond (no_slot s is_sending) (refused_by 28 s)
    (becomes s (lowest_slot s is_sending) Free))
