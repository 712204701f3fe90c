-- What the C interface of bursts does (02, tickets 9 and 10; include/dfb.h): slots as two lists, and answers as numbers.
use Rattle.std.specs.Prelude.{ℕ, ◌+◌, ◌*◌, Bool, cond, not, ◌&&◌, List, leb, eqb, length, get_or}
use Rattle.lists.specs.Sums.{all_to}
use Rattle.lists.specs.Tables.{tabulate}
use Rattle.refusal.specs.Outcome.{Outcome, given, refused}
use Rattle.bursts.specs.declared.SlotState.{SlotState}
use Rattle.bursts.specs.declared.SlotState.TheVariants.{Free, Held, Sending}
use Rattle.bursts.specs.declared.Slot.{Slot}
use Rattle.bursts.specs.declared.Slots.{Slots}
use Rattle.bursts.specs.Slots.{slot_state_of, OfferAnswered, takes, refused_after, refused_alone, offer_outcome, choose_outcome, finish_outcome}
use Rattle.dfb_refusals.specs.Numbers.{above16}

-- ---- slots as two lists

-- status 0 is free, 1 held, 2 sending; the criterion of a free or sending slot is ignored
abbrev pub slot_from : ℕ → ℕ → Slot
slot_from status criterion = record { state = cond (eqb status 0) Free (cond (eqb status 1) (Held criterion) Sending) }

abbrev pub status_of : SlotState → ℕ
status_of Free = 0
status_of (Held c) = 1
status_of Sending = 2

-- a free or sending slot has criterion 0
abbrev pub criterion_of : SlotState → ℕ
criterion_of Free = 0
criterion_of (Held c) = c
criterion_of Sending = 0

-- at most 32 slots, each of status 0 to 2
unfoldable pub are_slots : List ℕ → Bool
are_slots status = leb (length status) 32 && all_to (length status) (λ i. leb (get_or status i 0) 2)

-- refused by 2 for lists of different lengths, then by 3 for more than 32 slots or a status over 2; 0 for lists of slots
abbrev pub lists_refused : List ℕ → List ℕ → ℕ
lists_refused status criteria =
    cond (not (eqb (length status) (length criteria))) (above16 + 2)
    (cond (not (are_slots status)) (above16 + 3)
    0)

-- the slots past the lists are free, and are not looked at
unfoldable pub slots_of : List ℕ → List ℕ → Slots
slots_of status criteria =
    record { slot = tabulate 32 (λ i. slot_from (get_or status i 0) (get_or criteria i 0)); count = length status }

abbrev pub statuses : ℕ → Slots → List ℕ
statuses n s = tabulate n (λ i. status_of (slot_state_of s i))

abbrev pub criteria_of : ℕ → Slots → List ℕ
criteria_of n s = tabulate n (λ i. criterion_of (slot_state_of s i))

-- ---- what a call leaves

pub record BurstCall : Type 0 where
  pub answer : ℕ
  pub status : List ℕ
  pub criteria : List ℕ

-- an answer and the lists afterwards; at a refusal they are as they were
abbrev pub burst_left : ℕ → List ℕ → List ℕ → BurstCall
burst_left answer status criteria = record { answer = answer; status = status; criteria = criteria }

-- accepted: the lists are those of the slots afterwards
abbrev pub slots_left : ℕ → List ℕ → Slots → BurstCall
slots_left answer status s = record { answer = answer; status = statuses (length status) s; criteria = criteria_of (length status) s }

-- choose and finish answer the slot
abbrev pub done_call : List ℕ → List ℕ → Outcome ℕ → Slots → BurstCall
done_call status criteria (given i) s = slots_left i status s
done_call status criteria (refused n) s = burst_left (above16 + n) status criteria

-- offer answers the slot, and the number of slots looked at in bits 31:20
abbrev pub offer_call : List ℕ → List ℕ → OfferAnswered → Slots → BurstCall
offer_call status criteria (takes i looked) s = slots_left (i + 0x100000 * looked) status s
offer_call status criteria (refused_after n looked) s = burst_left (above16 + n + 0x100000 * looked) status criteria
offer_call status criteria (refused_alone n) s = burst_left (above16 + n) status criteria

-- refused as the lists are, and then as the slots are
abbrev pub on_slots : List ℕ → List ℕ → BurstCall → BurstCall
on_slots status criteria call = cond (eqb (lists_refused status criteria) 0) call (burst_left (lists_refused status criteria) status criteria)

unfoldable pub burst_offer : List ℕ → List ℕ → ℕ → BurstCall
burst_offer status criteria x =
    on_slots status criteria
    (offer_call status criteria (offer_outcome (slots_of status criteria) x).answer (offer_outcome (slots_of status criteria) x).slots)

unfoldable pub burst_choose : List ℕ → List ℕ → BurstCall
burst_choose status criteria =
    on_slots status criteria
    (done_call status criteria (choose_outcome (slots_of status criteria)).answer (choose_outcome (slots_of status criteria)).slots)

unfoldable pub burst_finish : List ℕ → List ℕ → BurstCall
burst_finish status criteria =
    on_slots status criteria
    (done_call status criteria (finish_outcome (slots_of status criteria)).answer (finish_outcome (slots_of status criteria)).slots)
