-- How a caller tells the answers of offer, choose and finish apart. Assumes nothing.
use Rattle.std.specs.Prelude.{ℕ, ◌+◌, ◌-◌, ◌/◌, ◌%◌, ◌≡◌, Bool, true, false, cond, ◌&&◌, List, ltb, eqb}
use Rattle.refusal.specs.Outcome.{is_given}
use Rattle.bursts.specs.Slots.{OfferAnswered, takes, refused_after, refused_alone, offer_outcome, choose_outcome, finish_outcome}
use Rattle.dfb_refusals.specs.Numbers.{above16}
use Rattle.dfb_bursts.specs.Bursts.{lists_refused, slots_of, burst_offer, burst_choose, burst_finish}

-- a slot is answered exactly where the lists are those of slots and the call is accepted
abbrev pub ChooseApart : Type 0
ChooseApart =
    (status criteria : List ℕ) →
    ltb (burst_choose status criteria).answer above16 ≡ (eqb (lists_refused status criteria) 0 && is_given (choose_outcome (slots_of status criteria)).answer)

abbrev pub FinishApart : Type 0
FinishApart =
    (status criteria : List ℕ) →
    ltb (burst_finish status criteria).answer above16 ≡ (eqb (lists_refused status criteria) 0 && is_given (finish_outcome (slots_of status criteria)).answer)

-- ---- an offer: the number of slots looked at in bits 31:20, and in the lower bits a slot, or a refusal above every slot

abbrev pub is_taken : OfferAnswered → Bool
is_taken (takes i looked) = true
is_taken (refused_after n looked) = false
is_taken (refused_alone n) = false

-- the slot, or the refusal
abbrev pub low_number : OfferAnswered → ℕ
low_number (takes i looked) = i
low_number (refused_after n looked) = above16 + n
low_number (refused_alone n) = above16 + n

-- how many slots were looked at
abbrev pub looked_number : OfferAnswered → ℕ
looked_number (takes i looked) = looked
looked_number (refused_after n looked) = looked
looked_number (refused_alone n) = 0

-- what an offer to two lists answers: lists that are not those of slots are refused alone
abbrev pub offer_answered : List ℕ → List ℕ → ℕ → OfferAnswered
offer_answered status criteria x =
    cond (eqb (lists_refused status criteria) 0) (offer_outcome (slots_of status criteria) x).answer (refused_alone (lists_refused status criteria - above16))

-- the number has both parts of the answer
pub record OfferParts (number : ℕ) (a : OfferAnswered) : Type 0 where
  pub low : number % 0x100000 ≡ low_number a
  pub looked : number / 0x100000 ≡ looked_number a
  pub taken : ltb (low_number a) above16 ≡ is_taken a

abbrev pub OfferApart : Type 0
OfferApart = (status criteria : List ℕ) (x : ℕ) → OfferParts (burst_offer status criteria x).answer (offer_answered status criteria x)
