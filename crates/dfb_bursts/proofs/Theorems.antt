-- The answers of offer, choose and finish are told apart from refusals. Assumes nothing.
use mathlib.Core.Path.{◌≡◌, refl, ap, ◌∙◌}
use mathlib.Core.Bool.{Bool, true, false, cond, not, ◌&&◌}
use mathlib.Core.List.{List}
use Prim.Native.Nat.{ℕ, ◌+◌, ◌-◌, ◌≤◌}
use native.Mathlib.Omega.{arith}
use borrow.Author.Tests.{le-ltb, eqb-false}
use lib.Dec.{ltb, eqb}
use lib.ListN.{length}
use Rattle.refusal.specs.Outcome.{Outcome, given, refused, is_given}
use Rattle.bursts.specs.declared.Slots.{Slots}
use Rattle.bursts.specs.Slots.{SlotsOutcome, refused_alone, OfferOutcome, choose_outcome, finish_outcome, offer_outcome}
use Rattle.dfb_refusals.specs.Numbers.{above16, outcome_number}
use Rattle.dfb_refusals.proofs.Apart.{Below, told-apart}
use Rattle.dfb_bursts.specs.Bursts.{are_slots, lists_refused, slots_of, burst_left, done_call, offer_call, burst_offer, burst_choose, burst_finish}
use Rattle.dfb_bursts.specs.Claims.{ChooseApart, FinishApart, OfferParts, OfferApart}
use Rattle.dfb_bursts.proofs.Bursts.{SmallOffer, choose-small, finish-small, offer-small}

module _ (status criteria : List ℕ) where
  refused_over : (p q : Bool) → (cond p (above16 + 2) (cond q (above16 + 3) 0) ≡ 0 → ⊥) → above16 ≤ cond p (above16 + 2) (cond q (above16 + 3) 0)
  refused_over true q h = omega arith
  refused_over false true h = omega arith
  refused_over false false h = absurd (h refl)

  done-number : (a : Outcome ℕ) (s : Slots) → (done_call status criteria a s).answer ≡ outcome_number above16 a
  done-number (given i) s = refl
  done-number (refused n) s = refl

  by-lists : (t : Bool) → eqb (lists_refused status criteria) 0 ≡ t → (o : SlotsOutcome) → Below above16 o.answer →
      ltb (cond t (done_call status criteria o.answer o.slots) (burst_left (lists_refused status criteria) status criteria)).answer above16 ≡ (t && is_given o.answer)
  by-lists true e o b = ap (λ (n : ℕ). ltb n above16) (done-number o.answer o.slots) ∙ told-apart above16 o.answer b
  by-lists false e o b =
      le-ltb (lists_refused status criteria) above16
      (refused_over (not (eqb (length status) (length criteria))) (not (are_slots status)) (eqb-false (lists_refused status criteria) 0 e))

  refused-most : (p q : Bool) → cond p (above16 + 2) (cond q (above16 + 3) 0) ≤ above16 + 3
  refused-most true q = omega arith
  refused-most false true = omega arith
  refused-most false false = omega arith

  by-offer : (t : Bool) → eqb (lists_refused status criteria) 0 ≡ t → (o : OfferOutcome) → SmallOffer status criteria o →
      OfferParts (cond t (offer_call status criteria o.answer o.slots) (burst_left (lists_refused status criteria) status criteria)).answer (cond t o.answer (refused_alone (lists_refused status criteria - above16)))
  by-offer true e o small = small.apart
  by-offer false e o small =
      let p = not (eqb (length status) (length criteria)) in
      let q = not (are_slots status) in
      let over = refused_over p q (eqb-false (lists_refused status criteria) 0 e) in
      let most = refused-most p q in
      record {
        low = omega (arith, over, most);
        looked = omega (arith, over, most);
        taken = le-ltb (above16 + (lists_refused status criteria - above16)) above16 (omega arith);
      }

pub choose-apart : ChooseApart
unfolding burst_choose
choose-apart status criteria =
    by-lists status criteria _ refl (choose_outcome (slots_of status criteria)) (choose-small status criteria (slots_of status criteria)).below

pub finish-apart : FinishApart
unfolding burst_finish
finish-apart status criteria =
    by-lists status criteria _ refl (finish_outcome (slots_of status criteria)) (finish-small status criteria (slots_of status criteria)).below

pub offer-apart : OfferApart
unfolding burst_offer
offer-apart status criteria x =
    by-offer status criteria _ refl (offer_outcome (slots_of status criteria) x) (offer-small status criteria (slots_of status criteria) x)
