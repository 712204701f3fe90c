use Rattle.std.proofs.Common.{rules, arith, ◌≡◌, Err, sym, ap, ◌∙◌}
use Rattle.refusal.specs.declared.Refusal.{Refusal}
use Rattle.bursts.specs.declared.OfferRefusal.{OfferRefusal}
use Rattle.bursts.specs.Slots.{offer_answer_outcome}
use Rattle.bursts.proofs.Looking.{answered}
use Rattle.bursts.proofs.Rules.{sound-few}
use Rattle.bursts.proofs.Answering.{place-first, offer-unsound}
use Rattle.bursts.proofs.offer_answer.Goals as goal

pub returns-in_err-sound_slots : goal.returns-in_err-sound_slots
returns-in_err-sound_slots c =
    let e : c.from_residual.result ≡ Err (OfferRefusal.Refused Refusal.UnsoundState) = search rules in
    ap offer_answer_outcome e ∙ offer-unsound c.args.slots.now c.args.criterion c.in_err-sound_slots.ensures.0

pub returns : goal.returns
returns c =
    let s = c.args.slots.now in
    let found = c.in_ok-sound_slots.ensures in
    c.place.ensures ∙ rw found.1 (place-first s (omega (arith, sound-few s found.0)) c.args.criterion) ∙ sym (answered s c.args.criterion found.0)
