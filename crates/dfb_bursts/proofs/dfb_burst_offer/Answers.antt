use Rattle.std.proofs.Common.{◌≡◌, ℕ, sym, ap, ◌∙◌}
use mathlib.Core.Path.{subst}
use Rattle.refusal.specs.Number.{number_of}
use Rattle.bursts.specs.declared.Slots.{Slots}
use Rattle.bursts.specs.Slots.{OfferOutcome, offered_outcome, offer_outcome}
use Rattle.dfb_bursts.specs.Bursts.{burst_left, offer_call, burst_offer}
use Rattle.dfb_bursts.proofs.Bursts.{slots-few, on-refused, on-slots, SmallOffer, offer-small}
use Rattle.dfb_bursts.proofs.dfb_burst_offer.Goals as goal

pub write_offered-requires-clause-status_len_bound : goal.write_offered-requires-clause-status_len_bound
write_offered-requires-clause-status_len_bound c = slots-few c.args.status.now c.args.criteria.now c.in-Ok.ensures.0

pub write_offered-requires-clause-slots_bound : goal.write_offered-requires-clause-slots_bound
write_offered-requires-clause-slots_bound c =
    let a = c.args in
    (subst (SmallOffer a.status.now a.criteria.now) (sym c.offer.ensures) (offer-small a.status.now a.criteria.now _ _)).fits

pub returns-in-Ok : goal.returns-in-Ok
unfolding burst_offer
returns-in-Ok c =
    let a = c.args in
    let offered : offered_outcome c.offer.result ≡ offer_outcome c.in-Ok.slots a.criterion = c.offer.ensures in
    c.write_offered.ensures
    ∙ ap (λ (o : OfferOutcome). offer_call a.status.now a.criteria.now o.answer o.slots) (offered ∙ ap (λ (s : Slots). offer_outcome s a.criterion) c.in-Ok.ensures.1)
    ∙ on-slots a.status.now a.criteria.now _ c.in-Ok.ensures.0

pub returns-in-Err : goal.returns-in-Err
unfolding burst_offer
returns-in-Err c =
    let a = c.args in
    ap (λ (n : ℕ). burst_left n a.status.now a.criteria.now) c.above_16.ensures
    ∙ on-refused a.status.now a.criteria.now (number_of c.in-Err.refusal) _ c.in-Err.ensures
