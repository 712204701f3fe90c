use Rattle.std.proofs.Common.{sym, ap₂, ◌∙◌}
use Rattle.bursts.specs.declared.Slots.{Slots}
use Rattle.bursts.specs.Slots.{OfferAnswered}
use Rattle.bursts.proofs.Leaving.{offer-leaves, refusal-takes-none}
use Rattle.bursts.proofs.offer.Goals as goal

pub change-requires : goal.change-requires
change-requires c = ((offer-leaves c.args.slots c.args.criterion).placed c.in-Ok.placed.slot c.in-Ok.placed.looked c.in-Ok.ensures).0

pub returns-in-Ok : goal.returns-in-Ok
returns-in-Ok c =
    let leaves = offer-leaves c.args.slots c.args.criterion in
    ap₂ (λ (a : OfferAnswered) (t : Slots). record { answer = a; slots = t }) c.offer_answer-answer.ensures
    (c.change.ensures ∙ (leaves.placed c.in-Ok.placed.slot c.in-Ok.placed.looked c.in-Ok.ensures).1)

pub returns-in-Err : goal.returns-in-Err
returns-in-Err c =
    let leaves = offer-leaves c.args.slots c.args.criterion in
    ap₂ (λ (a : OfferAnswered) (t : Slots). record { answer = a; slots = t }) c.offer_answer-answer.ensures
    (leaves.kept (λ i looked e. refusal-takes-none c.in-Err.field-0 i looked (e ∙ sym c.in-Err.ensures)))
