use Rattle.std.proofs.Common.{rules, arith, ◌≡◌, Err, sym, ap, ◌∙◌}
use Rattle.std.specs.Option.{is_some, ok_or}
use Rattle.refusal.specs.declared.Refusal.{Refusal}
use Rattle.refusal.specs.Outcome.{answer_outcome}
use Rattle.bursts.specs.Slots.{greatest_held}
use Rattle.bursts.specs.Searches.{slot_found}
use Rattle.bursts.proofs.Rules.{sound-few}
use Rattle.bursts.proofs.Answering.{sending-first, greatest-first, choose-unsound, choose-busy, choose-greatest}
use Rattle.bursts.proofs.choose_answer.Goals as goal

pub returns-in_err-looked_at : goal.returns-in_err-looked_at
returns-in_err-looked_at c =
    let s = c.args.slots.now in
    let e : c.from_residual.result ≡ Err Refusal.UnsoundState = search rules in
    ap answer_outcome e ∙ choose-unsound s c.in_err-looked_at.ensures.0

pub returns-then-is_some : goal.returns-then-is_some
returns-then-is_some c =
    let s = c.args.slots.now in
    let found = c.in_ok-looked_at.ensures in
    choose-busy s found.0 (ap is_some (sym (c.slot_in.ensures ∙ rw found.1 (sending-first s (omega (arith, sound-few s found.0))))) ∙ sym c.is_some.ensures ∙ c.if-is_some.true)

pub returns : goal.returns
returns c =
    let s = c.args.slots.now in
    let found = c.in_ok-looked_at.ensures in
    let greatest : c.greatest_held.result ≡ slot_found s (greatest_held s) = c.greatest_held.ensures ∙ rw found.1 (greatest-first s (omega (arith, sound-few s found.0))) in
    ap answer_outcome (c.ok_or.ensures.value ∙ ap (λ o. ok_or o Refusal.NothingToSend) greatest)
    ∙ choose-greatest s found.0 (ap is_some (sym (c.slot_in.ensures ∙ rw found.1 (sending-first s (omega (arith, sound-few s found.0))))) ∙ sym c.is_some.ensures ∙ c.if-is_some.false)
