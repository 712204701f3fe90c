use Rattle.std.proofs.Common.{rules, arith, ◌≡◌, Err, ap, ◌∙◌}
use Rattle.std.specs.Option.{ok_or}
use Rattle.refusal.specs.declared.Refusal.{Refusal}
use Rattle.refusal.specs.Outcome.{answer_outcome}
use Rattle.bursts.proofs.Rules.{sound-few}
use Rattle.bursts.proofs.Answering.{sending-first, finish-unsound, finish-sending}
use Rattle.bursts.proofs.finish_answer.Goals as goal

pub returns-in_err-sound_slots : goal.returns-in_err-sound_slots
returns-in_err-sound_slots c =
    let e : c.from_residual.result ≡ Err Refusal.UnsoundState = search rules in
    ap answer_outcome e ∙ finish-unsound c.args.slots.now c.in_err-sound_slots.ensures.0

pub returns : goal.returns
returns c =
    let s = c.args.slots.now in
    let found = c.in_ok-sound_slots.ensures in
    ap answer_outcome (c.ok_or.ensures.value ∙ ap (λ o. ok_or o Refusal.NoneSending) (c.slot_in.ensures ∙ rw found.1 (sending-first s (omega (arith, sound-few s found.0)))))
    ∙ finish-sending s found.0
