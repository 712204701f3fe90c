use Rattle.std.proofs.Common.{◌≡◌, ℕ, sym, ap, ◌∙◌}
use mathlib.Core.Path.{subst}
use Rattle.refusal.specs.Number.{number_of}
use Rattle.bursts.specs.Slots.{SlotsOutcome, done_outcome, choose_outcome}
use Rattle.dfb_bursts.specs.Bursts.{burst_left, done_call, burst_choose}
use Rattle.dfb_bursts.proofs.Bursts.{slots-few, on-refused, on-slots, SmallDone, choose-small}
use Rattle.dfb_bursts.proofs.dfb_burst_choose.Goals as goal

pub write_done-requires-clause-status_len_bound : goal.write_done-requires-clause-status_len_bound
write_done-requires-clause-status_len_bound c = slots-few c.args.status.now c.args.criteria.now c.in-Ok.ensures.0

pub write_done-requires-clause-slots_bound : goal.write_done-requires-clause-slots_bound
write_done-requires-clause-slots_bound c =
    let a = c.args in
    (subst (SmallDone a.status.now a.criteria.now) (sym c.choose.ensures) (choose-small a.status.now a.criteria.now _)).fits

pub returns-in-Ok : goal.returns-in-Ok
unfolding burst_choose
returns-in-Ok c =
    let a = c.args in
    let done : done_outcome c.choose.result ≡ choose_outcome c.in-Ok.slots = c.choose.ensures in
    c.write_done.ensures
    ∙ ap (λ (o : SlotsOutcome). done_call a.status.now a.criteria.now o.answer o.slots) (done ∙ ap choose_outcome c.in-Ok.ensures.1)
    ∙ on-slots a.status.now a.criteria.now _ c.in-Ok.ensures.0

pub returns-in-Err : goal.returns-in-Err
unfolding burst_choose
returns-in-Err c =
    let a = c.args in
    ap (λ (n : ℕ). burst_left n a.status.now a.criteria.now) c.above_16.ensures
    ∙ on-refused a.status.now a.criteria.now (number_of c.in-Err.refusal) _ c.in-Err.ensures
