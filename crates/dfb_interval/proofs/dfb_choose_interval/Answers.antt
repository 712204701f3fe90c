-- `dfb_interval::dfb_choose_interval` meets its contract: each arm is a case of the rule, and the ends fit 16 bits. Assumes nothing.
use Rattle.refusal.specs.Outcome.{answer_outcome}
use mathlib.Core.Path.{sym, ap, ◌∙◌}
use native.Mathlib.Omega.{arith}
use Rattle.dfb_interval.specs.Interval.{interval_number, interval_call}
use Rattle.dfb_interval.proofs.Interval.{interval-small}
use Rattle.dfb_interval.proofs.dfb_choose_interval.Goals as goal

pub overflow_mul-result : goal.overflow_mul-result
overflow_mul-result c =
    let small = interval-small _ _ _ _ (sym c.choose_interval.ensures ∙ ap answer_outcome c.in-Ok.is) in
    omega (arith, small.1)

pub overflow_add-result : goal.overflow_add-result
overflow_add-result c =
    let small = interval-small _ _ _ _ (sym c.choose_interval.ensures ∙ ap answer_outcome c.in-Ok.is) in
    omega (arith, small.0, small.1)

pub returns-in-Ok : goal.returns-in-Ok
unfolding interval_call
returns-in-Ok c =
    ap interval_number (sym (ap answer_outcome c.in-Ok.is) ∙ c.choose_interval.ensures)

pub returns-in-Err : goal.returns-in-Err
unfolding interval_call
returns-in-Err c =
    c.above_63.ensures
    ∙ ap interval_number (sym (ap answer_outcome c.in-Err.is) ∙ c.choose_interval.ensures)
