-- `dfb_bands::dfb_expand_sum` meets its contract: each arm is a case of the rule. Assumes nothing.
use Rattle.std.proofs.Common.{ℕ, ap}
use Rattle.dfb_refusals.specs.Numbers.{above16}
use Rattle.dfb_refusals.proofs.Values.{values-of}
use Rattle.dfb_bands.specs.Values.{one_value, sum_written}
use Rattle.dfb_bands.proofs.dfb_expand_sum.Goals as goal

pub returns-in-Ok : goal.returns-in-Ok
unfolding sum_written
returns-in-Ok c = values-of above16 one_value c.args.value.now c.in-Ok.ensures c.put_values.ensures

pub returns-in-Err : goal.returns-in-Err
unfolding sum_written
returns-in-Err c =
    values-of above16 one_value c.args.value.now c.in-Err.ensures
    (ap (λ (n : ℕ). record { answer = n; buffer = c.args.value.now }) c.above_16.ensures)
