-- `dfb_bands::dfb_describe_band` meets its contract: each arm is a case of the rule. Assumes nothing.
use Rattle.std.proofs.Common.{ℕ, ap}
use Rattle.dfb_refusals.specs.Numbers.{above16}
use Rattle.dfb_refusals.proofs.Values.{values-of}
use Rattle.dfb_bands.specs.Values.{three_values, band_written}
use Rattle.dfb_bands.proofs.dfb_describe_band.Goals as goal

pub returns-in-Ok : goal.returns-in-Ok
unfolding band_written
returns-in-Ok c = values-of above16 three_values c.args.three.now c.in-Ok.ensures.0 c.put_values.ensures

pub returns-in-Err : goal.returns-in-Err
unfolding band_written
returns-in-Err c =
    values-of above16 three_values c.args.three.now c.in-Err.ensures.0
    (ap (λ (n : ℕ). record { answer = n; buffer = c.args.three.now }) c.above_16.ensures)
