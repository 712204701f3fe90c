-- `dfb_bands::dfb_cadence_of` meets its contract: each arm is a case of the rule. Assumes nothing.
use Rattle.std.proofs.Common.{ℕ, ap, sym, ◌∙◌}
use Rattle.refusal.specs.Outcome.{given}
use Rattle.dfb_refusals.specs.Numbers.{above16}
use Rattle.dfb_refusals.proofs.Values.{values-of}
use Rattle.dfb_bands.specs.Values.{cadence_value, cadence_written}
use Rattle.dfb_bands.proofs.dfb_cadence_of.Goals as goal

pub returns-in-Ok-Rate : goal.returns-in-Ok-Rate
unfolding cadence_written
returns-in-Ok-Rate c = values-of above16 cadence_value c.args.value.now (sym (ap given c.in-Ok-Rate.field-0-is) ∙ c.in-Ok-Rate.ensures.0) c.put_values.ensures

pub returns-in-Ok-Period : goal.returns-in-Ok-Period
unfolding cadence_written
returns-in-Ok-Period c = values-of above16 cadence_value c.args.value.now (sym (ap given c.in-Ok-Period.field-0-is) ∙ c.in-Ok-Period.ensures.0) c.put_values-in-Ok-Period.ensures

pub returns-in-Err : goal.returns-in-Err
unfolding cadence_written
returns-in-Err c =
    values-of above16 cadence_value c.args.value.now c.in-Err.ensures.0
    (ap (λ (n : ℕ). record { answer = n; buffer = c.args.value.now }) c.above_16.ensures)
