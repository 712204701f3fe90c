-- `report::Averaging::band_mean` meets its contract. Assumes nothing.
use Rattle.std.proofs.Common.{◌∙◌, ◌+◌, ◌/◌, ◌^◌, ℕ, ap, arith}
use Rattle.bands.proofs.Settings.{range}
use Rattle.report.proofs.Exponents.{shifted}
use Rattle.report.proofs.Averaging.band_mean.Goals as goal

pub overflow_add-result : goal.overflow_add-result
overflow_add-result c = omega (arith, (range c.args.self.setting c.args.b c.requires).exponent_lt, c.args.self.small)

pub overflow_shr-result : goal.overflow_shr-result
overflow_shr-result c = omega (arith, (range c.args.self.setting c.args.b c.requires).exponent_lt, c.args.self.small)

pub returns : goal.returns
returns c =
    let a = c.args in
    ap (λ (w : ℕ). a.total / 2 ^ (a.self.exponent + w)) c.width_exponent.ensures ∙ shifted a.self.setting a.self.exponent a.b a.total
