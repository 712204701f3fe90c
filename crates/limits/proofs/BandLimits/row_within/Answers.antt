-- `limits::BandLimits::row_within` meets its contract. Assumes nothing.
use Rattle.std.proofs.Common.{◌∙◌, ap, ap₂, sym, Bool, ◌&&◌, ◌-◌, take, drop, rules}
use Rattle.limits.specs.Private.{all_zero}
use Rattle.limits.proofs.Limiting.{row_on, row-off}
use Rattle.limits.proofs.BandLimits.row_within.Goals as goal

pub returns-then-all_within : goal.returns-then-all_within
returns-then-all_within c =
    let a = c.args in
    rw c.if-enabled.true
    (ap₂ ◌&&◌ (sym c.if-all_within.true ∙ c.all_within.ensures) c.all_zero.ensures
    ∙ row_on a.self.now.bands a.self.now.limits a.row.now a.self.now.few (search rules) (search rules))

pub returns-else-all_within : goal.returns-else-all_within
returns-else-all_within c =
    let a = c.args in
    rw (c.if-enabled.true, c.if-all_within.false)
    (ap (λ (t : Bool). t && all_zero (take (112 - a.self.now.bands) (drop a.self.now.bands a.row.now))) c.if-all_within.ensures
    ∙ row_on a.self.now.bands a.self.now.limits a.row.now a.self.now.few (search rules) (search rules))

pub returns-else-enabled : goal.returns-else-enabled
returns-else-enabled c =
    let a = c.args in
    rw c.if-enabled.false (c.all_zero-else-enabled.ensures ∙ row-off a.self.now.bands a.self.now.limits a.row.now a.self.now.few (search rules) (search rules))
