-- `limits::totals_within` meets its contract: the test picks the case of `within`. Assumes nothing.
use Rattle.std.proofs.Common.{eq-eqb, ne_eqb}
use Rattle.limits.specs.Within.{within}
use Rattle.limits.proofs.totals_within.Goals as goal

pub returns-then-totals-ne-TOTALS : goal.returns-then-totals-ne-TOTALS
unfolding within
returns-then-totals-ne-TOTALS c = rw (ne_eqb _ _ c.if-totals-ne-TOTALS.true)

pub returns : goal.returns
unfolding within
returns c = rw (eq-eqb _ _ c.if-totals-ne-TOTALS.false, c.are_within.ensures)
