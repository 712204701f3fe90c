-- `totals::add_spectrum` meets its contract: the tests pick the case of `add_outcome`. Assumes nothing.
use Rattle.std.proofs.Common.{eq-eqb, ne_eqb}
use Rattle.totals.specs.Adding.{add_outcome}
use Rattle.totals.proofs.add_spectrum.Goals as goal

pub returns-then-totals-ne-TOTALS : goal.returns-then-totals-ne-TOTALS
unfolding add_outcome
returns-then-totals-ne-TOTALS c = rw (ne_eqb _ _ c.if-totals-ne-TOTALS.true)

pub returns-then-powers-ne-POWERS : goal.returns-then-powers-ne-POWERS
unfolding add_outcome
returns-then-powers-ne-POWERS c = rw (eq-eqb _ _ c.if-totals-ne-TOTALS.false, ne_eqb _ _ c.if-powers-ne-POWERS.true)

pub returns : goal.returns
unfolding add_outcome
returns c =
    rw (
      eq-eqb _ _ c.if-totals-ne-TOTALS.false,
      eq-eqb _ _ c.if-powers-ne-POWERS.false,
      c.add_rows.ensures,
    )
