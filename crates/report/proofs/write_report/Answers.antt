-- `report::write_report` meets its contract. Assumes nothing.
use borrow.Author.Tests.{eq-eqb, ne_eqb, le-leb, lt-leb}
use Rattle.report.specs.Writing.{report_written}
use Rattle.report.proofs.write_report.Goals as goal

pub returns-then-totals-ne-TOTALS : goal.returns-then-totals-ne-TOTALS
unfolding report_written
returns-then-totals-ne-TOTALS c = rw (ne_eqb _ _ c.if-totals-ne-TOTALS.true)

pub returns-then-out-lt-OUTPUT : goal.returns-then-out-lt-OUTPUT
unfolding report_written
returns-then-out-lt-OUTPUT c = rw (eq-eqb _ _ c.if-totals-ne-TOTALS.false, lt-leb _ _ c.if-out-lt-OUTPUT.true)

pub returns : goal.returns
unfolding report_written
returns c =
    let w = c.write_rows in
    simp (
      eq-eqb _ _ c.if-totals-ne-TOTALS.false,
      le-leb _ _ c.if-out-lt-OUTPUT.false,
      w.ensures.0,
      w.ensures.1,
    )
