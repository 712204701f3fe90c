-- Where no mean is over 2 ^ 32 - 1, its 32 bits are the mean. Assumes nothing.
use Prim.Native.Nat.{ℕ}
use mathlib.Core.Path.{◌≡◌}
use mathlib.Core.List.{List}
use native.Mathlib.Nat.{mod-eq_of_lt}
use native.Mathlib.Omega.{arith}
use borrow.Author.Tests.{eq-eqb, le-leb}
use Rattle.registers.specs.declared.Registers.{Registers}
use Rattle.model.specs.Totals.{slot}
use Rattle.model.specs.Demand.{ReportedBand}
use Rattle.model.specs.Claims.{NoMeanOver}
use Rattle.model.proofs.Reports.{report-ext}
use Rattle.report.specs.Writing.{mean_bits, report_written}
use Rattle.report.specs.Claims.{WrittenPlain}
use Rattle.report.proofs.Rows.{divisor-pos}

whole : (r : Registers) (totals : List ℕ) → NoMeanOver r (slot totals) → (n b : ℕ) → ReportedBand r n b → mean_bits r totals n b ≡ slot totals n b
whole r totals within n b u = mod-eq_of_lt (omega (arith, within n b u, divisor-pos r b))

pub written-plain : WrittenPlain
unfolding report_written
written-plain r totals within out long room =
    rw (eq-eqb _ _ long, le-leb _ _ room, report-ext r (mean_bits r totals) (slot totals) (whole r totals within))
