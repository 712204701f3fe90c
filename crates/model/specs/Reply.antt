-- 01, "Periods" and "Refusal numbers": the answer of a command or a tick in 01's words and numbers.
use Rattle.std.specs.Prelude.{ℕ}

-- `reported` has the report: of the board its word count, of the reference model its spectra, oldest first.
pub data Reply (R : Type 0) : Type 0 where
  refused : ℕ → Reply R
  stores : ℕ → Reply R
  idle collected waiting : Reply R
  reported : R → Reply R
