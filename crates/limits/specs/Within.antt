-- 01, "Periods" and "Refusal numbers": the totals of a sound state.
use Rattle.std.specs.Prelude.{ℕ, Bool, cond, not, List, length, eqb}
use Rattle.refusal.specs.Outcome.{Outcome, given, refused}
use Rattle.registers.specs.declared.Registers.{Registers}
use Rattle.model.specs.Board.{totals_within}

-- whether no total is over the most that m spectra give its band; 2 for another number of totals than 784
unfoldable pub within : Registers → ℕ → List ℕ → Outcome Bool
within r m totals = cond (not (eqb (length totals) 784)) (refused 2) (given (totals_within r m totals))
