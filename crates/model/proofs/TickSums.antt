-- The totals with a tick's powers added.
-- Assumes nothing.
use mathlib.Core.List.{List}
use Prim.Native.Nat.{ℕ}
use Rattle.model.specs.Totals.{added}
use Rattle.model.specs.declared.State.{State}

abbrev pub sums_after : State → List ℕ → List ℕ → List ℕ
sums_after s totals ps = added s.registers totals ps
