-- `registers::stored_at` meets its contract: the test picks the case of `stored_at`, and the two parts do not overlap.
-- Assumes nothing.
use native.Mathlib.Omega.{arith}
use borrow.Author.Tests.{eq-eqb, ne_eqb}
use lib.Dec.{lit≤}
use Rattle.registers.specs.Store.{stored_at}
use Rattle.registers.proofs.Laws.{high_le, low-lt}
use Rattle.registers.proofs.stored_at.Goals as goal

pub overflow_add-result : goal.overflow_add-result
overflow_add-result c = omega (arith, high_le c.args.information, low-lt 3 c.args.information (lit≤ tt))

pub returns-then-n-eq0 : goal.returns-then-n-eq0
unfolding stored_at
returns-then-n-eq0 c = simp (eq-eqb _ _ c.if-n-eq0.true, c.high_stored.ensures, c.low_stored.ensures)

pub returns-else-n-eq0 : goal.returns-else-n-eq0
unfolding stored_at
returns-else-n-eq0 c = simp (ne_eqb _ _ c.if-n-eq0.false, c.low_stored-else-n-eq0.ensures)
