-- `snapshot::is_in_range` meets its contract: the first test picks the case. Assumes nothing.
use mathlib.Core.Path.{refl}
use native.Mathlib.Omega.{arith}
use borrow.Author.Tests.{le-leb, lt-leb}
use Rattle.snapshot.proofs.is_in_range.Goals as goal

pub returns-then-header-le-MOST_PACKETS : goal.returns-then-header-le-MOST_PACKETS
returns-then-header-le-MOST_PACKETS c = simp (le-leb c.args.header.total 3072 (omega arith)) refl

pub returns-else-header-le-MOST_PACKETS : goal.returns-else-header-le-MOST_PACKETS
returns-else-header-le-MOST_PACKETS c = simp (lt-leb c.args.header.total 3072 (omega arith))
