-- `space_packets::are_sets` meets its contract: both tests. Assumes nothing.
use native.Mathlib.Omega.{arith}
use borrow.Author.Tests.{lt-ltb, le-ltb}
use Rattle.space_packets.proofs.are_sets.Goals as goal

pub returns-then-samples-gt0 : goal.returns-then-samples-gt0
returns-then-samples-gt0 c = simp (lt-ltb 0 c.args.samples (omega arith))

pub returns-else-samples-gt0 : goal.returns-else-samples-gt0
returns-else-samples-gt0 c = simp (le-ltb 0 c.args.samples (omega arith))
