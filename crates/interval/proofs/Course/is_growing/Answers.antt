use Rattle.std.proofs.Common.{rules}
use Rattle.interval.specs.Interval.{growing}
use Rattle.interval.proofs.Course.is_growing.Goals as goal

pub returns-then-g : goal.returns-then-g
unfolding growing
returns-then-g c = search rules

pub returns-then-g-2 : goal.returns-then-g-2
unfolding growing
returns-then-g-2 c = search rules

pub returns-else-g-2 : goal.returns-else-g-2
unfolding growing
returns-else-g-2 c = search rules
