-- `snapshot_cases::show_cases`: each case takes bytes of what is left.
use Rattle.std.proofs.Common.{length}
use Rattle.snapshot_cases.proofs.show_cases.Given as goal

abbrev pub decreases-loop-case : goal.decreases-loop-case
decreases-loop-case g l = length l.rest
