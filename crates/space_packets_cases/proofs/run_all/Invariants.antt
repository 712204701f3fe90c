-- `space_packets_cases::run_all`: each case takes bytes of what is left.
use Rattle.std.proofs.Common.{length}
use Rattle.space_packets_cases.proofs.run_all.Given as goal

abbrev pub decreases-loop-case : goal.decreases-loop-case
decreases-loop-case g l = length l.rest
