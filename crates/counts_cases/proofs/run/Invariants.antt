-- `counts_cases::run`: the log keeps its length, and each operation takes bytes of the input.
use Rattle.std.proofs.Common.{length, ◌≡◌}
use Rattle.counts_cases.proofs.run.Given as goal

abbrev pub invariant-loop-header : goal.invariant-loop-header
invariant-loop-header g l = length l.log ≡ length l.initial.log

abbrev pub decreases-loop-header : goal.decreases-loop-header
decreases-loop-header g l = length l.rest
