-- `setlist_cases::show_cases`: the input left grows shorter.
use Rattle.std.proofs.Common.{length}
use Rattle.setlist_cases.proofs.show_cases.Given as goal

abbrev pub decreases-loop-length : goal.decreases-loop-length
decreases-loop-length g l = length l.rest
