-- The check from the present place on is the check of the list.
use Rattle.std.proofs.Common.{◌≡◌, ◌-◌, length}
use Rattle.checker.specs.Check.{check_from, commands_checked}
use Rattle.checker.proofs.check.Given as goal

abbrev pub invariant-loop-entry : goal.invariant-loop-entry
invariant-loop-entry l = check_from l.log l.at l.standing ≡ commands_checked l.log

abbrev pub decreases-loop-entry : goal.decreases-loop-entry
decreases-loop-entry l = length l.log - l.at
