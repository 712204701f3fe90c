-- The loop of `add_run`: the bands before band i have their powers.
use Rattle.std.proofs.Common.{◌≡◌, ◌≤◌, length}
use Rattle.lists.specs.Tables.{tabulate, overwrite}
use Rattle.totals.specs.Private.{run_slot}
use Rattle.totals.proofs.add_run.Given as goal

abbrev pub invariant-loop-i : goal.invariant-loop-i
invariant-loop-i l = (l.i ≤ length l.initial.row) × (length l.row ≡ length l.initial.row) × (l.row ≡ overwrite (tabulate l.i (run_slot l.width l.initial.row l.powers)) l.initial.row)
