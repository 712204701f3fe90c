-- The sums of the runs so far are written.
use Rattle.std.proofs.Common.{◌≡◌, ◌+◌, ◌*◌}
use Rattle.lists.specs.Sums.{sum_to}
use Rattle.lists.specs.Tables.{tabulate, overwrite}
use Rattle.coarse.specs.Coarse.{fine_total}
use Rattle.coarse.proofs.put_runs.Given as goal

abbrev pub invariant-loop-i : goal.invariant-loop-i
invariant-loop-i l = l.out ≡ overwrite (tabulate l.i (λ i. sum_to l.len (λ j. fine_total l.fine (i * l.len + j)))) l.initial.out
