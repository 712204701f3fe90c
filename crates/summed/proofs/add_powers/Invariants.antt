-- `summed::add_powers` meets its contract. The loop: the totals so far have their powers. Assumes nothing.
use Rattle.std.proofs.Common.{◌≡◌, ◌-◌, ◌≤◌, length}
use Rattle.summed.proofs.Laws.{added_to}
use Rattle.summed.proofs.add_powers.Given as goal

abbrev pub invariant-loop-k : goal.invariant-loop-k
invariant-loop-k l =
    (l.k ≤ 1024) × (l.k-end ≡ 1024) × (length l.run ≡ 1024) × (l.run ≡ added_to l.k l.initial.run l.pairs)

abbrev pub decreases-loop-k : goal.decreases-loop-k
decreases-loop-k l = l.k-end - l.k
