-- The loop of `add_to_both`: in both runs the totals so far have their powers.
use Rattle.std.proofs.Common.{◌≡◌, ◌-◌, ◌≤◌, length, take, drop}
use Rattle.summed.proofs.Laws.{added_to}
use Rattle.summed.proofs.add_to_both.Given as goal

abbrev pub invariant-loop-k : goal.invariant-loop-k
invariant-loop-k l =
    (l.k ≤ 1024) × (length l.totals ≡ 2048) × (take 1024 l.totals ≡ added_to l.k (take 1024 l.initial.totals) l.pairs) × (drop 1024 l.totals ≡ added_to l.k (drop 1024 l.initial.totals) l.pairs)

abbrev pub decreases-loop-k : goal.decreases-loop-k
decreases-loop-k l = 1024 - l.k
