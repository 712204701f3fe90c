-- The loop of `run_sound`: the bits so far are without the highest exactly if the totals so far are within.
use Rattle.std.proofs.Common.{◌≡◌, ◌-◌, ◌^◌, ◌≤◌, ltb, leb, length, get_or}
use Rattle.lists.specs.Sums.{all_to}
use Rattle.summed.proofs.run_sound.Given as goal

abbrev pub invariant-loop-k : goal.invariant-loop-k
invariant-loop-k l = (l.k ≤ length l.run) × (l.k-end ≡ length l.run) × (ltb l.bits (2 ^ 63) ≡ all_to l.k (λ j. leb (get_or l.run j 0) l.most))

abbrev pub decreases-loop-k : goal.decreases-loop-k
decreases-loop-k l = l.k-end - l.k
