-- The loop of `put_codes`: the output begins with the codes of the totals so far, and is as it was after them.
use Rattle.std.proofs.Common.{◌≡◌, ◌-◌, ◌*◌, ◌≤◌, ◌++◌, length, drop}
use Rattle.lists.specs.Tables.{concat_to}
use Rattle.words.specs.Words.{pair_bytes}
use Rattle.summed.proofs.Codes.{code_at}
use Rattle.summed.proofs.put_codes.Given as goal

abbrev pub invariant-loop-i : goal.invariant-loop-i
invariant-loop-i l =
    (l.i ≤ length l.totals) × (l.i-end ≡ length l.totals) × (2 * length l.totals ≤ length l.initial.out) × (length l.out ≡ length l.initial.out)
    × (l.out ≡ concat_to l.i (λ j. pair_bytes (code_at l.totals j)) ++ drop (2 * l.i) l.initial.out)

abbrev pub decreases-loop-i : goal.decreases-loop-i
decreases-loop-i l = l.i-end - l.i
