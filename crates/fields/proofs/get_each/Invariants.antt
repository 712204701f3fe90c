-- The loop of `get_each`: the samples so far are written.
use Rattle.std.specs.Prelude.{◌≡◌, ◌+◌, ◌*◌, ◌≤◌, length}
use Rattle.lists.specs.Tables.{tabulate, overwrite}
use Rattle.words.specs.Sample.{sample_of}
use Rattle.words.specs.Words.{pair_at}
use Rattle.fields.proofs.get_each.Given as goal

abbrev pub invariant-loop-i : goal.invariant-loop-i
invariant-loop-i l =
    (l.i ≤ l.n) × (2 * l.n ≤ length l.bytes) × (l.n ≤ length l.initial.samples) × (length l.samples ≡ length l.initial.samples)
    × (l.samples ≡ overwrite (tabulate l.i (λ i. sample_of (pair_at l.bytes (0 + 2 * i)))) l.initial.samples)
