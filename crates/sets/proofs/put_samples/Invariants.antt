-- The loop of `put_samples`: the output begins with the samples of the words passed, and is as it was after them.
use Rattle.std.specs.Prelude.{◌≡◌, ◌++◌, length, drop}
use Rattle.sets.specs.Sets.{samples_of}
use Rattle.sets.proofs.put_samples.Given as goal

abbrev pub invariant-loop-i : goal.invariant-loop-i
invariant-loop-i l = (length l.samples ≡ length l.initial.samples) × (l.samples ≡ samples_of l.i l.bytes ++ drop l.i l.initial.samples)
