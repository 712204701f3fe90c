-- The loop of `put_words`: the output begins with the words of the samples passed, and is as it was after them.
use Rattle.std.specs.Prelude.{◌≡◌, ◌*◌, ◌++◌, length, take, drop}
use Rattle.sets.specs.Sets.{packed_bytes}
use Rattle.sets.proofs.put_words.Given as goal

abbrev pub invariant-loop-i : goal.invariant-loop-i
invariant-loop-i l = (length l.out ≡ length l.initial.out) × (l.out ≡ packed_bytes l.apid (take l.i l.samples) ++ drop (3 * l.i) l.initial.out)
