-- The interval is that after so many turns.
use Rattle.std.proofs.Common.{◌≡◌}
use Rattle.interval.specs.Interval.{grown}
use Rattle.interval.proofs.Course.grow.Given as goal

abbrev pub invariant-loop-turn : goal.invariant-loop-turn
invariant-loop-turn l = l.g ≡ grown l.self.index.now l.self.bonus l.self.limit l.self.start l.turn
