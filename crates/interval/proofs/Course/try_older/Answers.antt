use Rattle.std.proofs.Common.{rules, sym, ◌∙◌}
use Rattle.interval.specs.Interval.{try_older}
use Rattle.interval.proofs.Course.try_older.Goals as goal
use Rattle.interval.proofs.Course.try_older.Goals.{then-not-g-via-then-not-g, then-not-g-via-else-not-g+then-not-is_below}

pub returns-then-not-g : goal.returns-then-not-g
unfolding try_older
returns-then-not-g c =
    elim c.then-not-g.branch [
      | then-not-g-via-then-not-g w ↦ let shut = w.if-not-g.true in search rules
      | then-not-g-via-else-not-g+then-not-is_below w ↦ let full = sym w.is_below.ensures ∙ w.if-not-is_below.true in search rules
    ]

pub returns-in-Some : goal.returns-in-Some
unfolding try_older
returns-in-Some c = search rules

pub returns-in_default : goal.returns-in_default
unfolding try_older
returns-in_default c = search rules
