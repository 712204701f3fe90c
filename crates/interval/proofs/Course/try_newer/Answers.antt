use Rattle.std.proofs.Common.{rules, sym, ◌∙◌}
use Rattle.interval.specs.Interval.{try_newer}
use Rattle.interval.proofs.Course.try_newer.Goals as goal
use Rattle.interval.proofs.Course.try_newer.Goals.{then-not-g-via-then-not-g, then-not-g-via-else-not-g+then-not-is_below}

pub returns-then-not-g : goal.returns-then-not-g
unfolding try_newer
returns-then-not-g c =
    elim c.then-not-g.branch [
      | then-not-g-via-then-not-g w ↦ let shut = w.if-not-g.true in search rules
      | then-not-g-via-else-not-g+then-not-is_below w ↦ let full = sym w.is_below.ensures ∙ w.if-not-is_below.true in search rules
    ]

pub returns-then-joins : goal.returns-then-joins
unfolding try_newer
returns-then-joins c = search rules

pub returns-else-joins : goal.returns-else-joins
unfolding try_newer
returns-else-joins c = search rules
