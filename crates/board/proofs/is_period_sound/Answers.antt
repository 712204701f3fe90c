-- `board::is_period_sound` meets its contract. Assumes nothing.
use Rattle.std.proofs.Common.{ltb, ne_eqb, eq-eqb}
use mathlib.Core.Bool.{and-true}
use Rattle.settings.specs.Settings.{period_ticks}
use Rattle.model.specs.Board.{phase_sound, reports_sound, period_sound}
use Rattle.board.proofs.is_period_sound.Goals as goal

pub returns-then-running : goal.returns-then-running
unfolding period_sound phase_sound reports_sound
returns-then-running c =
    let s = c.args.state in
    rw (
      ← c.requires,
      c.if-running.true,
      c.period_ticks.ensures,
      and-true (ltb s.phase (period_ticks s.registers)),
    )

pub returns-then-state-eq0 : goal.returns-then-state-eq0
unfolding period_sound phase_sound reports_sound
returns-then-state-eq0 c = rw (← c.requires, c.if-running.false, eq-eqb _ _ c.if-state-eq0.true)

pub returns-else-state-eq0 : goal.returns-else-state-eq0
unfolding period_sound phase_sound reports_sound
returns-else-state-eq0 c = rw (← c.requires, c.if-running.false, ne_eqb _ _ c.if-state-eq0.false)
