-- `dfb_board::dfb_tick` meets its contract: the test picks the case of the rule, and the state is loaded and stored. Assumes nothing.
use Rattle.std.proofs.Common.{◌∙◌, ℕ, sym, subst, ap, arith}
use Rattle.model.specs.declared.State.{State}
use Rattle.model.specs.Board.{TickOutcome, tick_outcome}
use Rattle.dfb_board.specs.Private.{Fits}
use Rattle.dfb_board.proofs.Calls.{tick-done, tick-other, tick-state}
use Rattle.dfb_board.proofs.Fits.{tick-fits}
use Rattle.dfb_board.proofs.dfb_tick.Goals as goal

pub returns-then-state-ne-STATE : goal.returns-then-state-ne-STATE
returns-then-state-ne-STATE c =
    let a = c.args in
    ap (λ (n : ℕ). record { answer = n; state = a.state.now; totals = a.totals.now; out = a.out.now }) c.above_16.ensures
    ∙ tick-other a.state.now (λ e. c.if-state-ne-STATE.true (omega (arith, e))) a.totals.now a.powers.now a.out.now

pub tick_number-requires : goal.tick_number-requires
tick_number-requires c =
    let a = c.args in
    subst (λ (o : TickOutcome). Fits o.answer o.state.reports) (sym c.tick-done.ensures)
    (tick-fits c.load.result a.totals.now a.powers.now a.out.now)

pub returns : goal.returns
returns c =
    let a = c.args in
    tick-done _ _ c.tick_number.ensures c.store.ensures
    (c.tick-done.ensures ∙ ap (λ (s : State). tick_outcome s a.totals.now a.powers.now a.out.now) c.load.ensures)
    ∙ tick-state a.state.now (omega arith) a.totals.now a.powers.now a.out.now
