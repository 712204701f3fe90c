-- `dfb_board::dfb_command` meets its contract: the test picks the case of the rule, and the state is loaded and stored. Assumes nothing.
use Rattle.std.proofs.Common.{◌≡◌, ◌∙◌, ℕ, ap, arith}
use Rattle.model.specs.declared.State.{State}
use Rattle.model.specs.Board.{CommandOutcome, command_outcome}
use Rattle.dfb_board.proofs.Calls.{command-number, command-done, command-other, command-state}
use Rattle.dfb_board.proofs.dfb_command.Goals as goal

pub returns-then-state-ne-STATE : goal.returns-then-state-ne-STATE
returns-then-state-ne-STATE c =
    let a = c.args in
    ap (λ (n : ℕ). record { answer = n; state = a.state.now; totals = a.totals.now }) c.above_16.ensures
    ∙ command-other a.state.now (λ e. c.if-state-ne-STATE.true (omega (arith, e))) a.totals.now a.id a.information

pub returns : goal.returns
returns c =
    let a = c.args in
    let done : ◌≡◌ {A = CommandOutcome} _ (command_outcome c.load.result a.totals.now a.id a.information) = c.command-done.ensures in
    command-done _ _ (c.answer_16.ensures ∙ command-number c.command-done.result.answer _) c.store.ensures
    (done ∙ ap (λ (s : State). command_outcome s a.totals.now a.id a.information) c.load.ensures)
    ∙ command-state a.state.now (omega arith) a.totals.now a.id a.information
