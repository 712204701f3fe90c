-- `dfb_board::dfb_read` meets its contract: the test picks the case of the rule. Assumes nothing.
use Rattle.std.proofs.Common.{◌≡◌, ◌∙◌, ap, arith}
use Rattle.refusal.specs.Outcome.{answer_outcome}
use Rattle.registers.specs.Access.{register_read}
use Rattle.model.specs.declared.State.{State}
use Rattle.dfb_refusals.specs.Numbers.{above16, outcome_number}
use Rattle.dfb_board.proofs.Calls.{read-other, read-state}
use Rattle.dfb_board.proofs.dfb_read.Goals as goal

pub returns-then-state-ne-STATE : goal.returns-then-state-ne-STATE
returns-then-state-ne-STATE c =
    let a = c.args in
    c.above_16.ensures ∙ read-other a.state.now (λ e. c.if-state-ne-STATE.true (omega (arith, e))) a.id

pub returns : goal.returns
returns c =
    let a = c.args in
    let read : answer_outcome c.read.result ≡ register_read c.load.result.registers a.id = c.read.ensures in
    c.answer_16.ensures
    ∙ ap (outcome_number above16) (read ∙ ap (λ (s : State). register_read s.registers a.id) c.load.ensures)
    ∙ read-state a.state.now (omega arith) a.id
