-- What each function of the C interface that takes a state does: a state of another length than 9 is refusal 2, and otherwise the call is
-- the board's.
use Rattle.std.specs.Prelude.{ℕ, ◌+◌, ◌*◌, cond, not, List, eqb, length}
use Rattle.registers.specs.Access.{register_read}
use Rattle.model.specs.Reply.{Reply}
use Rattle.model.specs.Reply as reply
use Rattle.model.specs.Board.{CommandOutcome, command_outcome, TickOutcome, tick_outcome}
use Rattle.dfb_refusals.specs.Numbers.{above16, outcome_number}
use Rattle.dfb_board.specs.State.{state_of, state_words}

-- a command's answer is the value stored; a tick's 0 for idle, 1 for collected, 2 for waiting, and for a report its words and its number,
-- which is the number of reports of the state after it: 0x80000000 + words · 65536 + number
abbrev pub reply_number : Reply ℕ → ℕ → ℕ
reply_number (reply.refused n) reports = above16 + n
reply_number (reply.stores v) reports = v
reply_number reply.idle reports = 0
reply_number reply.collected reports = 1
reply_number reply.waiting reports = 2
reply_number (reply.reported words) reports = 0x80000000 + words * 65536 + reports

-- what dfb_command leaves
pub record CommandCall : Type 0 where
  pub answer : ℕ
  pub state : List ℕ
  pub totals : List ℕ

abbrev pub command_left : CommandOutcome → CommandCall
command_left o = record { answer = reply_number o.answer o.state.reports; state = state_words o.state; totals = o.totals }

unfoldable pub command_call : List ℕ → List ℕ → ℕ → ℕ → CommandCall
command_call state totals id information =
    cond (not (eqb (length state) 9)) (record { answer = above16 + 2; state = state; totals = totals })
    (command_left (command_outcome (state_of state) totals id information))

-- what dfb_tick leaves
pub record TickCall : Type 0 where
  pub answer : ℕ
  pub state : List ℕ
  pub totals : List ℕ
  pub out : List ℕ

abbrev pub tick_call_left : ℕ → List ℕ → List ℕ → List ℕ → TickCall
tick_call_left answer state totals out = record { answer = answer; state = state; totals = totals; out = out }

abbrev pub tick_left : TickOutcome → TickCall
tick_left o = tick_call_left (reply_number o.answer o.state.reports) (state_words o.state) o.totals o.out

unfoldable pub tick_call : List ℕ → List ℕ → List ℕ → List ℕ → TickCall
tick_call state totals powers out =
    cond (not (eqb (length state) 9)) (tick_call_left (above16 + 2) state totals out)
    (tick_left (tick_outcome (state_of state) totals powers out))

-- what dfb_read answers
unfoldable pub read_call : List ℕ → ℕ → ℕ
read_call state id = cond (not (eqb (length state) 9)) (above16 + 2) (outcome_number above16 (register_read (state_of state).registers id))
