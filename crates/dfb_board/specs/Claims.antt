-- How a caller tells the answers of a command, a tick or a read apart: below 0x10000 an accepted answer, then a refusal, and from 0x80000000 a
-- report, whose words and number the caller tells too; and what a refused call leaves. Assumes nothing.
use Rattle.std.specs.Prelude.{ℕ, ◌+◌, ◌-◌, ◌*◌, ◌/◌, ◌%◌, ◌≡◌, Bool, true, false, not, ◌&&◌, ◌||◌, List, leb, ltb, eqb, length}
use Rattle.refusal.specs.Outcome.{is_given}
use Rattle.registers.specs.Access.{register_read}
use Rattle.model.specs.Reply.{Reply}
use Rattle.model.specs.Reply as reply
use Rattle.model.specs.Board.{command_outcome, tick_outcome}
use Rattle.dfb_refusals.specs.Numbers.{above16}
use Rattle.dfb_board.specs.State.{state_of}
use Rattle.dfb_board.specs.Calls.{command_call, tick_call, read_call}

abbrev pub is_refused : Reply ℕ → Bool
is_refused (reply.refused n) = true
is_refused (reply.stores v) = false
is_refused reply.idle = false
is_refused reply.collected = false
is_refused reply.waiting = false
is_refused (reply.reported words) = false

abbrev pub is_reported : Reply ℕ → Bool
is_reported (reply.refused n) = false
is_reported (reply.stores v) = false
is_reported reply.idle = false
is_reported reply.collected = false
is_reported reply.waiting = false
is_reported (reply.reported words) = true

-- the number is that of a refusal, or of a report, exactly where the answer is one, and below 0x10000 otherwise; a report has at most 392
-- words, and its own number 16 bits
pub record ReplyToldApart (number : ℕ) (refusal report : Bool) : Type 0 where
  pub accepted : ltb number above16 ≡ not (refusal || report)
  pub refused : (leb above16 number && ltb number 0x20000) ≡ refusal
  pub reported : (leb 0x80000000 number && leb number (0x80000000 + 392 * 65536 + 65535)) ≡ report

-- ---- the calls: a state of another length than 9 is a refusal too

abbrev pub CommandCallApart : Type 0
CommandCallApart =
    (state totals : List ℕ) (id v : ℕ) →
    ReplyToldApart (command_call state totals id v).answer
    (not (eqb (length state) 9) || is_refused (command_outcome (state_of state) totals id v).answer)
    (eqb (length state) 9 && is_reported (command_outcome (state_of state) totals id v).answer)

abbrev pub TickCallApart : Type 0
TickCallApart =
    (state totals powers out : List ℕ) →
    ReplyToldApart (tick_call state totals powers out).answer
    (not (eqb (length state) 9) || is_refused (tick_outcome (state_of state) totals powers out).answer)
    (eqb (length state) 9 && is_reported (tick_outcome (state_of state) totals powers out).answer)

abbrev pub ReadCallApart : Type 0
ReadCallApart =
    (state : List ℕ) (id : ℕ) → ltb (read_call state id) above16 ≡ (eqb (length state) 9 && is_given (register_read (state_of state).registers id))

-- ---- the words of a report, and its number, from its answer: the number is the state's after it

pub record ReportAnswer (answer words reports : ℕ) : Type 0 where
  pub words-part : (answer - 0x80000000) / 65536 ≡ words
  pub number-part : answer % 65536 ≡ reports

abbrev pub ReportParts : Type 0
ReportParts =
    (state totals powers out : List ℕ) (words : ℕ) → length state ≡ 9 → (tick_outcome (state_of state) totals powers out).answer ≡ reply.reported words →
    ReportAnswer (tick_call state totals powers out).answer words (tick_outcome (state_of state) totals powers out).state.reports

-- ---- a call that the board refuses leaves state, totals and output as they were

abbrev pub RefusedCommandUnchanged : Type 0
RefusedCommandUnchanged =
    (state totals : List ℕ) (n : ℕ) → length state ≡ 9 → (id v : ℕ) → (command_outcome (state_of state) totals id v).answer ≡ reply.refused n →
    command_call state totals id v ≡ record { answer = above16 + n; state = state; totals = totals }

abbrev pub RefusedTickUnchanged : Type 0
RefusedTickUnchanged =
    (state totals : List ℕ) (n : ℕ) → length state ≡ 9 → (powers out : List ℕ) → (tick_outcome (state_of state) totals powers out).answer ≡ reply.refused n →
    tick_call state totals powers out ≡ record { answer = above16 + n; state = state; totals = totals; out = out }
