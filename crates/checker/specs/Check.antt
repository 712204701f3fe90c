-- The check of a command list, record by record from reset (02, ticket 6). Per record the refusals come in the order 9, 10, then 18, 1, 20
-- for a command, 19, 21 for a second mark; at the end 21. `read_at` gives 9, 10 and 1.
use Rattle.std.specs.Prelude.{Bool, cond, not, ◌||◌, List, ℕ, zero, suc, ◌+◌, leb, ltb, eqb, length, Result, Ok, Err}
use Rattle.refusal.specs.declared.Fault.{Fault}
use Rattle.refusal.specs.Number.{number_of}
use Rattle.refusal.specs.Outcome.{Outcome, given, refused}
use Rattle.registers.specs.declared.Registers.{Registers}
use Rattle.registers.specs.Store.{stored}
use Rattle.registers.specs.Access.{at_reset, stored_to}
use Rattle.settings.specs.Settings.{averaged_spectra, period_ticks, enabled_count}
use Rattle.board_log.specs.declared.Command.{Command}
use Rattle.board_log.specs.declared.Record.{Record}
use Rattle.board_log.specs.Cursor.{Found, found, end, read_at}
use Rattle.checker.specs.declared.Standing.{Standing}
use Rattle.checker.specs.declared.Verdict.{Verdict}

-- the verdict in the papers' numbers: accepted, or the refusal with the offset of the record at fault; and the registers that the records
-- before the end or before the one at fault leave
pub data Judged : Type 0 where
  accepted : Judged
  refused_at : (number offset : ℕ) → Judged

pub record Checked : Type 0 where
  pub judged : Judged
  pub registers : Registers

abbrev pub judgement_outcome : Result (Unit {0}) Fault → Judged
judgement_outcome (Ok kept) = accepted
judgement_outcome (Err f) = refused_at (number_of f.refusal) f.offset

abbrev pub verdict_outcome : Verdict → Checked
verdict_outcome v = record { judged = judgement_outcome v.judgement; registers = v.registers }

-- no processor is enabled or N ≤ C
unfoldable pub within_period : Registers → Bool
within_period r = eqb (enabled_count r) 0 || leb (averaged_spectra r) (period_ticks r)

-- ---- one record

-- a command: 20 where the value stored is not the one sent
abbrev pub stores_sent : Command → Bool
stores_sent c = eqb (stored c.id c.information) c.information

abbrev pub check_command : Command → Outcome (Unit {0})
check_command c = cond (not (stores_sent c)) (refused 20) (given tt)

-- a second mark: 19 where its second is smaller than that of the mark before it, then 21 by the registers in force
abbrev pub check_mark : Standing → ℕ → Outcome (Unit {0})
check_mark s second =
    cond (ltb second s.second) (refused 19)
    (cond (not (within_period s.registers)) (refused 21)
    (given tt))

-- a record: 18 for a word and a tick
abbrev pub check_record : Standing → Record → Outcome (Unit {0})
check_record s (Record.Command c) = check_command c
check_record s (Record.SecondMark second) = check_mark s second
check_record s (Record.Word w) = refused 18
check_record s Record.Tick = refused 18

-- what the records up to one leave: a command stores, and a second mark is the last
abbrev pub after_record : Standing → Record → Standing
after_record s (Record.Command c) = record { second = s.second; registers = stored_to s.registers c.id c.information }
after_record s (Record.SecondMark second) = record { second = second; registers = s.registers }
after_record s (Record.Word w) = s
after_record s Record.Tick = s

-- a read that was refused: a word of an APID that is not kept is a word all the same, and 18 comes before 4
abbrev pub refusal_of_read : ℕ → ℕ
refusal_of_read n = cond (eqb n 4) 18 n

-- the end of the list, at a place
abbrev pub end_judgement : Registers → ℕ → Judged
end_judgement r at = cond (not (within_period r)) (refused_at 21 at) accepted

-- ---- the whole list

-- the place after a record with what the records up to it leave, or the verdict
pub data Stepped : Type 0 where
  next : (after : ℕ) → Standing → Stepped
  last : Checked → Stepped

abbrev pub judged_at : Standing → Judged → Stepped
judged_at s j = last (record { judged = j; registers = s.registers })

-- a record at a place, by its check, and the place after it
abbrev pub record_step : Outcome (Unit {0}) → Standing → Record → ℕ → ℕ → Stepped
record_step (given kept) s r at after = next after (after_record s r)
record_step (refused n) s r at after = judged_at s (refused_at n at)

-- what was read at a place
abbrev pub read_step : Outcome Found → ℕ → Standing → Stepped
read_step (given (found r after)) at s = record_step (check_record s r) s r at after
read_step (given end) at s = judged_at s (end_judgement s.registers at)
read_step (refused n) at s = judged_at s (refused_at (refusal_of_read n) at)

-- the step at a place of the list
abbrev pub step_at : List ℕ → ℕ → Standing → Stepped
step_at log at s = read_step (read_at log at) at s

-- a step, and `rest` for the list from the place after it on
abbrev pub checked_on : Stepped → (ℕ → Standing → Checked) → Checked
checked_on (next after later) rest = rest after later
checked_on (last v) rest = v

-- so many steps at most
unfoldable pub check_steps : ℕ → List ℕ → ℕ → Standing → Checked
check_steps zero log at s = record { judged = end_judgement s.registers at; registers = s.registers }
check_steps (suc k) log at s = checked_on (step_at log at s) (check_steps k log)

-- from a place on. Each record takes a byte at least, so a step more than the list has bytes is enough
unfoldable pub check_from : List ℕ → ℕ → Standing → Checked
check_from log at s = check_steps (length log + 1) log at s

-- before the first record: any second may come, and registers are at reset
abbrev pub at_start : Standing
at_start = record { second = 0; registers = at_reset }

unfoldable pub commands_checked : List ℕ → Checked
commands_checked log = check_from log 0 at_start
