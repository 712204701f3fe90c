-- 01, "Demand 3 and its plain book": calls as their caller makes them, what the board does at each, and what the reference model takes
-- of it.
use Rattle.std.specs.Prelude.{ℕ, ◌^◌, ◌<◌, ◌≡◌, List, [], ◌∷◌, length, get_or}
use Rattle.lists.specs.Tables.{overwrite}
use Rattle.settings.specs.Settings.{spec_words}
use Rattle.registers.specs.declared.Registers.{Registers}
use Rattle.model.specs.Reply.{Reply, refused, stores, idle, collected, waiting, reported}
use Rattle.model.specs.Report.{report_bytes}
use Rattle.model.specs.Board.{CommandOutcome, command_outcome, TickOutcome, tick_outcome}
use Rattle.model.specs.Reference.{Reference, Input, spectra_total}
use Rattle.model.specs.declared.State.{State}

-- the totals that a call is given: the caller's, as the call before left them, or a list of a wrong length, which 01 refuses by 2
pub data TotalsPassed : Type 0 where
  current : TotalsPassed
  wrong : (l : List ℕ) → ¬ (length l ≡ 784) → TotalsPassed

-- a call as its caller makes it
pub data Call : Type 0 where
  command : (id information : ℕ) → TotalsPassed → Call
  tick : (powers : List ℕ) → TotalsPassed → (out : List ℕ) → Call

-- powers are unsigned 32-bit numbers
abbrev pub Powers : List ℕ → Type 0
Powers powers = (i : ℕ) → get_or powers i 0 < 2 ^ 32

abbrev pub Typed : Call → Type 0
Typed (command id v t) = Unit {0}
Typed (tick powers t out) = Powers powers

-- what the caller keeps between calls
pub record Memory : Type 0 where
  pub state : State
  pub totals : List ℕ

abbrev pub passed : List ℕ → TotalsPassed → List ℕ
passed totals current = totals
passed totals (wrong l _) = l

-- the caller's totals after a call that left the list passed at l
abbrev pub totals_after : List ℕ → TotalsPassed → List ℕ → List ℕ
totals_after totals current l = l
totals_after totals (wrong _ _) l = totals

-- a call on the board: its answer, what the caller then keeps, and the output
pub record Performed : Type 0 where
  pub answer : Reply ℕ
  pub memory : Memory
  pub out : List ℕ

abbrev pub perform_command : Memory → TotalsPassed → CommandOutcome → Performed
perform_command x t o =
    record { answer = o.answer; memory = record { state = o.state; totals = totals_after x.totals t o.totals }; out = [] }

abbrev pub perform_tick : Memory → TotalsPassed → TickOutcome → Performed
perform_tick x t o =
    record { answer = o.answer; memory = record { state = o.state; totals = totals_after x.totals t o.totals }; out = o.out }

abbrev pub perform : Memory → Call → Performed
perform x (command id v t) = perform_command x t (command_outcome x.state (passed x.totals t) id v)
perform x (tick powers t out) = perform_tick x t (tick_outcome x.state (passed x.totals t) powers out)

abbrev pub perform_all : Memory → List Call → Memory
perform_all x [] = x
perform_all x (c ∷ cs) = perform_all (perform x c).memory cs

-- ---- what the reference model takes of a call, what it begins with, and what its entry says of the answer and the output

-- the length of the totals passed: the caller's are 784 when a list of calls begins (`Begun`), and no call changes how many
abbrev pub passed_length : TotalsPassed → ℕ
passed_length current = 784
passed_length (wrong l _) = length l

abbrev pub input_of : Call → Input
input_of (command id v t) = Input.command id v (passed_length t)
input_of (tick powers t out) = Input.tick powers (passed_length t) (length out)

-- the state's registers, phase 0 and no spectra
abbrev pub begin : Memory → Reference
begin x = record { registers = x.state.registers; phase = 0; spectra = [] }

abbrev pub out_of : Call → List ℕ
out_of (command id v t) = []
out_of (tick powers t out) = out

-- the answer of an entry made at registers r: of a report, 01's word count
abbrev pub answer_of : Registers → Reply (List (List ℕ)) → Reply ℕ
answer_of r (refused n) = refused n
answer_of r (stores v) = stores v
answer_of r idle = idle
answer_of r collected = collected
answer_of r waiting = waiting
answer_of r (reported spectra) = reported (spec_words r)

-- the output after it: a report's words first, and all else as it was
abbrev pub written_by : Registers → Reply (List (List ℕ)) → List ℕ → List ℕ
written_by r (refused n) out = out
written_by r (stores v) out = out
written_by r idle out = out
written_by r collected out = out
written_by r waiting out = out
written_by r (reported spectra) out = overwrite (report_bytes r (spectra_total r spectra)) out
