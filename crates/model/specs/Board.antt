-- 01, "Periods" and "Refusal numbers", and 02, ticket 13: what a command and a tick do to the state, the totals passed and the output
-- passed. The functions `command` and `tick` of crate `board` ensure these definitions, and demand 3 is proved of them.
use Rattle.std.specs.Prelude.{ℕ, ◌+◌, ◌-◌, ◌*◌, ◌^◌, min, Bool, cond, ◌&&◌, ◌||◌, not, List, length, leb, ltb, eqb, Result, Ok, Err}
use Rattle.lists.specs.Sums.{all_to}
use Rattle.lists.specs.Tables.{overwrite}
use Rattle.refusal.specs.Number.{number_of}
use Rattle.refusal.specs.declared.Refusal.{Refusal}
use Rattle.refusal.specs.Outcome.{Outcome, given, answer_outcome}
use Rattle.refusal.specs.Outcome as outcome
use Rattle.registers.specs.Store.{stored}
use Rattle.registers.specs.Access.{is_id, at_reset, stored_to, registers_sound}
use Rattle.settings.specs.Settings.{averaged_spectra, period_ticks, running_of, spec_words}
use Rattle.registers.specs.declared.Registers.{Registers}
use Rattle.model.specs.Reply.{Reply, refused, stores, idle, collected, waiting, reported}
use Rattle.model.specs.Totals.{in_use, width_of, slot, no_totals, added}
use Rattle.model.specs.Report.{report_bytes}
use Rattle.model.specs.declared.State.{State}
use Rattle.model.specs.declared.TickAnswer.{TickAnswer}
use Rattle.model.specs.declared.Commanded.{Commanded}
use Rattle.model.specs.declared.Ticked.{Ticked}

abbrev pub reset_state : State
reset_state = record { registers = at_reset; phase = 0; reports = 0 }

-- ---- a sound state

-- how many spectra the totals hold at phase p: p of them when running at p < N, and none otherwise
abbrev pub spectra_held : Registers → ℕ → ℕ
spectra_held r p = cond (running_of r && ltb p (averaged_spectra r)) p 0

-- the most that m spectra give a slot: m · W · (2 ^ 32 - 1); 0 for a disabled processor and for a band past the count
abbrev pub slot_limit : Registers → ℕ → ℕ → ℕ → ℕ
slot_limit r m n b = cond (in_use r n b) (m * width_of r b * (2 ^ 32 - 1)) 0

-- no total is above its limit for m spectra
unfoldable pub totals_within : Registers → ℕ → List ℕ → Bool
totals_within r m totals = all_to 7 (λ n. all_to 112 (λ b. leb (slot totals n b) (slot_limit r m n b)))

-- the phase is below C when running, and otherwise 0
unfoldable pub phase_sound : Registers → ℕ → Bool
phase_sound r p = cond (running_of r) (ltb p (period_ticks r)) (eqb p 0)

-- the number of reports is any when running, and otherwise 0
unfoldable pub reports_sound : Registers → ℕ → Bool
reports_sound r n = running_of r || eqb n 0

-- what soundness asks of the state's fields beside its registers
unfoldable pub period_sound : State → Bool
period_sound s = phase_sound s.registers s.phase && reports_sound s.registers s.reports

unfoldable pub state_sound : State → List ℕ → Bool
state_sound s totals =
    registers_sound s.registers
    && period_sound s
    && totals_within s.registers (spectra_held s.registers s.phase) totals

-- ---- commands

-- what a command leaves: its answer, the state and the totals passed
pub record CommandOutcome : Type 0 where
  pub answer : Reply ℕ
  pub state : State
  pub totals : List ℕ

abbrev pub command_reply : Outcome ℕ → Reply ℕ
command_reply (given v) = stores v
command_reply (outcome.refused n) = refused n

abbrev pub commanded_outcome : Commanded → List ℕ → CommandOutcome
commanded_outcome r totals = record { answer = command_reply (answer_outcome r.answer); state = r.state; totals = totals }

abbrev pub command_refused : ℕ → State → List ℕ → CommandOutcome
command_refused n s totals = record { answer = refused n; state = s; totals = totals }

-- accepted: one register changes; phase, number of reports and totals become 0
abbrev pub command_accepted : State → ℕ → ℕ → CommandOutcome
command_accepted s id v =
    record { answer = stores (stored id v); state = record { registers = stored_to s.registers id v; phase = 0; reports = 0 }; totals = no_totals }

-- a command of ID id with information v: refused by 2, 3, then 1
unfoldable pub command_outcome : State → List ℕ → ℕ → ℕ → CommandOutcome
command_outcome s totals id v =
    cond (not (eqb (length totals) 784)) (command_refused 2 s totals)
    (cond (not (state_sound s totals)) (command_refused 3 s totals)
    (cond (not (is_id id)) (command_refused 1 s totals)
    (command_accepted s id v)))

-- ---- ticks

-- what a tick leaves: its answer, the state, the totals passed and the output passed
pub record TickOutcome : Type 0 where
  pub answer : Reply ℕ
  pub state : State
  pub totals : List ℕ
  pub out : List ℕ

abbrev pub tick_reply : Result TickAnswer Refusal → Reply ℕ
tick_reply (Ok TickAnswer.Idle) = idle
tick_reply (Ok TickAnswer.Collected) = collected
tick_reply (Ok (TickAnswer.Reported words)) = reported words
tick_reply (Ok TickAnswer.Waiting) = waiting
tick_reply (Err r) = refused (number_of r)

abbrev pub ticked_outcome : Ticked → List ℕ → List ℕ → TickOutcome
ticked_outcome r totals out = record { answer = tick_reply r.answer; state = r.state; totals = totals; out = out }

-- the state with phase p + 1, or 0 after C - 1
abbrev pub at_next_phase : State → State
at_next_phase s =
    record {
      registers = s.registers;
      phase = cond (eqb s.phase (period_ticks s.registers - 1)) 0 (s.phase + 1);
      reports = s.reports;
    }

-- the state with one report more counted; the number stays at 65,535 once there
abbrev pub report_counted : State → State
report_counted s = record { registers = s.registers; phase = s.phase; reports = min (s.reports + 1) 65535 }

-- a tick that writes no output
abbrev pub without_report : Reply ℕ → State → List ℕ → List ℕ → TickOutcome
without_report a s totals out = record { answer = a; state = s; totals = totals; out = out }

-- the report, whose number is that of the state after it; sums are the totals with the tick's powers added
abbrev pub tick_reported : State → List ℕ → List ℕ → TickOutcome
tick_reported s sums out =
    record {
      answer = reported (spec_words s.registers);
      state = report_counted (at_next_phase s);
      totals = no_totals;
      out = overwrite (report_bytes s.registers (slot sums)) out;
    }

-- a tick of a running board at phase p: collected at p < N - 1, reported at p = N - 1, waiting at p ≥ N
unfoldable pub running_outcome : State → List ℕ → List ℕ → List ℕ → TickOutcome
running_outcome s totals sums out =
    cond (ltb s.phase (averaged_spectra s.registers - 1)) (without_report collected (at_next_phase s) sums out)
    (cond (eqb s.phase (averaged_spectra s.registers - 1)) (tick_reported s sums out)
    (without_report waiting (at_next_phase s) totals out))

-- the lengths of powers, totals and output that refusal 2 asks
abbrev pub lengths_fit : ℕ → ℕ → ℕ → Bool
lengths_fit powers totals out = eqb powers 7168 && eqb totals 784 && leb 1176 out

-- a tick: refused by 2, then 3; idle when not running
unfoldable pub tick_outcome : State → List ℕ → List ℕ → List ℕ → TickOutcome
tick_outcome s totals powers out =
    cond (not (lengths_fit (length powers) (length totals) (length out))) (without_report (refused 2) s totals out)
    (cond (not (state_sound s totals)) (without_report (refused 3) s totals out)
    (cond (not (running_of s.registers)) (without_report idle s totals out)
    (running_outcome s totals (added s.registers totals powers) out)))
