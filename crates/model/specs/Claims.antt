-- What is proved of single calls, and that demand 3 speaks of something: proofs/Ticks.antt, Commands.antt, Legal.antt, Invariant.antt and
-- Witness.antt have it. Demand 3 itself is in Demand.antt, and the numbers of reports are in ReportNumbers.antt.
use Rattle.std.specs.Prelude.{ℕ, ◌-◌, ◌*◌, ◌≤◌, ◌<◌, ◌^◌, ◌≡◌, true, List, [], ◌∷◌, ◌++◌, ◌⊎◌, length, get_or}
use Rattle.refusal.specs.Outcome.{given}
use Rattle.codes.specs.Code.{legal_words}
use Rattle.registers.specs.Access.{register, register_read}
use Rattle.registers.specs.declared.Registers.{Registers}
use Rattle.settings.specs.Settings.{averaged_spectra, enabled_of, running_of, spec_words}
use Rattle.words.specs.Words.{bits_from}
use Rattle.model.specs.Reply.{Reply, refused, stores, idle, collected, waiting, reported}
use Rattle.model.specs.Totals.{power, slot, no_totals, added}
use Rattle.model.specs.Report.{divisor, mean, report_bytes}
use Rattle.model.specs.Board.{state_sound, command_outcome, tick_outcome}
use Rattle.model.specs.Reference.{entry, spectra_total}
use Rattle.model.specs.Calls.{Powers, input_of}
use Rattle.model.specs.Demand.{ReportedBand, printed_value, Begun, reset_memory, Run, model_of, performed, Reports}
use Rattle.model.specs.declared.State.{State}

-- ---- commands and reads

-- an accepted command changes one register only
abbrev pub OneRegister : Type 0
OneRegister =
    (s : State) (totals : List ℕ) (id v n : ℕ) → ¬ (n ≡ id - 0x30) → register (command_outcome s totals id v).state.registers n ≡ register s.registers n

-- a read after an accepted command gives the value stored; the registers are seven, as those of the type are
abbrev pub ReadCommanded : Type 0
ReadCommanded =
    (s : State) (totals : List ℕ) (id v w : ℕ) → length s.registers.value ≡ 7 → (command_outcome s totals id v).answer ≡ stores w →
    register_read (command_outcome s totals id v).state.registers id ≡ given w

-- a command with the value read stores it again: the registers stay, and phase, number of reports and totals become 0
abbrev pub CommandBack : Type 0
CommandBack =
    (s : State) (totals : List ℕ) (id v : ℕ) → length totals ≡ 784 → state_sound s totals ≡ true → register_read s.registers id ≡ given v →
    command_outcome s totals id v ≡ record { answer = stores v; state = record { registers = s.registers; phase = 0; reports = 0 }; totals = no_totals }

-- ---- ticks

-- rows of disabled processors may hold anything: no answer, state or byte depends on them
abbrev pub DisabledRows : Type 0
DisabledRows =
    (s : State) (totals ps qs out : List ℕ) → length ps ≡ length qs →
    ((n k : ℕ) → n < 7 → enabled_of s.registers n ≡ true → k < 1024 → power ps n k ≡ power qs n k) →
    tick_outcome s totals ps out ≡ tick_outcome s totals qs out

-- only a report writes output
abbrev pub IsReport : Reply ℕ → Type 0
IsReport (refused n) = ⊥
IsReport (stores v) = ⊥
IsReport idle = ⊥
IsReport collected = ⊥
IsReport waiting = ⊥
IsReport (reported n) = Unit {0}

abbrev pub OnlyReportsWrite : Type 0
OnlyReportsWrite =
    (s : State) (totals ps out : List ℕ) → IsReport (tick_outcome s totals ps out).answer ⊎ ((tick_outcome s totals ps out).out ≡ out)

-- the exact mean of each band of each enabled processor is at most 2 ^ 32 - 1: T ≤ N · W · (2 ^ 32 - 1)
abbrev pub NoMeanOver : Registers → (ℕ → ℕ → ℕ) → Type 0
NoMeanOver r t = (n b : ℕ) → ReportedBand r n b → t n b ≤ divisor r b * (2 ^ 32 - 1)

-- 02, ticket 14: from a sound state no report meets a band mean over 2 ^ 32 - 1, whatever powers under 2 ^ 32 the tick is given. So a tick
-- has no refusal for it.
abbrev pub MeansWithin : Type 0
MeansWithin =
    (s : State) (totals ps : List ℕ) → state_sound s totals ≡ true → Powers ps → running_of s.registers ≡ true →
    s.phase ≡ averaged_spectra s.registers - 1 → NoMeanOver s.registers (slot (added s.registers totals ps))

-- a report has three bytes for each of its words, of which the first is the APID of SPEC, 0x4E
abbrev pub ReportWords : Type 0
ReportWords =
    (r : Registers) (t : ℕ → ℕ → ℕ) →
    (length (report_bytes r t) ≡ 3 * spec_words r) × ((j : ℕ) → j < spec_words r → get_or (report_bytes r t) (3 * j) 0 ≡ 0x4E)

-- each word of a report, three bytes of which the last two are its 16 bits, has two legal band codes
abbrev pub ReportLegal : Type 0
ReportLegal =
    (r : Registers) (t : ℕ → ℕ → ℕ) → ((n b : ℕ) → ReportedBand r n b → mean r t n b < 2 ^ 32) →
    legal_words (bits_from 3 (report_bytes r t) 1 (spec_words r)) ≡ true

-- ---- demand 3's lists

-- the board at reset is a start of such a list
abbrev pub ResetBegun : Type 0
ResetBegun = Begun reset_memory

-- some list of calls does report
abbrev pub SomeListReports : Type 0
SomeListReports = (x : Run) × (sp : List (List ℕ)) × Reports x sp

-- some list averages, as in 01, "Numbers on both sides", and ticket 5: a tick is collected, and the next one, after the same calls and this
-- tick, reports on two spectra; a band with a total of 19 is printed as 10
pub record SomeListAverages : Type 0 where
  pub earlier : Run
  pub collects : (entry (model_of earlier) (input_of earlier.last)).reply ≡ collected
  pub whole : Run
  pub start : whole.start ≡ earlier.start
  pub calls : whole.calls ≡ earlier.calls ++ (earlier.last ∷ [])
  pub spectra : List (List ℕ)
  pub reports : Reports whole spectra
  pub two : length spectra ≡ 2
  pub processor : ℕ
  pub band : ℕ
  pub printed : ReportedBand (model_of whole).registers processor band
  pub total : spectra_total (model_of whole).registers spectra processor band ≡ 19
  pub value : printed_value (model_of whole).registers (performed whole).out processor band ≡ 10
