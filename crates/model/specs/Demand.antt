-- 01, "Demand 3 and its plain book": demand 3, one claim about whole lists of commands and ticks.
use Rattle.std.specs.Prelude.{ℕ, ◌+◌, ◌*◌, ◌/◌, ◌%◌, ◌≤◌, ◌<◌, ◌≡◌, true, cond, List, [], ◌∷◌, map, length, get_or, eqb}
use Rattle.codes.specs.Code.{band_value}
use Rattle.codes.specs.Bounds.{MeanBounds}
use Rattle.settings.specs.Settings.{bands_of, averaged_spectra, enabled_of, enabled_before, words_each}
use Rattle.registers.specs.declared.Registers.{Registers}
use Rattle.model.specs.Reply.{refused, reported}
use Rattle.model.specs.Totals.{power, no_totals}
use Rattle.model.specs.Report.{divisor}
use Rattle.model.specs.Board.{reset_state, state_sound}
use Rattle.model.specs.Reference.{Reference, entry, after, spectra_total}
use Rattle.model.specs.Calls.{Memory, Call, Typed, Performed, perform, perform_all, input_of, out_of, begin, answer_of, written_by}

-- ---- a printed value

-- an enabled processor n and a band b of it
pub record ReportedBand (r : Registers) (n b : ℕ) : Type 0 where
  pub processor : n < 7
  pub enabled : enabled_of r n ≡ true
  pub band : b < bands_of r

-- the place of its word in the report: behind those of the enabled processors before n
abbrev pub word_index : Registers → ℕ → ℕ → ℕ
word_index r n b = enabled_before r n * words_each r + b / 2

-- its byte in the word: bits 15:8 for an odd band, which stand before bits 7:0
abbrev pub byte_in_word : ℕ → ℕ
byte_in_word b = cond (eqb (b % 2) 0) 2 1

-- 01's V: what the band's code stands for in the words that the reporting tick wrote
abbrev pub printed_value : Registers → List ℕ → ℕ → ℕ → ℕ
printed_value r out n b = band_value (get_or out (3 * word_index r n b + byte_in_word b) 0)

-- ---- one call

-- A call on the board agrees with the reference model, which held m before it. A report is on exactly N spectra, and each value that it
-- prints is near their mean.
pub record Agrees (m : Reference) (c : Call) (p : Performed) : Type 0 where
  pub registers : p.memory.state.registers ≡ (entry m (input_of c)).next.registers
  pub phase : p.memory.state.phase ≡ (entry m (input_of c)).next.phase
  pub answer : p.answer ≡ answer_of m.registers (entry m (input_of c)).reply
  pub out : p.out ≡ written_by m.registers (entry m (input_of c)).reply (out_of c)
  pub count : (sp : List (List ℕ)) → (entry m (input_of c)).reply ≡ reported sp → length sp ≡ averaged_spectra m.registers
  pub near : (sp : List (List ℕ)) → (entry m (input_of c)).reply ≡ reported sp → (n b : ℕ) → ReportedBand m.registers n b →
      MeanBounds (divisor m.registers b) (spectra_total m.registers sp n b) (printed_value m.registers p.out n b)

-- ---- whole lists

-- a sound state at phase 0
pub record Begun (x : Memory) : Type 0 where
  pub totals-length : length x.totals ≡ 784
  pub sound : state_sound x.state x.totals ≡ true
  pub phase : x.state.phase ≡ 0

-- the board at reset, with totals all 0
abbrev pub reset_memory : Memory
reset_memory = record { state = reset_state; totals = no_totals }

abbrev pub AllTyped : List Call → Type 0
AllTyped [] = Unit {0}
AllTyped (c ∷ cs) = Typed c × AllTyped cs

-- a list of calls begun from such a state, and the call after it
pub record Run : Type 0 where
  pub start : Memory
  pub begun : Begun start
  pub calls : List Call
  pub typed : AllTyped calls
  pub last : Call
  pub last-typed : Typed last

-- the reference model before the last call, and what the board does at it
abbrev pub model_of : Run → Reference
model_of x = after (begin x.start) (map input_of x.calls)

abbrev pub performed : Run → Performed
performed x = perform (perform_all x.start x.calls) x.last

abbrev pub Reports : Run → List (List ℕ) → Type 0
Reports x sp = (entry (model_of x) (input_of x.last)).reply ≡ reported sp

-- no power of an enabled processor is smaller in the second spectra, spectrum by spectrum, bin by bin
abbrev pub NoSmaller : Registers → List (List ℕ) → List (List ℕ) → Type 0
NoSmaller r sp sp' =
    (i n k : ℕ) → i < length sp → n < 7 → enabled_of r n ≡ true → k < 1024 → power (get_or sp i []) n k ≤ power (get_or sp' i []) n k

pub record Demand3 : Type 0 where
  -- each call agrees with the reference model
  pub agrees : (x : Run) → Agrees (model_of x) x.last (performed x)
  -- no refusal is 3 or more: refusal 3 never comes
  pub refusals : (x : Run) (n : ℕ) → (performed x).answer ≡ refused n → n < 3
  -- of two reports with equal settings and no smaller powers in the second, no printed value is smaller in the second
  pub ordered : (x y : Run) (sp sp' : List (List ℕ)) → Reports x sp → Reports y sp' →
      (model_of x).registers ≡ (model_of y).registers → NoSmaller (model_of x).registers sp sp' →
      (n b : ℕ) → ReportedBand (model_of x).registers n b →
      printed_value (model_of x).registers (performed x).out n b ≤ printed_value (model_of x).registers (performed y).out n b
