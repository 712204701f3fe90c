-- The state as a C program holds it: nine 16-bit numbers, the registers 0x30 to 0x36, the phase and the number of reports.
use Rattle.std.specs.Prelude.{ℕ, List, [], ◌∷◌, ◌++◌, get_or, take}
use Rattle.model.specs.declared.State.{State}

abbrev pub state_of : List ℕ → State
state_of words = record { registers = record { value = take 7 words }; phase = get_or words 7 0; reports = get_or words 8 0 }

abbrev pub state_words : State → List ℕ
state_words s = s.registers.value ++ (s.phase ∷ s.reports ∷ [])
