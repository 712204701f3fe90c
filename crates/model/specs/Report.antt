-- 01, "The two codes" (the code of a mean) and "Words and sets" (SPEC): the words of a report, from the total t n b of each processor n
-- and band b.
use Rattle.std.specs.Prelude.{ℕ, ◌+◌, ◌*◌, ◌/◌, cond, List, [], ◌∷◌}
use Rattle.lists.specs.Tables.{concat_to}
use Rattle.codes.specs.Code.{band_code}
use Rattle.settings.specs.Settings.{averaged_spectra, enabled_of, words_each}
use Rattle.registers.specs.declared.Registers.{Registers}
use Rattle.model.specs.Totals.{width_of}

-- 01's N · W: what the total of band b is divided by
abbrev pub divisor : Registers → ℕ → ℕ
divisor r b = averaged_spectra r * width_of r b

-- T / (N · W), rounded down
abbrev pub mean : Registers → (ℕ → ℕ → ℕ) → ℕ → ℕ → ℕ
mean r t n b = t n b / divisor r b

-- word j of a processor whose means are m: the APID, then band 2j + 1 in bits 15:8 and band 2j in bits 7:0
abbrev pub spec_word : (ℕ → ℕ) → ℕ → List ℕ
spec_word m j = 0x4E ∷ band_code (m (2 * j + 1)) ∷ band_code (m (2 * j)) ∷ []

-- the words of processor n: 18, 32 or 56 if it is enabled, two bands each
unfoldable pub processor_bytes : Registers → (ℕ → ℕ → ℕ) → ℕ → List ℕ
processor_bytes r t n = cond (enabled_of r n) (concat_to (words_each r) (spec_word (mean r t n))) []

-- the enabled processors in rising order
unfoldable pub report_bytes : Registers → (ℕ → ℕ → ℕ) → List ℕ
report_bytes r t = concat_to 7 (processor_bytes r t)
