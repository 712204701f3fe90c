-- What the registers set (01, "Registers 0x30 to 0x36", "Periods" and "Words and sets"). Bins, NAVG and NCAD count only in 0x30, as what
-- it stores: a field that no write can store counts as what a write of it would store. The limits and defaults are those of `stored_at`.
use Rattle.std.specs.Prelude.{ℕ, ◌*◌, ◌/◌, ◌^◌, Bool, cond, ◌&&◌, leb, ltb, eqb}
use Rattle.lists.specs.Sums.{sum_to}
use Rattle.registers.specs.Store.{enable_of, bins_of, navg_of, ncad_of, stored_at, band_count}
use Rattle.registers.specs.Access.{register}
use Rattle.registers.specs.declared.Registers.{Registers}

-- what 0x30 stores of its value: the value itself, if the registers are sound
abbrev pub first_stored : Registers → ℕ
first_stored r = stored_at 0 (register r 0)

-- the bin setting: 0, 1 or 2 for 36, 64 or 112 bands
unfoldable pub setting_of : Registers → ℕ
setting_of r = bins_of (first_stored r)

abbrev pub bands_of : Registers → ℕ
bands_of r = band_count (setting_of r)

-- 01's N and C: 2 to the power of NAVG and NCAD
unfoldable pub averaged_spectra : Registers → ℕ
averaged_spectra r = 2 ^ navg_of (first_stored r)

unfoldable pub period_ticks : Registers → ℕ
period_ticks r = 2 ^ ncad_of (first_stored r)

-- processor n, counted from 0, is enabled
unfoldable pub enabled_of : Registers → ℕ → Bool
enabled_of r n = eqb (enable_of (register r n)) 1

-- how many of the processors before n are enabled, and how many of the seven
abbrev pub enabled_before : Registers → ℕ → ℕ
enabled_before r n = sum_to n (λ i. cond (enabled_of r i) 1 0)

abbrev pub enabled_count : Registers → ℕ
enabled_count r = enabled_before r 7

-- running: some processor is enabled and N ≤ C
unfoldable pub running_of : Registers → Bool
running_of r = ltb 0 (enabled_count r) && leb (averaged_spectra r) (period_ticks r)

-- the words of an enabled processor: 18, 32 or 56, two bands each; and of a SPEC set, which has those of each enabled processor
abbrev pub words_each : Registers → ℕ
words_each r = bands_of r / 2

abbrev pub spec_words : Registers → ℕ
spec_words r = enabled_count r * words_each r
