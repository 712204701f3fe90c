-- 01, "Periods": the powers of a tick, and the list of 784 band totals. Processors, bands and bins are counted from 0.
use Rattle.std.specs.Prelude.{ℕ, ◌+◌, ◌*◌, Bool, cond, ◌&&◌, List, get_or, replicate, ltb}
use Rattle.lists.specs.Tables.{grid}
use Rattle.bands.specs.Band.{size_exponent, band_width}
use Rattle.bands.specs.Power.{band_sum}
use Rattle.settings.specs.Settings.{setting_of, bands_of, enabled_of}
use Rattle.registers.specs.declared.Registers.{Registers}

-- processor n is enabled, and band b is not past the count
abbrev pub in_use : Registers → ℕ → ℕ → Bool
in_use r n b = enabled_of r n && ltb b (bands_of r)

-- 01's W: the number of bins of band b, which is how many bins the band rule puts into it (`WidthCounts`, bands/specs/Claims.antt)
abbrev pub width_of : Registers → ℕ → ℕ
width_of r b = band_width (size_exponent (setting_of r)) b

-- the power of processor n at bin k, in the 7 rows of 1,024 that a tick brings
abbrev pub power : List ℕ → ℕ → ℕ → ℕ
power powers n k = get_or powers (n * 1024 + k) 0

-- the sum of processor n's powers in band b
abbrev pub band_power : Registers → List ℕ → ℕ → ℕ → ℕ
band_power r powers n b = band_sum (size_exponent (setting_of r)) b (power powers n)

-- the total of processor n and band b: 112 for each processor, processor 1 first, bands rising
abbrev pub slot : List ℕ → ℕ → ℕ → ℕ
slot totals n b = get_or totals (n * 112 + b) 0

-- all totals 0
unfoldable pub no_totals : List ℕ
no_totals = replicate 784 0

-- the totals with one tick's powers added
unfoldable pub added : Registers → List ℕ → List ℕ → List ℕ
added r totals powers = grid 7 112 (λ n b. slot totals n b + cond (in_use r n b) (band_power r powers n b) 0)
