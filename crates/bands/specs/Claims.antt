-- 01, "Bands": what is claimed of the rule. S is 2 ^ s. Assumes nothing.
use Rattle.std.specs.Prelude.{◌≡◌, ◌↔◌, ℕ, suc, ◌+◌, ◌^◌, ◌≤◌, ◌<◌}
use Rattle.registers.specs.Store.{band_count}
use Rattle.bands.specs.Band.{size_exponent, octave, band_of, band_start, band_width}
use Rattle.bands.specs.Power.{band_sum}

-- 2 ^ h is the greatest power of two not above k
abbrev pub OctaveGreatest : Type 0
OctaveGreatest = (k : ℕ) → 0 < k → (2 ^ octave k ≤ k) × ((h : ℕ) → 2 ^ h ≤ k → h ≤ octave k)

-- ---- the bins of a band

-- bin k is one of the bins of band b
pub record InBand (s k b : ℕ) : Type 0 where
  pub from : band_start s b ≤ k
  pub before : k < band_start s b + band_width s b

-- the rule puts a bin into a band exactly if it is one of the band's bins
abbrev pub BinsOfBand : Type 0
BinsOfBand = (s k b : ℕ) → (band_of s k ≡ b) ↔ InBand s k b

-- W is the number of the bins that the rule puts into the band
abbrev pub WidthCounts : Type 0
WidthCounts = (setting b : ℕ) → b < band_count setting → band_sum (size_exponent setting) b (λ k. 1) ≡ band_width (size_exponent setting) b

-- ---- the bands of a setting

-- b is the one band of bin k
pub record OneBand (setting k b : ℕ) : Type 0 where
  pub known : b < band_count setting
  pub inside : InBand (size_exponent setting) k b
  pub only : (b' : ℕ) → InBand (size_exponent setting) k b' → b' ≡ b

-- The bands follow one another from bin 0 to bin 1023 without a gap, and each bin is in exactly one of them.
pub record Partition (setting : ℕ) : Type 0 where
  pub first : band_start (size_exponent setting) 0 ≡ 0
  pub next : (b : ℕ) → band_start (size_exponent setting) (suc b) ≡ band_start (size_exponent setting) b + band_width (size_exponent setting) b
  pub end : band_start (size_exponent setting) (band_count setting) ≡ 1024
  pub one : (k : ℕ) → k < 1024 → OneBand setting k (band_of (size_exponent setting) k)

abbrev pub Partitioned : Type 0
Partitioned = (setting : ℕ) → setting ≤ 2 → Partition setting
