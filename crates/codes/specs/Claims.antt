-- 01, "The two codes", as 02's ticket 5 amends it: what is claimed of the codes. Assumes nothing.
use Rattle.std.specs.Prelude.{◌≡◌, true, cond, ◌⊎◌, ℕ, zero, suc, ◌+◌, ◌-◌, ◌*◌, ◌/◌, ◌^◌, ◌≤◌, ◌<◌}
use Rattle.refusal.specs.Outcome.{given}
use Rattle.codes.specs.Code.{fits, exponent, distance, code_below, code_above, band_code, band_value, band_legal, sum_code, sum_value}
use Rattle.codes.specs.Expanded.{band_expanded, sum_expanded}
use Rattle.codes.specs.Bounds.{MeanBounds, RoundedDownBounds}

-- at every mantissa width the exponent is the least at which the value fits
abbrev pub LeastExponent : Type 0
LeastExponent = (w v : ℕ) → (fits w v (exponent w v) ≡ true) × ((e : ℕ) → fits w v e ≡ true → exponent w v ≤ e)

-- ---- the band code

-- the legal values of the codes `below` and `above` are neighbours, and v lies between them
pub record Neighbours (v below above : ℕ) : Type 0 where
  pub below-legal : band_legal below ≡ true
  pub above-legal : band_legal above ≡ true
  pub not-over : band_value below ≤ v
  pub over : v < band_value above
  pub none_between : (c : ℕ) → band_legal c ≡ true → (band_value c ≤ band_value below) ⊎ (band_value above ≤ band_value c)

-- the code of a 32-bit value is chosen from its neighbours
abbrev pub BandNeighbours : Type 0
BandNeighbours = (v : ℕ) → v < 2 ^ 32 → Neighbours v (code_below v) (code_above v)

-- no legal code is nearer to v than `code`, and at equal distance none is greater
pub record Nearest (v code : ℕ) : Type 0 where
  pub nearer : (c : ℕ) → band_legal c ≡ true → distance v (band_value code) ≤ distance v (band_value c)
  pub upper : (c : ℕ) → band_legal c ≡ true → distance v (band_value c) ≡ distance v (band_value code) → band_value c ≤ band_value code

-- ticket 5, of every value; with `BandCodesLegal` and `LegalCodesReturn` it settles the code of a 32-bit one
abbrev pub BandNearest : Type 0
BandNearest = (v : ℕ) → Nearest v (band_code v)

-- the code of the mean T/(N-as-W), rounded down, stands for a value within ticket 5's bounds of the mean
abbrev pub BandMeanBounds : Type 0
BandMeanBounds = (powers total : ℕ) → 0 < powers → MeanBounds powers total (band_value (band_code (total / powers)))

-- the code of a value that is not smaller does not stand for less
abbrev pub BandMonotone : Type 0
BandMonotone = (v v' : ℕ) → v ≤ v' → band_value (band_code v) ≤ band_value (band_code v')

-- the code of a 32-bit value is legal
abbrev pub BandCodesLegal : Type 0
BandCodesLegal = (v : ℕ) → v < 2 ^ 32 → band_legal (band_code v) ≡ true

-- it is expanded to what it stands for, never refused
abbrev pub BandCodesExpanded : Type 0
BandCodesExpanded = (v : ℕ) → v < 2 ^ 32 → band_expanded (band_code v) ≡ given (band_value (band_code v))

-- a legal code is the code of what it stands for
abbrev pub LegalCodesReturn : Type 0
LegalCodesReturn = (c : ℕ) → band_legal c ≡ true → band_code (band_value c) ≡ c

-- how many of the codes below n are legal
abbrev pub legal_below : ℕ → ℕ
legal_below zero = 0
legal_below (suc n) = legal_below n + cond (band_legal n) 1 0

-- 0xF4 is the 125th legal code, and the last of the 256
abbrev pub LegalCodes : Type 0
LegalCodes = (legal_below 0xF4 ≡ 124) × (band_legal 0xF4 ≡ true) × (legal_below 256 ≡ 125)

-- the code below the mean, as logs made before version 0.5.0 have it, stands for a value within 01's own bounds of the mean
abbrev pub RoundedDownMeans : Type 0
RoundedDownMeans = (powers total : ℕ) → 0 < powers → RoundedDownBounds powers total (band_value (code_below (total / powers)))

-- ---- the sum code

-- How far what the code of v stands for lies below v: not at all where v fits the mantissa, and otherwise less than a 513th part of v.
pub record SumBounds (v value : ℕ) : Type 0 where
  pub below : value ≤ v
  pub small : v < 1024 → value ≡ v
  pub large : 1024 ≤ v → 513 * (v - value) < v

abbrev pub SumCodeBounds : Type 0
SumCodeBounds = (v : ℕ) → SumBounds v (sum_value (sum_code v))

-- the code of a 64-bit value is expanded to what it stands for, never refused
abbrev pub SumCodesExpanded : Type 0
SumCodesExpanded = (v : ℕ) → v < 2 ^ 64 → sum_expanded (sum_code v) ≡ given (sum_value (sum_code v))
