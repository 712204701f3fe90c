-- 01, "Bands": which band an FFT bin falls in, and the bins of a band. S = 2 ^ s is 4, 8, 16 for the bin settings 0, 1, 2.
use Rattle.std.specs.Prelude.{Bool, true, false, cond, ◌&&◌, ℕ, zero, suc, ◌+◌, ◌-◌, ◌*◌, ◌/◌, ◌^◌, leb, ltb}
use Rattle.registers.specs.Store.{band_count}

-- s for a bin setting
abbrev pub size_exponent : ℕ → ℕ
size_exponent setting = setting + 2

-- The greatest number up to n that passes the test, and 0 where none of 1 to n does.
unfoldable pub greatest_to : (ℕ → Bool) → ℕ → ℕ
greatest_to test zero = 0
greatest_to test (suc n) = elim (test (suc n)) [ true ↦ suc n | false ↦ greatest_to test n ]

-- The h for which 2 ^ h is the greatest power of two not above k. It is at most k.
unfoldable pub octave : ℕ → ℕ
octave k = greatest_to (λ h. leb (2 ^ h) k) k

-- The band of bin k: k itself below S, and otherwise S · (h - s + 1) plus the whole part of (k - 2 ^ h) · S / 2 ^ h.
unfoldable pub band_of : ℕ → ℕ → ℕ
band_of s k = cond (ltb k (2 ^ s)) k (2 ^ s * (octave k - s + 1) + (k - 2 ^ octave k) * 2 ^ s / 2 ^ octave k)

-- ---- the bins of band b: 2 ^ e bins from (b - S · e) · 2 ^ e on. They are the bins of the rule above (`BinsOfBand` of Claims.antt).

unfoldable pub width_exponent : ℕ → ℕ → ℕ
width_exponent s b = b / 2 ^ s - 1

unfoldable pub band_start : ℕ → ℕ → ℕ
band_start s b = (b - 2 ^ s * width_exponent s b) * 2 ^ width_exponent s b

-- 01's W
unfoldable pub band_width : ℕ → ℕ → ℕ
band_width s b = 2 ^ width_exponent s b

-- the setting is at most 2, and the band is not past the count
abbrev pub has_band : ℕ → ℕ → Bool
has_band setting b = leb setting 2 && ltb b (band_count setting)
