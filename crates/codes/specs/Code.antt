-- 01, "The two codes", as 02's ticket 5 amends it: one rule over the mantissa width w, which rounds down. The sum code is that rule at
-- w = 10. The band code chooses between two codes, the one that the rule gives at w = 3 and the one after it: the nearer to the value, and
-- the upper one halfway.
use Rattle.std.specs.Prelude.{Bool, true, false, ◌&&◌, ◌||◌, cond, List, [], ◌∷◌, ℕ, zero, suc, ◌+◌, ◌-◌, ◌*◌, ◌/◌, ◌%◌, ◌^◌, leb, ltb, eqb}

-- The least of e, e + 1, .., e + d that passes the test, and e + d where none before it does. It counts upwards, so that the code of any
-- 64-bit value can be computed by it.
unfoldable pub least_from : (ℕ → Bool) → ℕ → ℕ → ℕ
least_from test zero e = e
least_from test (suc d) e = elim (test e) [ true ↦ e | false ↦ least_from test d (suc e) ]

-- v divided by 2 ^ e, rounded down, fits a mantissa of w bits.
abbrev pub fits : ℕ → ℕ → ℕ → Bool
fits w v e = ltb (v / 2 ^ e) (2 ^ w)

-- The least e at which it fits. At e = v it always does.
unfoldable pub exponent : ℕ → ℕ → ℕ
exponent w v = least_from (fits w v) v 0

-- The code of v, rounded down: the exponent stands above the w bits of the mantissa.
unfoldable pub code_of : ℕ → ℕ → ℕ
code_of w v = exponent w v * 2 ^ w + v / 2 ^ exponent w v

-- What the code c stands for: m · 2 ^ e.
unfoldable pub value_of : ℕ → ℕ → ℕ
value_of w c = c % 2 ^ w * 2 ^ (c / 2 ^ w)

-- ---- the band code: a 3-bit mantissa, for 32-bit values

unfoldable pub band_value : ℕ → ℕ
band_value c = value_of 3 c

-- Legal codes: e = 0, or e from 1 to 29 with m ≥ 4, or 0xF4, which stands for 2 ^ 32.
unfoldable pub band_legal : ℕ → Bool
band_legal c = eqb (c / 8) 0 || (leb (c / 8) 29 && leb 4 (c % 8)) || eqb c 0xF4

-- The code after c: the next mantissa, and after m = 7 the m = 4 of the next exponent.
abbrev pub code_after : ℕ → ℕ
code_after c = cond (eqb (c % 8) 7) (c + 5) (c + 1)

-- The codes of the two neighbouring legal values, below and above v (`Neighbours`, Claims.antt).
abbrev pub code_below : ℕ → ℕ
code_below v = code_of 3 v

abbrev pub code_above : ℕ → ℕ
code_above v = code_after (code_below v)

-- How far two numbers lie apart, whichever is the greater.
abbrev pub distance : ℕ → ℕ → ℕ
distance a b = (a - b) + (b - a)

-- Ticket 5: the nearer of the two neighbouring legal values, and the upper one halfway.
unfoldable pub band_code : ℕ → ℕ
band_code v = cond (leb (distance v (band_value (code_above v))) (distance v (band_value (code_below v)))) (code_above v) (code_below v)

-- ---- words of two band codes: both bytes of a SPEC word's 16 bits are legal, and so are those of each word of a list

abbrev pub legal_word : ℕ → Bool
legal_word bits = band_legal (bits / 256) && band_legal (bits % 256)

unfoldable pub legal_words : List ℕ → Bool
legal_words [] = true
legal_words (bits ∷ words) = legal_word bits && legal_words words

-- ---- the sum code: a 10-bit mantissa, for 64-bit values

unfoldable pub sum_code : ℕ → ℕ
sum_code v = code_of 10 v

unfoldable pub sum_value : ℕ → ℕ
sum_value c = value_of 10 c
