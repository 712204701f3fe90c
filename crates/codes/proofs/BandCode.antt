-- The laws of the band code that callers cite: legal codes, the two neighbours of a value, the nearer of them, and the bounds on a mean.
-- Assumes nothing.
use mathlib.Core.Path.{◌≡◌, refl, sym, ap, ap₂, ◌∙◌, subst}
use mathlib.Core.Bool.{Bool, true, false, cond}
use mathlib.Core.Logic.{◌⊎◌, inl, inr}
use Prim.Native.Nat.{ℕ, zero, suc, ◌+◌, ◌*◌, ◌/◌, ◌%◌, ◌^◌, ◌≤◌, ◌<◌}
use native.Mathlib.Nat.{le_of_eq, lt_of_not-le, not-le_of_lt, mul_left_comm, mul-add, add-mul, mul-le-mul_left, mod-lt, lt-mul-div-succ, div-lt_iff_lt-mul, le-div_iff_mul-le, div-add-mod, mul-div-le, pow-suc}
use native.Mathlib.Decide.{dec_lt}
use native.Mathlib.Numerals.{add-one-le}
use native.Mathlib.Omega.{arith}
use lib.Pow.{pow_pos}
use lib.Dec.{eqb}
use borrow.Author.Tests.{eqb-true, eqb-false}
use Rattle.codes.specs.Code.{least_from, exponent, code_of, value_of, distance, code_after, code_below, code_above, band_code, band_value, band_legal}
use Rattle.codes.specs.Claims.{BandNearest, BandMeanBounds, BandMonotone, BandCodesLegal, BandCodesExpanded, LegalCodesReturn, RoundedDownMeans}
use Rattle.codes.proofs.Laws.{coded, coded-is, coded-le, step-le, coded-small, coded-mean}
use Rattle.codes.proofs.LeastExponent.{Least, least_lt, exponent-least, Compressed, compressed}
use Rattle.codes.proofs.Neighbours.{Reduced, above-is, above-legal, after, below-is, below-legal, below-reduced, code_below-returns, legal-of, none_between, not-over, over}
use Rattle.codes.proofs.Taken.{Taken, taken}
use Rattle.codes.proofs.Ninth.{WithinNinth}

-- ---- the nearer of the two

-- a property of both neighbours is one of the code
either : (P : ℕ → Type 0) (v : ℕ) → P (code_below v) → P (code_above v) → P (band_code v)
either P v low high = go (taken v)
  where
    go : Taken v (band_code v) (code_below v) (code_above v) → P (band_code v)
    go (inl t) = subst P (sym t.0) low
    go (inr t) = subst P (sym t.0) high

pub band-legal : BandCodesLegal
band-legal v h = either (λ (c : ℕ). band_legal c ≡ true) v (below-legal v h) (above-legal v h)

pub band-expanded : BandCodesExpanded
band-expanded v h = rw (band-legal v h)

-- y was taken for v and not x: 2 · v is at least x + y where y is the greater, and below x + y where x is
record Closest (v y x : ℕ) : Type 0 where
  greater : x < y → x + y ≤ v + v
  smaller : y < x → v + v < x + y

closest : (v c : ℕ) → Reduced c → Closest v (band_value (band_code v)) (band_value c)
closest v c r = go (taken v) (none_between v c r)
  where
    go : Taken v (band_code v) (code_below v) (code_above v) → (band_value c ≤ band_value (code_below v)) ⊎ (band_value (code_above v) ≤ band_value c)
        → Closest v (band_value (band_code v)) (band_value c)
    go (inl t) side =
        let is : band_value (band_code v) ≡ band_value (code_below v) = ap band_value t.0 in
        record { greater = λ h. omega (arith, is, not-over v); smaller = λ h. beside side is h }
      where
        beside : (band_value c ≤ band_value (code_below v)) ⊎ (band_value (code_above v) ≤ band_value c) → band_value (band_code v) ≡ band_value (code_below v)
            → band_value (band_code v) < band_value c → v + v < band_value c + band_value (band_code v)
        beside (inl x) is h = absurd (omega arith)
        beside (inr x) is h = omega (arith, t.1)
    go (inr t) side =
        let is : band_value (band_code v) ≡ band_value (code_above v) = ap band_value t.0 in
        record { greater = λ h. beside side is h; smaller = λ h. omega (arith, is, over v) }
      where
        beside : (band_value c ≤ band_value (code_below v)) ⊎ (band_value (code_above v) ≤ band_value c) → band_value (band_code v) ≡ band_value (code_above v)
            → band_value c < band_value (band_code v) → band_value c + band_value (band_code v) ≤ v + v
        beside (inl x) is h = omega (arith, t.1)
        beside (inr x) is h = absurd (omega arith)

-- so y is no farther from v than x, and not smaller where both are as far
module _ (v y x : ℕ) (k : Closest v y x) where
  no-farther : distance v y ≤ distance v x
  no-farther = go (dec_lt x y) (dec_lt y x)
    where
      go : Dec (x < y) → Dec (y < x) → distance v y ≤ distance v x
      go (yes h) l = omega (arith, k.greater h)
      go (no h) (yes l) = omega (arith, k.smaller l)
      go (no h) (no l) = le_of_eq (ap (distance v) (omega arith))

  as-near : distance v x ≡ distance v y → x ≤ y
  as-near e = go (dec_lt y x)
    where
      go : Dec (y < x) → x ≤ y
      go (yes l) = absurd (omega (arith, e, k.smaller l))
      go (no l) = omega arith

pub band-nearest : BandNearest
band-nearest v =
    record {
      nearer = λ c l. no-farther v _ _ (closest v c (legal-of c l).reduced);
      upper = λ c l e. as-near v _ _ (closest v c (legal-of c l).reduced) e;
    }

-- if the lower of two values stood for more, it would lie above the middle of what both stand for, and the greater one below it
pub band-mono : BandMonotone
band-mono v v' h = go (dec_lt (band_value (band_code v')) (band_value (band_code v)))
  where
    reduced : (v : ℕ) → Reduced (band_code v)
    reduced v = either Reduced v (below-reduced v) ((after (code_below v)).reduced (below-reduced v))

    go : Dec (band_value (band_code v') < band_value (band_code v)) → band_value (band_code v) ≤ band_value (band_code v')
    go (yes k) = absurd (omega (arith, h, (closest v (band_code v') (reduced v')).greater k, (closest v' (band_code v) (reduced v)).smaller k))
    go (no k) = omega arith

-- a value that its lower neighbour stands for has that code
exact : (v : ℕ) → band_value (code_below v) ≡ v → band_code v ≡ code_below v
exact v low = go (taken v)
  where
    go : Taken v (band_code v) (code_below v) (code_above v) → band_code v ≡ code_below v
    go (inl t) = t.0
    go (inr t) = absurd (omega (arith, t.1, low, over v))

pub band-code-of-value : LegalCodesReturn
band-code-of-value c h =
    let same : code_below (band_value c) ≡ c = code_below-returns c (legal-of c h).reduced in
    exact (band_value c) (ap band_value same) ∙ same

-- ---- a mean, and what its code stands for

-- a value under 8 is kept whole, and no other stands for one
kept : (v : ℕ) → v < 8 → band_value (band_code v) ≡ v
kept v h =
    let low : band_value (code_below v) ≡ v = below-is v ∙ coded-small 2 v h in
    ap band_value (exact v low) ∙ low

code-of-8 : band_value (band_code 8) ≡ 8
unfolding band_code band_value value_of code_of exponent least_from
code-of-8 = refl

under-8 : (v : ℕ) → band_value (band_code v) < 8 → v < 8
under-8 v h = lt_of_not-le (λ k. not-le_of_lt h (omega (arith, code-of-8, band-mono 8 v k)))

from-8 : (v : ℕ) → 8 ≤ band_value (band_code v) → 8 ≤ v
from-8 v h = go (dec_lt v 8)
  where
    go : Dec (v < 8) → 8 ≤ v
    go (yes k) = absurd (omega (arith, kept v k))
    go (no k) = omega arith

-- from 8 on half a step of the mantissa is a whole number, and at most an eighth of the lower neighbour
record Half (v : ℕ) : Type 0 where
  half : ℕ
  twice : 2 ^ exponent 3 v ≡ half + half
  eighth : 8 * half ≤ coded 3 v

half_step : (v : ℕ) → 8 ≤ v → Half v
half_step v h = go (exponent 3 v) (exponent-least 3 v) refl
  where
    go : (e : ℕ) → Least 3 v e → exponent 3 v ≡ e → Half v
    go zero least is = absurd (omega (arith, least_lt 3 v 0 least))
    go (suc e) least is =
        let twice : 2 ^ exponent 3 v ≡ 2 ^ e + 2 ^ e = ap (λ (x : ℕ). 2 ^ x) is ∙ omega (arith, pow-suc 2 e) in
        record { half = 2 ^ e; twice = twice; eighth = omega (arith, twice, step-le 2 v (omega arith)) }

-- the mean, rounded down, lies in the lower or in the upper half of the step from low to low + 2 · half
module _ (d total low half : ℕ) (pos : 0 < d) (small : 8 * half ≤ low) where
  part : 8 * (d * half) ≤ d * low
  part = omega (arith, mul-le-mul_left d small, mul_left_comm d 8 half)

  near-low : low ≤ total / d → total / d < low + half → WithinNinth total (d * low)
  near-low from to =
      omega (
        arith,
        part,
        mul-div-le total d,
        mul-le-mul_left d from,
        lt-mul-div-succ total pos,
        mul-le-mul_left d (add-one-le to),
        mul-add d low half,
      )

  near-high : low + half ≤ total / d → total / d < low + half + half → WithinNinth total (d * (low + half + half))
  near-high from to =
      omega (
        arith,
        part,
        mul-div-le total d,
        mul-le-mul_left d from,
        lt-mul-div-succ total pos,
        mul-le-mul_left d (add-one-le to),
        mul-add d (low + half) half,
        mul-add d low half,
      )

ninth : (d total : ℕ) → 0 < d → 8 ≤ band_value (band_code (total / d)) → WithinNinth total (d * band_value (band_code (total / d)))
ninth d total pos h = go (half_step v (from-8 v h)) (taken v)
  where
    v : ℕ
    v = total / d

    go : Half v → Taken v (band_code v) (code_below v) (code_above v) → WithinNinth total (d * band_value (band_code v))
    go s (inl t) =
        subst (λ (x : ℕ). WithinNinth total (d * x)) (sym (ap band_value t.0 ∙ below-is v))
        (near-low d total (coded 3 v) s.half pos s.eighth (coded-le 2 v) (omega (arith, t.1, below-is v, above-is v, s.twice)))
    go s (inr t) =
        subst (λ (x : ℕ). WithinNinth total (d * x)) (sym (ap band_value t.0 ∙ omega (arith, above-is v, s.twice)))
        (near-high d total (coded 3 v) s.half pos s.eighth (omega (arith, t.1, below-is v, above-is v, s.twice))
        (omega (arith, over v, above-is v, s.twice)))

pub band-mean : BandMeanBounds
band-mean d total pos =
    let v : ℕ = total / d in
    record {
      below = λ h. omega (arith, ap (λ (x : ℕ). d * x) (kept v (under-8 v h)), mul-div-le total d);
      small = λ h. omega (arith, ap (λ (x : ℕ). d * x) (kept v (under-8 v h)), div-add-mod total d, mod-lt total pos);
      large = ninth d total pos;
    }

-- ---- the code as it is computed

-- what the compressor has computed once it has the exponent r of v and the mantissa n, where 8 is 4 at the next exponent: the code
pub record Rounded (v r n : ℕ) : Type 0 where
  pub small : n ≤ 8
  pub is : r * 8 + n + n / 8 * 4 ≡ band_code v

after-parts : (r m : ℕ) → m < 8 → code_after (r * 8 + m) ≡ r * 8 + (m + 1) + (m + 1) / 8 * 4
after-parts r m h = go (eqb ((r * 8 + m) % 8) 7) refl
  where
    go : (x : Bool) → eqb ((r * 8 + m) % 8) 7 ≡ x → cond x (r * 8 + m + 5) (r * 8 + m + 1) ≡ r * 8 + (m + 1) + (m + 1) / 8 * 4
    go true p = omega (arith, eqb-true ((r * 8 + m) % 8) 7 p)
    go false p = let less : ¬ ((r * 8 + m) % 8 ≡ 7) = eqb-false ((r * 8 + m) % 8) 7 p in omega arith

-- the mantissa in half steps is even below the middle, and odd from there on
pub rounded : (v r : ℕ) → r ≡ exponent 3 v → Rounded v r ((v * 2 / 2 ^ r + 1) / 2)
rounded v r e = go (taken v)
  where
    c : Compressed 3 v r
    c = compressed 3 v r e

    m : ℕ
    m = v / 2 ^ r

    low : band_value (code_below v) ≡ m * 2 ^ r
    low = below-is v ∙ coded-is 2 v ∙ ap (λ (x : ℕ). v / 2 ^ x * 2 ^ x) (sym e)

    high : band_value (code_above v) ≡ m * 2 ^ r + 2 ^ r
    high = above-is v ∙ ap₂ ◌+◌ (sym (below-is v) ∙ low) (ap (λ (x : ℕ). 2 ^ x) (sym e))

    even : m + m ≤ v * 2 / 2 ^ r
    even = (le-div_iff_mul-le (pow_pos r)).1 (omega (arith, low, not-over v, add-mul m m (2 ^ r)))

    go : Taken v (band_code v) (code_below v) (code_above v) → Rounded v r ((v * 2 / 2 ^ r + 1) / 2)
    go (inl t) =
        let below : v * 2 / 2 ^ r < m + m + 1 = (div-lt_iff_lt-mul (pow_pos r)).1 (omega (arith, t.1, low, high, add-mul m m (2 ^ r), add-mul (m + m) 1 (2 ^ r))) in
        let is : (v * 2 / 2 ^ r + 1) / 2 ≡ m = omega (arith, even, below) in
        subst (Rounded v r) (sym is) (record { small = omega (arith, c.fitting); is = omega (arith, c.fitting, c.is, t.0) })
    go (inr t) =
        let odd : m + m + 1 ≤ v * 2 / 2 ^ r = (le-div_iff_mul-le (pow_pos r)).1 (omega (arith, t.1, low, high, add-mul m m (2 ^ r), add-mul (m + m) 1 (2 ^ r))) in
        let below : v * 2 / 2 ^ r < m + m + 2 = (div-lt_iff_lt-mul (pow_pos r)).1 (omega (arith, over v, high, add-mul m m (2 ^ r), add-mul (m + m) 2 (2 ^ r))) in
        let is : (v * 2 / 2 ^ r + 1) / 2 ≡ m + 1 = omega (arith, odd, below) in
        subst (Rounded v r) (sym is) (record { small = omega (arith, c.fitting); is = sym (t.0 ∙ ap code_after (sym c.is) ∙ after-parts r m c.fitting) })

-- ---- the code below a mean, as logs made before version 0.5.0 have it

pub rounded-down-means : RoundedDownMeans
unfolding band_value coded
rounded-down-means d total pos = let s = coded-mean 2 d total pos in record { below = s.below; small = s.small; large = s.large }
