-- The laws of a code that is rounded down, each proved once over the mantissa width of suc t bits, and of the sum code. Assumes nothing.
use mathlib.Core.Path.{◌≡◌, sym, ap, ◌∙◌, subst}
use mathlib.Core.Logic.{◌⊎◌, inl, inr}
use Prim.Native.Nat.{ℕ, suc, ◌+◌, ◌-◌, ◌*◌, ◌/◌, ◌%◌, ◌^◌, ◌≤◌, ◌<◌, zero-le}
use native.Mathlib.Nat.{zero-lt-suc, le-add_right, le_trans, le_of_eq, not-suc-le-zero, lt_of_not-le, not-le_of_lt, lt_of_le_of_lt, lt_of_lt_of_le, eq-or-lt_of_le, mul-one, suc-mul, mul_comm, mul_left_comm, mul-add, mul-div_cancel, mul-le-mul_left, mul-le-mul_right, mul-lt-mul_of_pos_left, mod-lt, lt-mul-div-succ, div-le_self, div-one, div-add-mod, mul-div-le, div-mul-le_self, pow-suc}
use native.Mathlib.Decide.{dec_lt}
use native.Mathlib.Numerals.{add-one-le}
use native.Mathlib.Omega.{arith}
use lib.Pow.{pow_pos, pow_mono, pow-add, shr_mono, split, high, low}
use borrow.Author.Tests.{lt-ltb}
use Rattle.codes.specs.Code.{exponent, code_of, value_of, sum_code, sum_value}
use Rattle.codes.specs.Claims.{SumCodeBounds, SumCodesExpanded}
use Rattle.codes.proofs.LeastExponent.{Least, least_lt, least-full, full-least, over-le, exponent-unique, exponent-least}

-- ---- a code taken apart

pub code-exponent : (t v : ℕ) → code_of (suc t) v / 2 ^ suc t ≡ exponent (suc t) v
unfolding code_of
code-exponent t v = high (exponent (suc t) v) (suc t) (exponent-least (suc t) v).fitting

pub code-mantissa : (t v : ℕ) → code_of (suc t) v % 2 ^ suc t ≡ v / 2 ^ exponent (suc t) v
unfolding code_of
code-mantissa t v = low (exponent (suc t) v) (suc t) (exponent-least (suc t) v).fitting

-- what the code of v stands for: v without the digits below the mantissa
unfoldable pub coded : ℕ → ℕ → ℕ
coded w v = value_of w (code_of w v)

pub coded-is : (t v : ℕ) → coded (suc t) v ≡ v / 2 ^ exponent (suc t) v * 2 ^ exponent (suc t) v
unfolding coded value_of
coded-is t v = simp (code-exponent, code-mantissa)

pub coded-le : (t v : ℕ) → coded (suc t) v ≤ v
coded-le t v = le_trans (le_of_eq (coded-is t v)) (div-mul-le_self v (2 ^ exponent (suc t) v))

-- ---- how far the value lies below what was coded

-- the mantissa has its highest bit where the exponent is not 0
pub full : (t v : ℕ) → 0 < exponent (suc t) v → 2 ^ t ≤ v / 2 ^ exponent (suc t) v
full t v h = least-full t v (exponent (suc t) v) (exponent-least (suc t) v) h

-- less than one step of the mantissa is lost, and at exponent 0 nothing
pub step-lt : (t v : ℕ) → v < coded (suc t) v + 2 ^ exponent (suc t) v
step-lt t v = let e : ℕ = exponent (suc t) v in omega (arith, coded-is t v, split v e, mod-lt v (pow_pos e))

unreduced : (t v : ℕ) → 0 ≡ exponent (suc t) v → coded (suc t) v ≡ v
unreduced t v h = omega (arith, step-lt t v, coded-le t v, ap (λ (e : ℕ). 2 ^ e) (sym h))

-- from 2 ^ t on one step of the mantissa is at most a 2 ^ t-th part of the value
pub step-le : (t v : ℕ) → 2 ^ t ≤ v → 2 ^ t * 2 ^ exponent (suc t) v ≤ coded (suc t) v
step-le t v big = go (eq-or-lt_of_le zero-le)
  where
    go : (0 ≡ exponent (suc t) v) ⊎ (0 < exponent (suc t) v) → 2 ^ t * 2 ^ exponent (suc t) v ≤ coded (suc t) v
    go (inl h) = omega (arith, big, unreduced t v h, ap (λ (e : ℕ). 2 ^ t * 2 ^ e) (sym h), mul-one (2 ^ t))
    go (inr h) = le_trans (mul-le-mul_right (2 ^ exponent (suc t) v) (full t v h)) (le_of_eq (sym (coded-is t v)))

-- the first value that is not kept whole is 2 ^ suc t
pub coded-small : (t v : ℕ) → v < 2 ^ suc t → coded (suc t) v ≡ v
coded-small t v h = unreduced t v (sym (exponent-unique (suc t) v 0 (record { fitting = lt_of_le_of_lt (div-le_self v 1) h; before = λ j l. absurd (not-suc-le-zero l) })))

pub coded-big : (t v : ℕ) → 2 ^ t ≤ v → 2 ^ t ≤ coded (suc t) v
coded-big t v big = le_trans (le_trans (le_of_eq (sym (mul-one (2 ^ t)))) (mul-le-mul_left (2 ^ t) (pow_pos (exponent (suc t) v)))) (step-le t v big)

-- The mean total / d, rounded down and coded: the value is not above the mean, short of it by less than 1 where it is under 2 ^ t,
-- and otherwise by less than a (2 ^ t + 1)-th part of it.
pub record Shortfall (t d total v : ℕ) : Type 0 where
  pub below : d * v ≤ total
  pub small : v < 2 ^ t → total - d * v < d
  pub large : 2 ^ t ≤ v → suc (2 ^ t) * (total - d * v) < total

module _ (t d total : ℕ) (pos : 0 < d) where
  below-mean : d * coded (suc t) (total / d) ≤ total
  below-mean = le_trans (mul-le-mul_left d (coded-le t (total / d))) (mul-div-le total d)

  -- a mean under 2 ^ t is kept whole
  small-mean : coded (suc t) (total / d) < 2 ^ t → total - d * coded (suc t) (total / d) < d
  small-mean h = go (dec_lt (total / d) (2 ^ t))
    where
      go : Dec (total / d < 2 ^ t) → total - d * coded (suc t) (total / d) < d
      go (yes k) =
          let whole : coded (suc t) (total / d) ≡ total / d = coded-small t (total / d) (omega (arith, pow-suc 2 t)) in
          omega (arith, ap (λ (x : ℕ). d * x) whole, div-add-mod total d, mod-lt total pos)
      go (no k) = absurd (k (lt_of_not-le (λ g. not-le_of_lt h (coded-big t (total / d) g))))

  large-mean : 2 ^ t ≤ coded (suc t) (total / d) → suc (2 ^ t) * (total - d * coded (suc t) (total / d)) < total
  large-mean h =
      let v : ℕ = total / d in
      let x : ℕ = total - d * coded (suc t) v in
      let step : ℕ = 2 ^ exponent (suc t) v in
      let rest : x < d * step =
      omega
      (arith, below-mean, lt-mul-div-succ total pos, mul-add d (coded (suc t) v) step, mul-le-mul_left d (add-one-le (step-lt t v)))
      in
      let part : 2 ^ t * x < d * coded (suc t) v =
      lt_of_lt_of_le (mul-lt-mul_of_pos_left rest (pow_pos t))
      (le_trans (le_of_eq (mul_left_comm (2 ^ t) d step)) (mul-le-mul_left d (step-le t v (le_trans h (coded-le t v)))))
      in
      omega (arith, suc-mul (2 ^ t) x, below-mean, part)

pub coded-mean : (t d total : ℕ) → 0 < d → Shortfall t d total (coded (suc t) (total / d))
coded-mean t d total pos = record { below = below-mean t d total pos; small = small-mean t d total pos; large = large-mean t d total pos }

-- Of two values with one exponent the mantissas decide. Otherwise the power of two at the greater exponent's highest bit lies between them.
pub coded-mono : (t v v' : ℕ) → v ≤ v' → coded (suc t) v ≤ coded (suc t) v'
coded-mono t v v' h = go (dec_lt e e') (dec_lt e' e)
  where
    e : ℕ
    e = exponent (suc t) v

    e' : ℕ
    e' = exponent (suc t) v'

    go : Dec (e < e') → Dec (e' < e) → coded (suc t) v ≤ coded (suc t) v'
    go (yes a) b =
        let top : 2 ^ (t + e') ≤ v' = over-le t v' e' (full t v' (omega arith)) in
        omega (
          arith,
          coded-le t v,
          least_lt (suc t) v e (exponent-least (suc t) v),
          pow_mono {i = suc t + e} {j = t + e'} (omega arith),
          pow-add 2 t e',
          step-le t v' (le_trans (pow_mono (le-add_right t e')) top),
        )
    go (no a) (yes b) =
        omega (
          arith,
          over-le t v e (full t v (omega arith)),
          least_lt (suc t) v' e' (exponent-least (suc t) v'),
          pow_mono {i = suc t + e'} {j = t + e} (omega arith),
        )
    go (no a) (no b) =
        let same : e ≡ e' = omega arith in
        le_trans (le_of_eq (coded-is t v))
        (le_trans (mul-le-mul_right (2 ^ e) (shr_mono e h))
        (le_of_eq (ap (λ (x : ℕ). v' / 2 ^ x * 2 ^ x) same ∙ sym (coded-is t v'))))

-- ---- a code that a compressor gives: e = 0, or the mantissa has its highest bit

pub code-of-value : (t c : ℕ) → (0 < c / 2 ^ suc t → 2 ^ t ≤ c % 2 ^ suc t) → code_of (suc t) (value_of (suc t) c) ≡ c
unfolding code_of value_of
code-of-value t c highest =
    let w : ℕ = suc t in
    let e : ℕ = c / 2 ^ w in
    let m : ℕ = c % 2 ^ w in
    let is : m * 2 ^ e / 2 ^ e ≡ m = mul-div_cancel m (pow_pos e) in
    let least : Least w (m * 2 ^ e) e =
    full-least t (m * 2 ^ e) e (subst (λ (x : ℕ). x < 2 ^ w) (sym is) (mod-lt c (pow_pos w))) (λ h. subst (λ (x : ℕ). 2 ^ t ≤ x) (sym is) (highest h))
    in
    ap (λ (x : ℕ). x * 2 ^ w + m * 2 ^ e / 2 ^ x) (exponent-unique w (m * 2 ^ e) e least)
    ∙ ap (λ (x : ℕ). e * 2 ^ w + x) is
    ∙ omega (arith, div-add-mod c (2 ^ w), mul_comm e (2 ^ w))

-- ---- the sum code

pub sum-bounds : SumCodeBounds
unfolding sum_code sum_value coded
sum-bounds v =
    let s = subst (λ (x : ℕ). Shortfall 9 1 v (coded 10 x)) (div-one v) (coded-mean 9 1 v (zero-lt-suc 0)) in
    record { below = coded-le 9 v; small = coded-small 9 v; large = λ h. omega (arith, s.large (coded-big 9 v (omega arith))) }

pub sum-expanded : SumCodesExpanded
sum-expanded v h = rw (lt-ltb _ _ (lt_of_le_of_lt (sum-bounds v).below h))
