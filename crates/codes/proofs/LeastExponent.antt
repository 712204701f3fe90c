-- The least exponent of a code, once over the mantissa width w: what holds of it and of no other number, and that the leading zeros of the value give it.
-- Assumes nothing.
use mathlib.Core.Path.{◌≡◌, refl, sym, ap, ◌∙◌, subst}
use mathlib.Core.Bool.{Bool, true, false}
use mathlib.Core.Logic.{◌⊎◌, inl, inr}
use Prim.Native.Nat.{ℕ, zero, suc, ◌+◌, ◌-◌, ◌*◌, ◌/◌, ◌^◌, ◌≤◌, ◌<◌, zero-le}
use native.Mathlib.Nat.{le_refl, le_trans, le_of_eq, le_of_suc-le-suc, le-add_right, lt_of_not-le, not-le_of_lt, lt_of_le_of_lt, lt_of_lt_of_le, eq-or-lt_of_le, pow-suc, zero-lt-suc, le-div_iff_mul-le, div-lt_iff_lt-mul}
use native.Mathlib.Omega.{arith}
use lib.Bits.{bit_or, or_lt, or_add_and, and_le_l, and_le_r}
use lib.Pow.{pow_pos, pow_mono, pow-add, shr_lt}
use lib.Count.{count_leading_zeros, leading_length}
use borrow.Author.Tests.{lt-ltb, le-ltb, ltb-true}
use Rattle.codes.specs.Code.{least_from, fits, exponent, code_of}
use Rattle.codes.specs.Claims.{LeastExponent}

-- `least_from` finds the number that passes the test where none below it does
pub least_from-at : (test : ℕ → Bool) (d e r : ℕ) → e ≤ r → r ≤ e + d → test r ≡ true → ((j : ℕ) → j < r → test j ≡ false) → least_from test d e ≡ r
unfolding least_from
least_from-at test zero e r lo hi passes before = omega arith
least_from-at test (suc d) e r lo hi passes before = go (eq-or-lt_of_le lo) (λ h. least_from-at test d (suc e) r h (omega arith) passes before)
  where
    go : (e ≡ r) ⊎ (e < r) → (e < r → least_from test d (suc e) ≡ r) → least_from test (suc d) e ≡ r
    go (inl same) rest = rw (ap test same ∙ passes, least_from) same
    go (inr h) rest = rw (before e h, least_from) (rest h)

pub below-pow : (n : ℕ) → n < 2 ^ n
below-pow zero = zero-lt-suc zero
below-pow (suc n) = omega (arith, below-pow n, pow-suc 2 n)

-- the mantissa fits, and at no smaller exponent it does
pub record Least (w v e : ℕ) : Type 0 where
  pub fitting : v / 2 ^ e < 2 ^ w
  pub before : (j : ℕ) → j < e → 2 ^ w ≤ v / 2 ^ j

-- the same, of the value itself
pub over-le : (w v e : ℕ) → 2 ^ w ≤ v / 2 ^ e → 2 ^ (w + e) ≤ v
over-le w v e h = le_trans (le_of_eq (pow-add 2 w e)) ((le-div_iff_mul-le (pow_pos e)).0 h)

pub le-over : (w v e : ℕ) → 2 ^ (w + e) ≤ v → 2 ^ w ≤ v / 2 ^ e
le-over w v e h = (le-div_iff_mul-le (pow_pos e)).1 (le_trans (le_of_eq (sym (pow-add 2 w e))) h)

pub least_lt : (w v e : ℕ) → Least w v e → v < 2 ^ (w + e)
least_lt w v e least = lt_of_lt_of_le ((div-lt_iff_lt-mul (pow_pos e)).0 least.fitting) (le_of_eq (sym (pow-add 2 w e)))

pub least-le : (w v e : ℕ) → Least w v (suc e) → 2 ^ (w + e) ≤ v
least-le w v e least = over-le w v e (least.before e (omega arith))

pub exponent-unique : (w v e : ℕ) → Least w v e → exponent w v ≡ e
unfolding exponent
exponent-unique w v e least =
    least_from-at (fits w v) v 0 e zero-le (bound e least) (lt-ltb _ _ least.fitting) (λ j h. le-ltb _ _ (least.before j h))
  where
    bound : (e : ℕ) → Least w v e → e ≤ 0 + v
    bound zero least = zero-le
    bound (suc e) least = omega (arith, below-pow e, pow_mono {i = e} {j = w + e} (omega arith), least-le w v e least)

-- the leading zeros of a number below 2 ^ k give the least exponent of v, where from 2 ^ w on the number has as many digits as v
leading-least : (w k v n : ℕ) → v ≤ n → n < 2 ^ k → ((j : ℕ) → v < 2 ^ (w + j) → n < 2 ^ (w + j)) → Least w v (k - count_leading_zeros k n - w)
leading-least w k v n over h long =
    let s = leading_length k n h in
    let m = s.0 in
    let e : ℕ = k - count_leading_zeros k n - w in
    record {
      fitting = shr_lt w e (lt_of_le_of_lt over (lt_of_lt_of_le s.2 (pow_mono {i = m} {j = w + e} (omega (arith, s.1)))));
      before = λ j l. le-over w v j (le_of_suc-le-suc (lt_of_not-le (λ g. absurd (omega (arith, long j g, s.3, pow-suc 2 (w + j), pow_mono {i = suc (w + j)} {j = m} (omega (arith, s.1)))))));
    }

own-least : (w k v : ℕ) → v < 2 ^ k → Least w v (k - count_leading_zeros k v - w)
own-least w k v h = leading-least w k v v (le_refl v) h (λ j g. g)

-- the one fact of `exponent` and of the bands, over the mantissa width
pub exponent-leading : (w k v : ℕ) → v < 2 ^ k → exponent w v ≡ k - count_leading_zeros k v - w
exponent-leading w k v h = exponent-unique w v (k - count_leading_zeros k v - w) (own-least w k v h)

-- the same of a value with its low w bits set, which has w digits or more, so that none of the three is more than k
pub exponent-or : (w k v : ℕ) → v < 2 ^ k → w ≤ k → exponent w v + w + count_leading_zeros k (bit_or v (2 ^ w - 1)) ≡ k
exponent-or w k v h wide =
    let ones : ℕ = 2 ^ w - 1 in
    let n : ℕ = bit_or v ones in
    let within : (j : ℕ) → w ≤ j → v < 2 ^ j → n < 2 ^ j = λ j l g. or_lt j v ones g (omega (arith, pow_pos w, pow_mono {i = w} {j = j} l)) in
    let s = leading_length k n (within k wide h) in
    let digits : w ≤ s.0 = le_of_suc-le-suc (lt_of_not-le (λ g. absurd (omega (arith, s.2, or_add_and v ones, and_le_l v ones, pow_pos s.0, pow-suc 2 s.0, pow_mono {i = suc s.0} {j = w} g)))) in
    let e : exponent w v ≡ k - count_leading_zeros k n - w =
    exponent-unique w v (k - count_leading_zeros k n - w)
    (leading-least w k v n (omega (arith, or_add_and v ones, and_le_r v ones)) (within k wide h) (λ j. within (w + j) (le-add_right w j))) in
    omega (arith, s.1)

pub exponent-least : (w v : ℕ) → Least w v (exponent w v)
exponent-least w v = subst (λ (e : ℕ). Least w v e) (sym (exponent-leading w v v (below-pow v))) (own-least w v v (below-pow v))

pub least-exponent : LeastExponent
least-exponent w v = (
  lt-ltb _ _ (exponent-least w v).fitting,
  λ e f. le_of_suc-le-suc (lt_of_not-le (λ g. not-le_of_lt (ltb-true _ _ f) ((exponent-least w v).before e g))),
)

-- a value below 2 ^ k has an exponent of at most k - w
pub exponent-le : (w k v : ℕ) → v < 2 ^ k → exponent w v ≤ k - w
exponent-le w k v h = omega (arith, exponent-leading w k v h)

-- ---- a mantissa of suc t bits: where the exponent is not 0, it has its highest bit

pub least-full : (t v e : ℕ) → Least (suc t) v e → 0 < e → 2 ^ t ≤ v / 2 ^ e
least-full t v zero least h = absurd (omega arith)
least-full t v (suc e) least h =
    le-over t v (suc e) (le_trans (pow_mono {i = t + suc e} {j = suc t + e} (omega arith)) (least-le (suc t) v e least))

pub full-least : (t v e : ℕ) → v / 2 ^ e < 2 ^ suc t → (0 < e → 2 ^ t ≤ v / 2 ^ e) → Least (suc t) v e
full-least t v e fitting full =
    record {
      fitting = fitting;
      before = λ j h. le-over (suc t) v j (le_trans (pow_mono {i = suc t + j} {j = t + e} (omega arith)) (over-le t v e (full (omega arith))));
    }

-- ---- what a compressor has computed once it has the exponent r of v: the code, whose mantissa fits

pub record Compressed (w v r : ℕ) : Type 0 where
  pub is : r * 2 ^ w + v / 2 ^ r ≡ code_of w v
  pub fitting : v / 2 ^ r < 2 ^ w

pub compressed : (w v r : ℕ) → r ≡ exponent w v → Compressed w v r
unfolding code_of
compressed w v r e = subst (λ (x : ℕ). Compressed w v x) (sym e) (record { is = refl; fitting = (exponent-least w v).fitting })
