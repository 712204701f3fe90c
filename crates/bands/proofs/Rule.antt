-- The band rule in terms of the code's least exponent, once over s: the band of k is S · e + k / 2 ^ e, e the least exponent at which k / 2 ^ e is below 2 · S.
-- The leading zeros of k give both e and its octave.
-- Assumes nothing.
use mathlib.Core.Path.{◌≡◌, sym, ap, ◌∙◌, subst}
use mathlib.Core.Bool.{Bool, true, false}
use mathlib.Core.Logic.{◌⊎◌, inl, inr}
use Prim.Native.Nat.{ℕ, zero, suc, ◌+◌, ◌-◌, ◌*◌, ◌/◌, ◌^◌, ◌≤◌, ◌<◌}
use native.Mathlib.Nat.{le_of_suc-le-suc, lt_of_lt_of_le, lt_of_not-le, eq-or-lt_of_le, mul-zero, mul-suc, mul_comm, div-one, mul-div-mul_right, mul-add-div_right}
use native.Mathlib.Decide.{dec_lt}
use native.Mathlib.Omega.{arith}
use lib.Pow.{pow_pos, pow_mono, pow-add}
use lib.Count.{count_leading_zeros, leading_top}
use borrow.Author.Tests.{lt-ltb, le-ltb, le-leb, lt-leb}
use Rattle.codes.specs.Code.{exponent}
use Rattle.codes.proofs.LeastExponent.{below-pow, Least, exponent-unique, exponent-leading, exponent-le}
use Rattle.bands.specs.Band.{greatest_to, octave, band_of}
use Rattle.bands.specs.Claims.{OctaveGreatest}

-- `greatest_to` finds the number that passes the test where none above it does
greatest_to-at : (test : ℕ → Bool) (n r : ℕ) → r ≤ n → (0 < r → test r ≡ true) → ((j : ℕ) → r < j → test j ≡ false) → greatest_to test n ≡ r
unfolding greatest_to
greatest_to-at test zero r hi passes above = omega arith
greatest_to-at test (suc n) r hi passes above = go (eq-or-lt_of_le hi) (λ h. greatest_to-at test n r h passes above)
  where
    go : (r ≡ suc n) ⊎ (r < suc n) → (r ≤ n → greatest_to test n ≡ r) → greatest_to test (suc n) ≡ r
    go (inl same) rest = rw (ap test (sym same) ∙ passes (omega arith), greatest_to) (sym same)
    go (inr h) rest = rw (above (suc n) h, greatest_to) (rest (omega arith))

-- the greatest power of two not above k
octave-is : (k h : ℕ) → 2 ^ h ≤ k → k < 2 ^ suc h → octave k ≡ h
unfolding octave
octave-is k h lo hi =
    greatest_to-at _ k h (omega (arith, below-pow h)) (λ p. le-leb _ _ lo) (λ j l. lt-leb _ _ (lt_of_lt_of_le hi (pow_mono l)))

-- the leading zeros of k in w bits give the octave
pub octave-leading : (w k : ℕ) → 0 < k → k < 2 ^ w → octave k ≡ w - count_leading_zeros w k - 1
octave-leading w k pos h = let t = leading_top w k pos h in octave-is k t.0 t.2 t.3 ∙ omega (arith, t.1)

pub octave-greatest : OctaveGreatest
octave-greatest k pos =
    let t = leading_top k k pos (below-pow k) in
    let j : ℕ = t.0 in
    subst (λ (h : ℕ). (2 ^ h ≤ k) × ((i : ℕ) → 2 ^ i ≤ k → i ≤ h)) (sym (octave-is k j t.2 t.3))
    (t.2, (λ i l. le_of_suc-le-suc (lt_of_not-le (λ g. omega (arith, t.3, pow_mono {i = suc j} {j = i} g)))))

-- from S on, the exponent counts the octaves above that of S
octave-exponent : (s k : ℕ) → 2 ^ s ≤ k → octave k ≡ s + exponent (suc s) k
octave-exponent s k h =
    let pos : 0 < k = lt_of_lt_of_le (pow_pos s) h in
    omega (arith, octave-leading k k pos (below-pow k), exponent-leading (suc s) k k (below-pow k), (octave-greatest k pos).1 s h)

reaches : (s k : ℕ) → 2 ^ s ≤ k → 2 ^ (s + exponent (suc s) k) ≤ k
reaches s k h = subst (λ (x : ℕ). 2 ^ x ≤ k) (octave-exponent s k h) (octave-greatest k (lt_of_lt_of_le (pow_pos s) h)).0

-- at exponent 0 the band is the bin
unshifted : (s k e : ℕ) → 0 ≡ e → 2 ^ s * e + k / 2 ^ e ≡ k
unshifted s k e none = subst (λ (x : ℕ). 2 ^ s * x + k / 2 ^ x ≡ k) none (omega (arith, mul-zero (2 ^ s), div-one k))

pub band-exponent : (s k : ℕ) → band_of s k ≡ 2 ^ s * exponent (suc s) k + k / 2 ^ exponent (suc s) k
unfolding band_of
band-exponent s k = go (dec_lt k (2 ^ s))
  where
    e : ℕ
    e = exponent (suc s) k

    go : Dec (k < 2 ^ s) → band_of s k ≡ 2 ^ s * e + k / 2 ^ e
    go (yes h) = rw (lt-ltb _ _ h) (sym (unshifted s k e (omega (arith, exponent-le (suc s) s k h))))
    go (no h) =
        let big : 2 ^ s ≤ k = omega arith in
        let y : ℕ = k - 2 ^ (s + e) in
        let part : y * 2 ^ s / 2 ^ (s + e) ≡ y / 2 ^ e =
        ap (λ (x : ℕ). y * 2 ^ s / x) (pow-add 2 s e ∙ mul_comm (2 ^ s) (2 ^ e)) ∙ mul-div-mul_right y (2 ^ e) (pow_pos s)
        in
        let whole : k / 2 ^ e ≡ 2 ^ s + y / 2 ^ e =
        ap (λ (x : ℕ). x / 2 ^ e) (omega (arith, reaches s k big, pow-add 2 s e)) ∙ mul-add-div_right (pow_pos e) (2 ^ s) y
        in
        let size : 2 ^ s * (s + e - s + 1) ≡ 2 ^ s * e + 2 ^ s = ap (λ (x : ℕ). 2 ^ s * x) (omega arith) ∙ mul-suc (2 ^ s) e in
        rw (le-ltb _ _ big, octave-exponent s k big) (omega (arith, part, whole, size))

-- and so at any number that is the least exponent
pub band-at : (s k e : ℕ) → Least (suc s) k e → band_of s k ≡ 2 ^ s * e + k / 2 ^ e
band-at s k e least = band-exponent s k ∙ ap (λ (x : ℕ). 2 ^ s * x + k / 2 ^ x) (exponent-unique (suc s) k e least)
