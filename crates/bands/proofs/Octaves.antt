-- The bands by octaves: the first 2 S bands have one bin each, and the S bands of octave e, from band S (e + 1) on, have 2 ^ e bins each,
-- from bin S 2 ^ e on. Assumes nothing.
use Prim.Native.Nat.{ℕ, zero, suc, ◌+◌, ◌-◌, ◌*◌, ◌/◌, ◌%◌, ◌^◌, ◌≤◌, ◌<◌}
use mathlib.Core.Path.{◌≡◌, refl, sym, ap, ap₂, ◌∙◌, subst}
use native.Mathlib.Nat.{lt_irrefl, one-mul, mod-eq_of_lt, mul_comm, mul-zero, mul-one, add-mul, mul-add, pow-suc, mul-le-mul_left, add-div_right, le-div_iff_mul-le}
use native.Mathlib.Omega.{arith}
use lib.Pow.{pow_pos, pow-lt, pow_mono, pow-add}
use Rattle.lists.specs.Sums.{sum_to}
use Rattle.bands.specs.Band.{size_exponent, width_exponent, band_start, band_width}
use Rattle.registers.specs.Store.{band_count}
use Rattle.bands.specs.Power.{band_sum}
use Rattle.bands.proofs.Bins.{Parts, start-at, width-at}
use Rattle.bands.proofs.Power.{band_sum-run}

-- ---- S and the number of bands

pub bands-size : (setting : ℕ) → setting ≤ 2 → band_count setting ≡ 2 ^ size_exponent setting * (9 - setting)
unfolding band_count
bands-size zero h = refl
bands-size (suc zero) h = refl
bands-size (suc (suc zero)) h = refl
bands-size (suc (suc (suc n))) h = absurd (omega arith)

pub size-le : (setting : ℕ) → setting ≤ 2 → 2 ^ size_exponent setting ≤ 16
size-le setting h = pow_mono {i = size_exponent setting} {j = 4} (omega arith)

-- S as a shift in 64 bits
abbrev pub shifted_size : ℕ → ℕ
shifted_size setting = 1 * 2 ^ (setting + 2) % 2 ^ 64

pub shifted-size : (setting : ℕ) → setting ≤ 2 → shifted_size setting ≡ 2 ^ size_exponent setting
shifted-size setting h = rw one-mul (mod-eq_of_lt (pow-lt {i = setting + 2} {j = 64} (omega arith)))

-- an octave ends within the bands
pub octave-le : (setting e : ℕ) → setting ≤ 2 → e + 2 ≤ 9 - setting → 2 ^ size_exponent setting * (e + 2) ≤ band_count setting
octave-le setting e h l = rw (bands-size setting h) (mul-le-mul_left (2 ^ size_exponent setting) l)

pub narrow-le : (setting : ℕ) → setting ≤ 2 → 2 * 2 ^ size_exponent setting ≤ band_count setting
narrow-le setting h = rw (mul_comm 2 (2 ^ size_exponent setting)) (octave-le setting 0 h (omega arith))

-- and within the bins
pub octave-bins : (setting e : ℕ) → setting ≤ 2 → e ≤ 7 - setting → 2 ^ size_exponent setting * 2 ^ e ≤ 512
octave-bins setting e h l = rw (← pow-add 2 (size_exponent setting) e) (pow_mono {i = size_exponent setting + e} {j = 9} (omega arith))

-- ---- bands of one bin

module _ (s b : ℕ) (narrow : b < 2 * 2 ^ s) where
  one-bin : Parts s 0 b
  one-bin = record { low = omega (arith, pow-suc 2 s); full = λ h. absurd (lt_irrefl 0 h) }

  same : 2 ^ s * 0 + b ≡ b
  same = omega (arith, mul-zero (2 ^ s))

  pub narrow-width : band_width s b ≡ 1
  narrow-width = subst (λ (x : ℕ). band_width s x ≡ 1) same (width-at s 0 b one-bin)

  pub narrow_start : band_start s b ≡ b
  narrow_start = subst (λ (x : ℕ). band_start s x ≡ b) same (start-at s 0 b one-bin ∙ mul-one b)

-- ---- the bands of an octave

module _ (s e j : ℕ) (inside : j < 2 ^ s) where
  in-octave : Parts s e (2 ^ s + j)
  in-octave = record { low = omega (arith, pow-suc 2 s); full = λ h. omega arith }

  place : 2 ^ s * e + (2 ^ s + j) ≡ 2 ^ s * (e + 1) + j
  place = omega (arith, mul-add (2 ^ s) e 1)

  octave-width : band_width s (2 ^ s * (e + 1) + j) ≡ 2 ^ e
  octave-width = subst (λ (x : ℕ). band_width s x ≡ 2 ^ e) place (width-at s e (2 ^ s + j) in-octave)

  octave-start : band_start s (2 ^ s * (e + 1) + j) ≡ 2 ^ s * 2 ^ e + j * 2 ^ e
  octave-start = subst (λ (x : ℕ). band_start s x ≡ 2 ^ s * 2 ^ e + j * 2 ^ e) place (start-at s e (2 ^ s + j) in-octave ∙ add-mul (2 ^ s) j (2 ^ e))

-- a band has twice as many bins as the one S before it
pub width-doubles : (s b : ℕ) → 2 * 2 ^ s ≤ b → band_width s b ≡ band_width s (b - 2 ^ s) + band_width s (b - 2 ^ s)
unfolding band_width width_exponent
width-doubles s b h =
    let x : ℕ = b - 2 ^ s in
    let back : x + 2 ^ s ≡ b = omega arith in
    let up : b / 2 ^ s ≡ x / 2 ^ s + 1 = ap (λ (n : ℕ). n / 2 ^ s) (sym back) ∙ add-div_right x (pow_pos s) in
    let some : 1 ≤ x / 2 ^ s = (le-div_iff_mul-le {k = 2 ^ s} {x = 1} {y = x} (pow_pos s)).1 (omega arith) in
    let e : b / 2 ^ s - 1 ≡ suc (x / 2 ^ s - 1) = omega arith in
    ap (λ (k : ℕ). 2 ^ k) e ∙ omega (arith, pow-suc 2 (x / 2 ^ s - 1))

-- ---- what a tick gives a band

pub narrow-sum : (setting b : ℕ) → b < band_count setting → b < 2 * 2 ^ size_exponent setting → (f : ℕ → ℕ) →
    band_sum (size_exponent setting) b f ≡ sum_to 1 (λ k. f (b * 1 + k))
narrow-sum setting b known narrow f =
    let s : ℕ = size_exponent setting in
    band_sum-run setting b known f
    ∙ ap₂ (λ (w a : ℕ). sum_to w (λ k. f (a + k))) (narrow-width s b narrow) (narrow_start s b narrow ∙ sym (mul-one b))

pub octave-sum : (setting e j : ℕ) → 2 ^ size_exponent setting * (e + 1) + j < band_count setting → j < 2 ^ size_exponent setting → (f : ℕ → ℕ) →
    band_sum (size_exponent setting) (2 ^ size_exponent setting * (e + 1) + j) f ≡ sum_to (2 ^ e) (λ k. f (2 ^ size_exponent setting * 2 ^ e + j * 2 ^ e + k))
octave-sum setting e j known inside f =
    let s : ℕ = size_exponent setting in
    band_sum-run setting (2 ^ s * (e + 1) + j) known f
    ∙ ap₂ (λ (w a : ℕ). sum_to w (λ k. f (a + k))) (octave-width s e j inside) (octave-start s e j inside)
