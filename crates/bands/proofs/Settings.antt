-- The bins of the bands of the three bin settings. Assumes nothing.
use mathlib.Core.Path.{◌≡◌, refl, sym}
use mathlib.Core.Bool.{true, false, and-false}
use Prim.Native.Nat.{ℕ, suc, ◌+◌, ◌*◌, ◌^◌, ◌≤◌, ◌<◌}
use native.Mathlib.Nat.{lt_of_not-le, mul_comm}
use native.Mathlib.Omega.{arith}
use lib.Dec.{leb, ltb}
use lib.Pow.{pow_mono}
use borrow.Author.Tests.{ltb-true, lt-ltb, le-ltb, le-leb}
use Rattle.lists.proofs.Choices.{both}
use Rattle.registers.specs.Store.{band_count}
use Rattle.registers.proofs.Counts.{three, setting-le}
use Rattle.bands.specs.Band.{size_exponent, band_of, width_exponent, band_start, band_width, has_band}
use Rattle.bands.specs.Claims.{Partitioned}
use Rattle.bands.proofs.Bins.{split, in-its-band, in-band, first-start, next_start, start-mono, band-below}

-- the bands end with bin 1023
pub bands-end : (setting : ℕ) → setting ≤ 2 → band_start (size_exponent setting) (band_count setting) ≡ 1024
unfolding band_count band_start width_exponent
bands-end = three (λ (q : ℕ). band_start (size_exponent q) (band_count q) ≡ 1024) refl refl refl

pub band-lt : (setting k : ℕ) → setting ≤ 2 → k < 1024 → band_of (size_exponent setting) k < band_count setting
band-lt setting k a b = band-below (size_exponent setting) k (band_count setting) (omega (arith, bands-end setting a))

-- what holds of the bins of a band that the setting has
pub record Range (setting b : ℕ) : Type 0 where
  pub setting-le : setting ≤ 2
  pub within : band_start (size_exponent setting) b + band_width (size_exponent setting) b ≤ 1024
  pub exponent_lt : width_exponent (size_exponent setting) b < 16
  pub base-le : width_exponent (size_exponent setting) b * 2 ^ size_exponent setting ≤ b

pub range : (setting b : ℕ) → b < band_count setting → Range setting b
unfolding band_width
range setting b h =
    let s : ℕ = size_exponent setting in
    let e : ℕ = width_exponent s b in
    let known : setting ≤ 2 = setting-le setting b h in
    let within : band_start s b + band_width s b ≤ 1024 = omega (arith, next_start s b, start-mono s (suc b) (band_count setting) h, bands-end setting known) in
    record {
      setting-le = known;
      within = within;
      exponent_lt = lt_of_not-le (λ g. omega (arith, within, pow_mono {i = 16} {j = e} g));
      base-le = omega (arith, split s b, mul_comm e (2 ^ s));
    }

-- ---- the test of 01's refusal 12

pub has-band : (setting b : ℕ) → b < band_count setting → has_band setting b ≡ true
has-band setting b h = simp (le-leb setting 2 (setting-le setting b h), lt-ltb b (band_count setting) h)

pub has-not-band : (setting b : ℕ) → band_count setting ≤ b → has_band setting b ≡ false
has-not-band setting b h = rw (le-ltb b (band_count setting) h) (and-false (leb setting 2))

pub known_of : (setting b : ℕ) → has_band setting b ≡ true → b < band_count setting
known_of setting b h = ltb-true b (band_count setting) (both (leb setting 2) (ltb b (band_count setting)) h).1

-- ---- each bin is in exactly one band

pub partition : Partitioned
partition setting h =
    let s : ℕ = size_exponent setting in
    record {
      first = first-start s;
      next = next_start s;
      end = bands-end setting h;
      one = λ k l. record { known = band-lt setting k h l; inside = in-its-band s k; only = λ b' i. sym ((in-band s k b').1 i) };
    }
