-- N and the widths of bands are powers of two, so that a mean is a shift. Assumes nothing.
use Prim.Native.Nat.{ℕ, suc, ◌+◌, ◌-◌, ◌*◌, ◌/◌, ◌^◌, ◌≤◌, ◌<◌}
use mathlib.Core.Path.{◌≡◌, sym, ap, ◌∙◌}
use native.Mathlib.Nat.{le_refl, pow-suc}
use native.Mathlib.Omega.{arith}
use lib.Count.{count_leading_zeros, leading_unique}
use lib.Pow.{pow-lt, pow-add}
use Rattle.bands.specs.Band.{size_exponent, width_exponent, band_width}
use Rattle.registers.specs.Access.{register}
use Rattle.registers.specs.Store.{navg_of}
use Rattle.registers.proofs.Stored.{first-stored}
use Rattle.settings.specs.Settings.{first_stored, averaged_spectra}
use Rattle.registers.specs.declared.Registers.{Registers}

pow-leading : (k n : ℕ) → n < k → count_leading_zeros k (2 ^ n) ≡ k - suc n
pow-leading k n h = sym (leading_unique k (2 ^ n) (k - suc n) (suc n) (omega arith) (pow-lt (le_refl (suc n))) (omega (arith, pow-suc 2 n)))

-- the exponent of N, from its leading zeros in 16 bits
pub record Averaged (r : Registers) (zeros : ℕ) : Type 0 where
  pub zeros-le : zeros ≤ 15
  pub power : 2 ^ (15 - zeros) ≡ averaged_spectra r
  pub exponent-le : 15 - zeros ≤ 10

pub averaged-leading : (r : Registers) (spectra : ℕ) → spectra ≡ averaged_spectra r → Averaged r (count_leading_zeros 16 spectra)
unfolding averaged_spectra
averaged-leading r spectra e =
    let navg : ℕ = navg_of (first_stored r) in
    let small : navg ≤ 10 = (first-stored (register r 0)).navg in
    let zeros : count_leading_zeros 16 spectra ≡ 16 - suc navg = ap (count_leading_zeros 16) e ∙ pow-leading 16 navg (omega arith) in
    let back : 15 - count_leading_zeros 16 spectra ≡ navg = omega arith in
    record { zeros-le = omega arith; power = ap (λ (x : ℕ). 2 ^ x) back; exponent-le = omega arith }

-- a division by N · W is one shift
pub shifted : (setting exponent b total : ℕ) → total / 2 ^ (exponent + width_exponent (size_exponent setting) b) ≡ total / (2 ^ exponent * band_width (size_exponent setting) b)
unfolding band_width
shifted setting exponent b total = ap (λ (x : ℕ). total / x) (pow-add 2 exponent (width_exponent (size_exponent setting) b))
