-- Band totals of spectra: their bound, their order, and one spectrum more. Assumes nothing.
use Prim.Native.Nat.{ℕ, suc, ◌+◌, ◌-◌, ◌*◌, ◌^◌, ◌≤◌, ◌<◌, zero-le}
use mathlib.Core.Path.{◌≡◌}
use mathlib.Core.List.{List, [], ◌∷◌, ◌++◌}
use native.Mathlib.Omega.{arith}
use native.Mathlib.Nat.{add-le-add, add-mul, suc-mul}
use lib.ListN.{length, get_or}
use Rattle.bands.specs.Band.{size_exponent}
use Rattle.bands.proofs.Power.{band_sum-le, band_sum-mono}
use Rattle.settings.specs.Settings.{setting_of, bands_of}
use Rattle.registers.specs.declared.Registers.{Registers}
use Rattle.model.specs.Totals.{power, band_power, width_of}
use Rattle.model.specs.Reference.{spectra_total}
use Rattle.model.specs.Calls.{Powers}

-- powers of 32 bits in each spectrum of a list
abbrev pub AllPowers : List (List ℕ) → Type 0
AllPowers [] = Unit {0}
AllPowers (ps ∷ sp) = Powers ps × AllPowers sp

pub powers-snoc : (sp : List (List ℕ)) (ps : List ℕ) → AllPowers sp → Powers ps → AllPowers (sp ++ (ps ∷ []))
powers-snoc [] ps a h = (h, tt)
powers-snoc (q ∷ sp) ps a h = (a.0, powers-snoc sp ps a.1 h)

module _ (r : Registers) (n b : ℕ) where
  pub band_power-le : b < bands_of r → (ps : List ℕ) → Powers ps → band_power r ps n b ≤ width_of r b * (2 ^ 32 - 1)
  band_power-le known ps h =
      band_sum-le (setting_of r) b known (power ps n) (2 ^ 32 - 1) (λ k. omega (arith, h (n * 1024 + k)))

  pub spectra_total-le : b < bands_of r → (sp : List (List ℕ)) → AllPowers sp → spectra_total r sp n b ≤ length sp * width_of r b * (2 ^ 32 - 1)
  spectra_total-le known [] a = zero-le
  spectra_total-le known (ps ∷ sp) a =
      rw (suc-mul (length sp) (width_of r b), add-mul (length sp * width_of r b) (width_of r b) (2 ^ 32 - 1))
      (omega (arith, band_power-le known ps a.0, spectra_total-le known sp a.1))

  pub spectra_total-mono : (sp sp' : List (List ℕ)) → length sp ≡ length sp' →
      ((i k : ℕ) → i < length sp → k < 1024 → power (get_or sp i []) n k ≤ power (get_or sp' i []) n k) → spectra_total r sp n b ≤ spectra_total r sp' n b
  spectra_total-mono [] sp' e h = zero-le
  spectra_total-mono (ps ∷ sp) [] e h = absurd (omega arith)
  spectra_total-mono (ps ∷ sp) (qs ∷ sp') e h =
      add-le-add (band_sum-mono (size_exponent (setting_of r)) b (power ps n) (power qs n) (λ k l. h 0 k (omega arith) l))
      (spectra_total-mono sp sp' (omega arith) (λ i k l m. h (suc i) k (omega arith) m))

  pub spectra_total-snoc : (sp : List (List ℕ)) (ps : List ℕ) → spectra_total r (sp ++ (ps ∷ [])) n b ≡ spectra_total r sp n b + band_power r ps n b
  spectra_total-snoc [] ps = omega arith
  spectra_total-snoc (q ∷ sp) ps = omega (arith, spectra_total-snoc sp ps)
