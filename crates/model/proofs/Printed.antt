-- A report: it is on N spectra, and each printed value is what the code of the mean stands for, so it lies near the mean.
-- Assumes nothing.
use Prim.Native.Nat.{ℕ, ◌<◌}
use mathlib.Core.Path.{◌≡◌}
use mathlib.Core.List.{List}
use lib.ListN.{length}
use native.Mathlib.Nat.{mul-pos}
use Rattle.codes.specs.Code.{band_code, band_value}
use Rattle.codes.specs.Bounds.{MeanBounds}
use Rattle.codes.proofs.BandCode.{band-mean}
use Rattle.bands.specs.Band.{size_exponent}
use Rattle.bands.proofs.Power.{width-pos}
use Rattle.settings.specs.Settings.{setting_of, averaged_spectra}
use Rattle.registers.specs.declared.Registers.{Registers}
use Rattle.settings.proofs.Settings.{averaged-pos}
use Rattle.model.specs.Report.{divisor, mean}
use Rattle.model.specs.Reference.{spectra_total}
use Rattle.model.specs.Demand.{printed_value, ReportedBand}

pub divisor-pos : (r : Registers) (b : ℕ) → 0 < divisor r b
divisor-pos r b = mul-pos (averaged-pos r) (width-pos (size_exponent (setting_of r)) b)

-- ---- a report: it is on N spectra, and each printed value is what the code of the mean stands for

pub record Report (r : Registers) (sp : List (List ℕ)) (out : List ℕ) : Type 0 where
  pub count : length sp ≡ averaged_spectra r
  pub value : (n b : ℕ) → ReportedBand r n b → printed_value r out n b ≡ band_value (band_code (mean r (spectra_total r sp) n b))

module _ (r : Registers) (n b : ℕ) (s : ReportedBand r n b) where
  pub near : {sp : List (List ℕ)} {out : List ℕ} → Report r sp out → MeanBounds (divisor r b) (spectra_total r sp n b) (printed_value r out n b)
  near {sp} p = rw (p.value n b s) (band-mean (divisor r b) (spectra_total r sp n b) (divisor-pos r b))
