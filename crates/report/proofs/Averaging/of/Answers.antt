-- `report::Averaging::of` meets its contract. Assumes nothing.
use Rattle.std.proofs.Common.{◌∙◌, ◌/◌, ℕ, ap, sym}
use Rattle.registers.specs.Store.{band_count}
use Rattle.report.proofs.Exponents.{averaged-leading}
use Rattle.report.proofs.Averaging.of.Goals as goal

pub overflow_sub-exponent : goal.overflow_sub-exponent
overflow_sub-exponent c = (averaged-leading c.args.registers c.averaged_spectra.result c.averaged_spectra.ensures).zeros-le

pub invariant_of-result : goal.invariant_of-result
invariant_of-result c =
    record {
      half = ap (λ (n : ℕ). n / 2) (c.bands-words.ensures ∙ ap band_count (sym c.bin_setting-setting.ensures));
      small = (averaged-leading c.args.registers c.averaged_spectra.result c.averaged_spectra.ensures).exponent-le;
    }

pub returns-clause-exponent_value : goal.returns-clause-exponent_value
returns-clause-exponent_value c = (averaged-leading c.args.registers c.averaged_spectra.result c.averaged_spectra.ensures).power
