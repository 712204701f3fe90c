-- The answers of the functions of bands and codes are told apart from refusals. Assumes nothing.
use mathlib.Core.Path.{sym}
use mathlib.Core.Bool.{◌&&◌}
use Prim.Native.Nat.{◌<◌}
use native.Mathlib.Omega.{arith}
use borrow.Author.Tests.{leb-true}
use lib.Dec.{leb}
use Rattle.lists.proofs.Choices.{cond-at, both}
use Rattle.codes.specs.Expanded.{band_expanded, sum_expanded}
use Rattle.codes.proofs.Neighbours.{expanded-le}
use Rattle.bands.specs.Band.{size_exponent, band_of}
use Rattle.bands.specs.Answer.{band_found, band_described, cadence_of}
use Rattle.bands.specs.declared.Cadence.{Cadence}
use Rattle.bands.specs.declared.Cadence.TheVariants.{Rate, Period}
use Rattle.bands.proofs.Settings.{band-lt}
use Rattle.registers.proofs.Counts.{bands-count}
use Rattle.dfb_refusals.specs.Numbers.{above8, above16, above63}
use Rattle.dfb_refusals.proofs.Apart.{Below, given_below, refused-below, told-apart}
use Rattle.dfb_refusals.proofs.Values.{values-below}
use Rattle.dfb_bands.specs.Values.{one_value, three_values, cadence_value, sum_written, band_written, cadence_written}
use Rattle.dfb_bands.specs.Claims.{BandOfApart, ExpandBandApart, ExpandSumApart, DescribeBandApart, CadenceApart}

pub band-of-apart : BandOfApart
band-of-apart setting bin =
    told-apart above8 (band_found setting bin)
    (cond-at (Below above8) (leb setting 2 && leb bin 1023)
    (λ e. given_below above8 (band_of (size_exponent setting) bin)
    (let t = both (leb setting 2) (leb bin 1023) e in
    let within : bin < 1024 = omega (arith, leb-true bin 1023 t.1) in
    omega (arith, band-lt setting bin (leb-true setting 2 t.0) within, (bands-count setting).at_most)))
    (λ e. refused-below above8 12))

pub expand-band-apart : ExpandBandApart
expand-band-apart code = told-apart above63 (band_expanded code) (record { value = λ v e. omega (arith, expanded-le code v (sym e)) })

pub expand-sum-apart : ExpandSumApart
unfolding sum_written
expand-sum-apart code value = told-apart above16 _ (values-below above16 one_value (sum_expanded code) value (λ v e. omega arith))

pub describe-band-apart : DescribeBandApart
unfolding band_written
describe-band-apart setting band three =
    told-apart above16 _ (values-below above16 three_values (band_described setting band) three (λ d e. omega arith))

cadence-below : (v : Cadence) → (cadence_value v).number < above16
cadence-below (Rate f) = omega arith
cadence-below (Period f) = omega arith

pub cadence-apart : CadenceApart
unfolding cadence_written
cadence-apart choice value = told-apart above16 _ (values-below above16 cadence_value (cadence_of choice) value (λ v e. cadence-below v))
