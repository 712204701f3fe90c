-- How a caller tells the answers of the functions of bands and codes apart from refusals. Assumes nothing.
use Rattle.std.specs.Prelude.{ℕ, List, Float}
use Rattle.codes.specs.Expanded.{band_expanded}
use Rattle.bands.specs.Answer.{band_found}
use Rattle.dfb_refusals.specs.Numbers.{above8, above16, above63, ToldApart}
use Rattle.dfb_bands.specs.Values.{sum_written, band_written, cadence_written}

abbrev pub BandOfApart : Type 0
BandOfApart = (setting bin : ℕ) → ToldApart above8 (band_found setting bin)

abbrev pub ExpandBandApart : Type 0
ExpandBandApart = (code : ℕ) → ToldApart above63 (band_expanded code)

abbrev pub ExpandSumApart : Type 0
ExpandSumApart = (code : ℕ) (value : List ℕ) → ToldApart above16 (sum_written code value).answer

abbrev pub DescribeBandApart : Type 0
DescribeBandApart = (setting band : ℕ) (three : List Float) → ToldApart above16 (band_written setting band three).answer

abbrev pub CadenceApart : Type 0
CadenceApart = (choice : ℕ) (value : List Float) → ToldApart above16 (cadence_written choice value).answer
