-- The values that the C interface of bands and codes writes to a list.
use Rattle.std.specs.Prelude.{ℕ, List, [], ◌∷◌, Float}
use Rattle.refusal.specs.Outcome.{Filled}
use Rattle.codes.specs.Expanded.{sum_expanded}
use Rattle.bands.specs.declared.Description.{Description}
use Rattle.bands.specs.Answer.{band_described, cadence_of}
use Rattle.bands.specs.declared.Cadence.{Cadence}
use Rattle.bands.specs.declared.Cadence.TheVariants.{Rate, Period}
use Rattle.dfb_refusals.specs.Numbers.{Values, values_written}

-- one value, with answer 0
abbrev pub one_value : ℕ → Values ℕ
one_value v = record { number = 0; values = v ∷ [] }

-- low edge, centre and width, with answer 0
abbrev pub three_values : Description → Values Float
three_values d = record { number = 0; values = d.low ∷ d.centre ∷ d.width ∷ [] }

-- a rate per second with answer 0, or a period in seconds with answer 1
abbrev pub cadence_value : Cadence → Values Float
cadence_value (Rate f) = record { number = 0; values = f ∷ [] }
cadence_value (Period f) = record { number = 1; values = f ∷ [] }

-- the value of a sum code: refused by 8, then 2 for an empty list
unfoldable pub sum_written : ℕ → List ℕ → Filled ℕ
sum_written code value = values_written one_value (sum_expanded code) value

-- a band in hertz: refused by 12, then 2 for a list under 3
unfoldable pub band_written : ℕ → ℕ → List Float → Filled Float
band_written setting band three = values_written three_values (band_described setting band) three

-- how often reports come: refused by 12, then 2 for an empty list
unfoldable pub cadence_written : ℕ → List Float → Filled Float
cadence_written choice value = values_written cadence_value (cadence_of choice) value
