-- 01, "Bands" and "Forms to use in the code": the floats of an answer are exact to the bit. `HasValue x false a c` says that x is finite, has no
-- minus sign, and is a / c in size.
use Rattle.std.specs.Prelude.{◌≡◌, false, ℕ, ◌+◌, ◌*◌, ◌^◌, Float, Result, Ok}
use Rattle.std.specs.Float.Ieee.Exact.{HasValue}
use Rattle.refusal.specs.declared.Refusal.{Refusal}
use Rattle.bands.specs.declared.Description.{Description}
use Rattle.bands.specs.declared.Cadence.{Cadence}
use Rattle.bands.specs.Band.{size_exponent, band_start, band_width}

-- in hertz: low edge 8 · start, centre 4 · (2 · start + W), a multiple of 4 Hz, width 8 · W
pub record ExactHertz (start bins : ℕ) (d : Description) : Type 0 where
  pub low : HasValue d.low false (8 * start) 1
  pub centre : HasValue d.centre false (4 * (2 * start + bins)) 1
  pub width : HasValue d.width false (8 * bins) 1

-- a description that is answered is exact
pub record ExactDescription (setting band : ℕ) (r : Result Description Refusal) : Type 0 where
  pub described : (d : Description) → r ≡ Ok d → ExactHertz (band_start (size_exponent setting) band) (band_width (size_exponent setting) band) d

-- with C = 2 ^ choice: a rate that is answered is 8 / C per second, and a period C / 8 seconds
pub record ExactCadence (choice : ℕ) (r : Result Cadence Refusal) : Type 0 where
  pub rate : (f : Float) → r ≡ Ok (Cadence.Rate f) → HasValue f false 8 (2 ^ choice)
  pub period : (f : Float) → r ≡ Ok (Cadence.Period f) → HasValue f false (2 ^ choice) 8
