-- 01, "Bands": the answers of the crate's functions, and 01's number or values for each of their cases.
use Rattle.std.specs.Prelude.{◌&&◌, cond, ℕ, ◌+◌, ◌*◌, ◌/◌, ◌^◌, leb, pos, Float}
use Rattle.std.specs.Float.{binary32}
use Rattle.std.specs.Float.Ieee.{of_int}
use Rattle.refusal.specs.Outcome.{Outcome, given, refused}
use Rattle.bands.specs.declared.Description.{Description}
use Rattle.bands.specs.declared.Cadence.{Cadence}
use Rattle.bands.specs.declared.Cadence.TheVariants.{Rate, Period}
use Rattle.bands.specs.Band.{size_exponent, band_of, band_start, band_width, has_band}

-- the band of a bin; 12 for a setting over 2 or a bin over 1023
abbrev pub band_found : ℕ → ℕ → Outcome ℕ
band_found setting k = cond (leb setting 2 && leb k 1023) (given (band_of (size_exponent setting) k)) (refused 12)

-- ---- floats: `Exact.antt` says what they stand for

-- The f32 of a whole number.
unfoldable pub whole : ℕ → Float
whole n = of_int binary32 (pos n)

-- in hertz: bin k spans 8 Hz from 8 · k Hz, and the centre lies half the width above the low edge
abbrev pub low_hertz : ℕ → ℕ → ℕ
low_hertz setting b = 8 * band_start (size_exponent setting) b

abbrev pub width_hertz : ℕ → ℕ → ℕ
width_hertz setting b = 8 * band_width (size_exponent setting) b

abbrev pub centre_hertz : ℕ → ℕ → ℕ
centre_hertz setting b = low_hertz setting b + width_hertz setting b / 2

-- low edge, centre and width of a band
abbrev pub described : ℕ → ℕ → Description
described setting b = record { low = whole (low_hertz setting b); centre = whole (centre_hertz setting b); width = whole (width_hertz setting b) }

-- the description of a band; 12 for a setting over 2 or a band past the count
abbrev pub band_described : ℕ → ℕ → Outcome Description
band_described setting b = cond (has_band setting b) (given (described setting b)) (refused 12)

-- with C = 2 ^ choice: 8 / C per second if C ≤ 8, and otherwise C / 8 seconds, which are whole numbers; 12 for a choice over 10
abbrev pub cadence_of : ℕ → Outcome Cadence
cadence_of choice =
    cond (leb choice 10)
    (cond (leb (2 ^ choice) 8) (given (Rate (whole (8 / 2 ^ choice)))) (given (Period (whole (2 ^ choice / 8)))))
    (refused 12)
