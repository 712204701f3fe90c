-- Serves the contracts of private functions only: the bins of a band.
use Rattle.std.specs.Prelude.{cond, ℕ}
use Rattle.refusal.specs.Outcome.{Outcome, given, refused}
use Rattle.bands.specs.declared.BinRange.{BinRange}
use Rattle.bands.specs.Band.{size_exponent, band_start, band_width, has_band}

-- the first bin of a band and the number of its bins
abbrev pub bin_range : ℕ → ℕ → BinRange
bin_range setting b = record { start = band_start (size_exponent setting) b; width = band_width (size_exponent setting) b }

-- the bins of a band; 12 for a setting over 2 or a band past the count
abbrev pub band_bins : ℕ → ℕ → Outcome BinRange
band_bins setting b = cond (has_band setting b) (given (bin_range setting b)) (refused 12)
