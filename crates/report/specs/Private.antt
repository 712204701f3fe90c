-- What the private functions over one processor's row of 112 totals write, where N is 2 ^ exponent. No public contract cites this file.
use Rattle.std.specs.Prelude.{ℕ, ◌*◌, ◌/◌, ◌%◌, ◌^◌, ◌≡◌, Bool, cond, List, get_or}
use Rattle.lists.specs.Tables.{concat_to}
use Rattle.bands.specs.Band.{size_exponent, band_width}
use Rattle.registers.specs.Store.{band_count}
use Rattle.model.specs.Report.{spec_word}

abbrev pub row_mean : ℕ → ℕ → List ℕ → ℕ → ℕ
row_mean setting exponent row b = get_or row b 0 / (2 ^ exponent * band_width (size_exponent setting) b) % 2 ^ 32

unfoldable pub row_bytes : ℕ → ℕ → List ℕ → List ℕ
row_bytes setting exponent row = concat_to (band_count setting / 2) (spec_word (row_mean setting exponent row))

-- the words of a processor, written over before if it is enabled; count is how many
pub record ProcessorLeft (on : Bool) (setting exponent : ℕ) (row before after : List ℕ) (count : ℕ) : Type 0 where
  pub bytes : after ≡ cond on (row_bytes setting exponent row) before
  pub words : count ≡ cond on (band_count setting / 2) 0
