-- What the private functions over one processor's row of 112 totals and 1,024 powers leave. No public contract cites this file.
use Rattle.std.specs.Prelude.{◌≡◌, ℕ, ◌+◌, ◌*◌, ◌%◌, ◌^◌, ◌≤◌, cond, List, length, nat_lt, slice_index}
use Rattle.lists.specs.Sums.{sum_to}
use Rattle.lists.specs.Tables.{tabulate}
use Rattle.bands.specs.Band.{size_exponent}
use Rattle.registers.specs.Store.{band_count}
use Rattle.bands.specs.Power.{band_sum}

-- bands of so many bins each, one after the other
abbrev pub run_slot : ℕ → List ℕ → List ℕ → ℕ → ℕ
run_slot width row powers j = (slice_index row j + sum_to width (λ k. slice_index powers (j * width + k))) % 2 ^ 64

unfoldable pub added_run : ℕ → List ℕ → List ℕ → List ℕ
added_run width row powers = tabulate (length row) (run_slot width row powers)

-- all bands of a processor
abbrev pub row_slot : ℕ → List ℕ → List ℕ → ℕ → ℕ
row_slot setting row powers b =
    cond (nat_lt b (band_count setting)) ((slice_index row b + band_sum (size_exponent setting) b (λ k. slice_index powers k)) % 2 ^ 64) (slice_index row b)

unfoldable pub added_row : ℕ → List ℕ → List ℕ → List ℕ
added_row setting row powers = tabulate 112 (row_slot setting row powers)

-- the powers of bands of so many bins
pub record BandsOfWidth (width : ℕ) (row powers : List ℕ) : Type 0 where
  pub bins : length powers ≡ length row * width
  pub few : length powers ≤ 1024
