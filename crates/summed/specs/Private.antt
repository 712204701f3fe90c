-- What the private functions are given. No public contract cites this file.
use Rattle.std.specs.Prelude.{◌≡◌, ℕ, ◌^◌, ◌<◌, ◌≤◌, List, length, ℤ, slice_index}
use Rattle.summed.specs.declared.SumState.{SumState}

-- a run and a component's pairs; a power can be added to each total
pub record AddedTo (run : List ℕ) (pairs : List ℤ) : Type 0 where
  pub run_length : length run ≡ 1024
  pub pairs-length : length pairs ≡ 2048
  pub small : (k : ℕ) → k < 1024 → slice_index run k ≤ 2 ^ 34

-- all totals and the next component's pairs
pub record Ready (s : SumState) (totals : List ℕ) (pairs : List ℤ) : Type 0 where
  pub place : s.next < 8
  pub totals-length : length totals ≡ 2048
  pub pairs-length : length pairs ≡ 2048
  pub small : (k : ℕ) → k < 2048 → slice_index totals k ≤ 2 ^ 34
