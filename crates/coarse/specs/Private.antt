-- What the private functions over runs of one length leave. No public contract cites this file.
use Rattle.std.specs.Prelude.{ℕ, ◌+◌, ◌*◌, ◌≤◌, ◌≡◌, true, List, length}
use Rattle.lists.specs.Sums.{sum_to}
use Rattle.lists.specs.Tables.{tabulate}
use Rattle.coarse.specs.Coarse.{fine_total, totals_taken}

-- the sums of so many runs of one length, one after the other from the first total on
unfoldable pub run_sums : ℕ → ℕ → List ℕ → List ℕ
run_sums len count fine = tabulate count (λ i. sum_to len (λ j. fine_total fine (i * len + j)))

-- totals that are taken, and at most 4 of them for each place of the output
pub record RunsOfLength (len : ℕ) (fine out : List ℕ) : Type 0 where
  pub short : len ≤ 4
  pub whole : length fine ≡ length out * len
  pub few : length fine ≤ 112
  pub taken : totals_taken fine ≡ true
