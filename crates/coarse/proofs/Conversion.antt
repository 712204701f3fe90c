-- The conversion of the fine totals of spectra gives the target's totals of the same spectra. Assumes nothing.
use Prim.Native.Nat.{ℕ, ◌+◌, ◌^◌, ◌≤◌, ◌<◌}
use mathlib.Core.Path.{◌≡◌, sym, ap, ◌∙◌}
use mathlib.Core.Bool.{true}
use mathlib.Core.List.{List}
use native.Mathlib.Omega.{arith}
use lib.ListN.{length}
use borrow.Author.Tests.{le-leb, eq-eqb}
use Rattle.lists.specs.Tables.{overwrite}
use Rattle.lists.proofs.Sums.{all_to-of, sum_to-ext}
use Rattle.lists.proofs.Tables.{length-tabulate, get_d_tabulate, tabulate-ext}
use Rattle.refusal.specs.Outcome.{given}
use Rattle.registers.specs.Store.{band_count}
use Rattle.coarse.specs.Coarse.{run_length, run_start, run_sum, fine_total, coarse_totals, totals_taken, coarse_outcome}
use Rattle.coarse.specs.Claims.{band_total, band_totals, ConvertedTotals}
use Rattle.coarse.proofs.Runs.{run-within}
use Rattle.coarse.proofs.Totals.{spectra-totals-are-run-sums}

module _ (n : ℕ) (powers : ℕ → ℕ → ℕ) where
  fine-length : length (band_totals n powers 2) ≡ 112
  unfolding band_totals band_count
  fine-length = length-tabulate 112 (band_total n powers 2)

  fine-at : (i : ℕ) → i < 112 → fine_total (band_totals n powers 2) i ≡ band_total n powers 2 i
  unfolding band_totals band_count
  fine-at i h = get_d_tabulate 112 (band_total n powers 2) 0 i h

  taken : ((i : ℕ) → i < 112 → band_total n powers 2 i ≤ 2 ^ 49) → totals_taken (band_totals n powers 2) ≡ true
  unfolding totals_taken
  taken small =
      all_to-of _ _ (λ i l.
      let h : i < 112 = omega (arith, fine-length) in
      le-leb (fine_total (band_totals n powers 2) i) (2 ^ 49) (omega (arith, fine-at i h, small i h)))

  converted : (setting : ℕ) → setting ≤ 1 → coarse_totals setting (band_totals n powers 2) ≡ band_totals n powers setting
  unfolding coarse_totals band_totals run_sum
  converted setting h =
      tabulate-ext (band_count setting) _ _ (λ b l.
      sum_to-ext (run_length setting b) _ _ (λ j m. fine-at (run_start setting b + j) (omega (arith, run-within setting b h l)))
      ∙ sym (spectra-totals-are-run-sums setting b n powers h l))

pub converted-totals : ConvertedTotals
unfolding coarse_outcome
converted-totals setting n powers out h small room =
    rw (le-leb setting 1 h, eq-eqb (length (band_totals n powers 2)) 112 (fine-length n powers), le-leb (band_count setting) (length out) room, taken n powers small)
    (ap (λ (l : List ℕ). record { answer = given (band_count setting); buffer = overwrite l out }) (converted n powers setting h))
