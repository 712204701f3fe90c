-- The total of a band is the sum of the fine totals of its run: both are the powers of the same bins. Assumes nothing.
use Prim.Native.Nat.{ℕ, zero, suc, ◌+◌, ◌-◌, ◌*◌, ◌/◌, ◌^◌, ◌≤◌, ◌<◌}
use mathlib.Core.Path.{◌≡◌, refl, sym, ap, ◌∙◌}
use native.Mathlib.Nat.{le_refl, le_trans, mul-le-mul_right}
use native.Mathlib.Omega.{arith}
use lib.Pow.{pow_mono}
use Rattle.lists.specs.Sums.{sum_to}
use Rattle.lists.specs.Tables.{tabulate}
use Rattle.lists.proofs.Sums.{sum_to-add, sum_to-plus, sum_to-zero, sum_to-bound}
use Rattle.lists.proofs.Tables.{tabulate-agree}
use Rattle.registers.specs.Store.{band_count}
use Rattle.bands.specs.Band.{size_exponent, width_exponent, band_start, band_width}
use Rattle.bands.specs.Power.{band_sum}
use Rattle.bands.proofs.Bins.{first-start, next_start}
use Rattle.bands.proofs.Power.{band_sum-mono, band_sum-run, band_sum-le}
use Rattle.coarse.specs.Coarse.{run_length, run_start, run_sum}
use Rattle.coarse.specs.Claims.{TotalsAreRunSums, band_total, SpectraTotalsAreRunSums, TotalsOfSpectraTaken}
use Rattle.coarse.proofs.Runs.{two, run-next, run-within}

-- ---- any setting: the totals of the first bands are the powers of the bins before the next

module _ (setting : ℕ) (f : ℕ → ℕ) where
  abbrev s : ℕ
  s = size_exponent setting

  one_more : (b : ℕ) → b < band_count setting → sum_to (band_start s b) f + band_sum s b f ≡ sum_to (band_start s (suc b)) f
  one_more b h =
      ap (λ (x : ℕ). sum_to (band_start s b) f + x) (band_sum-run setting b h f)
      ∙ sym (ap (λ (n : ℕ). sum_to n f) (next_start s b) ∙ sum_to-add f (band_start s b) (band_width s b))

  bins-before : (n : ℕ) → n ≤ band_count setting → sum_to n (λ b. band_sum s b f) ≡ sum_to (band_start s n) f
  unfolding sum_to
  bins-before zero h = sym (ap (λ (n : ℕ). sum_to n f) (first-start s))
  bins-before (suc n) h = ap (λ (x : ℕ). x + band_sum s n f) (bins-before n (omega arith)) ∙ one_more n h

-- ---- a band begins where its run begins: the tables of both targets

starts-agree : (setting : ℕ) → setting ≤ 1 →
    tabulate (suc (band_count setting)) (band_start (size_exponent setting)) ≡ tabulate (suc (band_count setting)) (λ b. band_start (size_exponent 2) (run_start setting b))
unfolding tabulate band_count band_start width_exponent run_start run_length sum_to
starts-agree =
    two
    (λ (q : ℕ). tabulate (suc (band_count q)) (band_start (size_exponent q)) ≡ tabulate (suc (band_count q)) (λ b. band_start (size_exponent 2) (run_start q b)))
    refl
    refl

same_start : (setting b : ℕ) → setting ≤ 1 → b ≤ band_count setting → band_start (size_exponent setting) b ≡ band_start (size_exponent 2) (run_start setting b)
same_start setting b h l = tabulate-agree (suc (band_count setting)) _ _ (starts-agree setting h) b (omega arith)

-- ---- one spectrum

pub totals-are-run-sums : TotalsAreRunSums
unfolding run_sum band_count
totals-are-run-sums setting b f h l =
    let g : ℕ → ℕ = λ i. band_sum (size_exponent 2) i f in
    let within : run_start setting b + run_length setting b ≤ 112 = run-within setting b h l in
    let before : sum_to (run_start setting b) g ≡ sum_to (band_start (size_exponent setting) b) f =
    bins-before 2 f (run_start setting b) (omega arith) ∙ sym (ap (λ (n : ℕ). sum_to n f) (same_start setting b h (omega arith))) in
    let after : sum_to (run_start setting (suc b)) g ≡ sum_to (band_start (size_exponent setting) (suc b)) f =
    bins-before 2 f (run_start setting (suc b)) (omega (arith, run-next setting b)) ∙ sym (ap (λ (n : ℕ). sum_to n f) (same_start setting (suc b) h l)) in
    let run : sum_to (run_start setting (suc b)) g ≡ sum_to (run_start setting b) g + sum_to (run_length setting b) (λ j. g (run_start setting b + j)) =
    ap (λ (n : ℕ). sum_to n g) (run-next setting b) ∙ sum_to-add g (run_start setting b) (run_length setting b) in
    omega (arith, one_more setting f b l)

-- ---- any number of spectra

pub spectra-totals-are-run-sums : SpectraTotalsAreRunSums
unfolding sum_to run_sum
spectra-totals-are-run-sums setting b zero powers h l = sym (sum_to-zero (run_length setting b) _ (λ k m. refl))
spectra-totals-are-run-sums setting b (suc n) powers h l =
    omega (
      arith,
      spectra-totals-are-run-sums setting b n powers h l,
      totals-are-run-sums setting b (powers n) h l,
      sum_to-plus (run_length setting b) (λ j. band_total n powers 2 (run_start setting b + j)) (λ j. band_sum (size_exponent 2) (run_start setting b + j) (powers n)),
    )

-- ---- no total is over 2 ^ 49: a fine band has at most 32 bins

fine-width : (b : ℕ) → b < 112 → band_width (size_exponent 2) b ≤ 32
unfolding band_width width_exponent
fine-width b h = pow_mono {i = b / 16 - 1} {j = 5} (omega arith)

pub totals-of-spectra-taken : TotalsOfSpectraTaken
unfolding band_count
totals-of-spectra-taken n powers few fit b h =
    let m : ℕ = 2 ^ 32 - 1 in
    let most : ℕ = 32 * m in
    let each : (i : ℕ) → i < n → band_sum (size_exponent 2) b (powers i) ≤ most =
    λ i l. le_trans (band_sum-mono (size_exponent 2) b (powers i) (λ k. m) (λ k q. omega (arith, fit i k l q)))
    (le_trans (band_sum-le 2 b h (λ k. m) m (λ k. le_refl m)) (mul-le-mul_right m (fine-width b h)))
    in
    omega (arith, sum_to-bound n (λ i. band_sum (size_exponent 2) b (powers i)) most each, mul-le-mul_right {m = n} {n = 4096} most few)
