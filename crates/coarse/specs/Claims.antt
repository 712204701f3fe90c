-- 02, ticket 8: what is claimed of the runs and of the conversion. The targets are the bin settings 0 and 1. Assumes nothing.
use Rattle.std.specs.Prelude.{ℕ, suc, ◌+◌, ◌^◌, ◌≤◌, ◌<◌, ◌≡◌, List, length}
use Rattle.lists.specs.Sums.{sum_to}
use Rattle.lists.specs.Tables.{tabulate, overwrite}
use Rattle.refusal.specs.Outcome.{given}
use Rattle.registers.specs.Store.{band_count}
use Rattle.bands.specs.Band.{size_exponent}
use Rattle.bands.specs.Power.{band_sum}
use Rattle.coarse.specs.Coarse.{run_length, run_start, run_sum, coarse_outcome}

-- ---- the runs

-- fine band i is in the run of band b
pub record InRun (setting i b : ℕ) : Type 0 where
  pub from : run_start setting b ≤ i
  pub before : i < run_start setting b + run_length setting b

-- b is the one band in whose run fine band i is
pub record OneRun (setting i b : ℕ) : Type 0 where
  pub known : b < band_count setting
  pub inside : InRun setting i b
  pub only : (b' : ℕ) → InRun setting i b' → b' ≡ b

-- The runs follow one another from fine band 0 to fine band 111 without a gap, and each fine band is in exactly one of them.
pub record Runs (setting : ℕ) : Type 0 where
  pub first : run_start setting 0 ≡ 0
  pub next : (b : ℕ) → run_start setting (suc b) ≡ run_start setting b + run_length setting b
  pub end : run_start setting (band_count setting) ≡ 112
  pub one : (i : ℕ) → i < 112 → (b : ℕ) × OneRun setting i b

abbrev pub RunsUseEachOnce : Type 0
RunsUseEachOnce = (setting : ℕ) → setting ≤ 1 → Runs setting

-- ---- totals

-- of every spectrum: the total of a band is the sum of the fine totals of its run. powers k is the power of bin k
abbrev pub TotalsAreRunSums : Type 0
TotalsAreRunSums =
    (setting b : ℕ) (powers : ℕ → ℕ) → setting ≤ 1 → b < band_count setting →
    band_sum (size_exponent setting) b powers ≡ run_sum setting b (λ i. band_sum (size_exponent 2) i powers)

-- the total of band b over n spectra; powers i k is the power of spectrum i at bin k
abbrev pub band_total : ℕ → (ℕ → ℕ → ℕ) → ℕ → ℕ → ℕ
band_total n powers setting b = sum_to n (λ i. band_sum (size_exponent setting) b (powers i))

-- and so of any number of spectra
abbrev pub SpectraTotalsAreRunSums : Type 0
SpectraTotalsAreRunSums =
    (setting b n : ℕ) (powers : ℕ → ℕ → ℕ) → setting ≤ 1 → b < band_count setting →
    band_total n powers setting b ≡ run_sum setting b (band_total n powers 2)

-- ---- the conversion

-- the totals of all bands over n spectra
unfoldable pub band_totals : ℕ → (ℕ → ℕ → ℕ) → ℕ → List ℕ
band_totals n powers setting = tabulate (band_count setting) (band_total n powers setting)

-- the 112 totals of any spectra, none over 2 ^ 49, convert to the 36 or 64 totals of the same spectra
abbrev pub ConvertedTotals : Type 0
ConvertedTotals =
    (setting n : ℕ) (powers : ℕ → ℕ → ℕ) (out : List ℕ) → setting ≤ 1 → ((i : ℕ) → i < 112 → band_total n powers 2 i ≤ 2 ^ 49) →
    band_count setting ≤ length out →
    coarse_outcome setting (band_totals n powers 2) out ≡ record { answer = given (band_count setting); buffer = overwrite (band_totals n powers setting) out }

-- no total of up to 4,096 spectra of 32-bit powers is over 2 ^ 49; a report has at most 1,024
abbrev pub TotalsOfSpectraTaken : Type 0
TotalsOfSpectraTaken =
    (n : ℕ) (powers : ℕ → ℕ → ℕ) → n ≤ 4096 → ((i k : ℕ) → i < n → k < 1024 → powers i k < 2 ^ 32) → (b : ℕ) → b < 112 → band_total n powers 2 b ≤ 2 ^ 49
