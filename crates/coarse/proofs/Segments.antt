-- Bands of the target whose runs have one length: their totals are the sums of runs of that length. Assumes nothing.
use Prim.Native.Nat.{ℕ, suc, ◌+◌, ◌*◌, ◌≤◌, ◌<◌}
use mathlib.Core.Path.{◌≡◌, refl, sym, ap, ◌∙◌}
use mathlib.Core.Bool.{true}
use mathlib.Core.List.{List, ◌++◌}
use native.Mathlib.Nat.{suc-mul, mul-le-mul_right}
use native.Mathlib.Omega.{arith}
use lib.Dec.{lit≤}
use lib.ListN.{length, take, drop}
use Rattle.lists.specs.Sums.{sum_to}
use Rattle.lists.specs.Tables.{tabulate, overwrite}
use Rattle.lists.proofs.Sums.{sum_to-ext}
use Rattle.lists.proofs.Tables.{length-tabulate, tabulate-ext, tabulate-agree}
use Rattle.lists.proofs.Overwriting.{part, length_part, get_d_part, length-overwrite}
use Rattle.lists.proofs.Runs.{table-run}
use Rattle.coarse.specs.Coarse.{run_length, run_start, run_sum, fine_total, totals_taken}
use Rattle.coarse.specs.Private.{run_sums, RunsOfLength}
use Rattle.coarse.proofs.Taken.{taken-part}

-- run i of so many runs of one length ends within them
pub run_end : (len count i : ℕ) → i < count → i * len + len ≤ count * len
run_end len count i h = omega (arith, suc-mul i len, mul-le-mul_right {m = suc i} {n = count} len h)

-- so many bands from a on have runs of one length, the first of which begins at start
pub record Segment (setting a len count start : ℕ) : Type 0 where
  pub lengths : tabulate count (λ j. run_length setting (a + j)) ≡ tabulate count (λ j. len)
  pub starts : tabulate count (λ j. run_start setting (a + j)) ≡ tabulate count (λ j. start + j * len)
  pub short : len ≤ 4
  pub within : start + count * len ≤ 112

module _ (setting a len count start : ℕ) (s : Segment setting a len count start) (fine : List ℕ) (all : length fine ≡ 112) where
  -- the total of band b
  abbrev total : ℕ → ℕ
  total b = run_sum setting b (fine_total fine)

  long : start + count * len ≤ length fine
  long = omega (arith, s.within)

  segment-totals : run_sums len count (part fine start (count * len)) ≡ tabulate count (λ j. total (a + j))
  unfolding run_sums run_sum
  segment-totals =
      tabulate-ext count _ _ (λ i h.
      sum_to-ext len _ _ (λ j k. get_d_part fine start (count * len) (i * len + j) 0 (omega (arith, run_end len count i h)) ∙ ap (fine_total fine) (omega (arith, begins i h)))
      ∙ ap (λ (n : ℕ). sum_to n (λ j. fine_total fine (run_start setting (a + i) + j))) (sym (tabulate-agree count _ _ s.lengths i h)))
    where
      begins : (i : ℕ) → i < count → run_start setting (a + i) ≡ start + i * len
      begins i h = tabulate-agree count _ _ s.starts i h

  -- l is the output once the totals of the bands before a are written
  module _ (out l : List ℕ) (before : l ≡ overwrite (tabulate a total) out) (room : a + count ≤ length out) where
    out-length : length (part l a count) ≡ count
    out-length =
        let same : length l ≡ length out =
        ap length before ∙ length-overwrite (tabulate a total) out (omega (arith, length-tabulate a total))
        in
        length_part l a count (omega arith)

    -- what the call for the segment asks, and what it leaves
    pub segment-runs : totals_taken fine ≡ true → RunsOfLength len (part fine start (count * len)) (part l a count)
    segment-runs taken =
        record {
          short = s.short;
          whole = length_part fine start (count * len) long ∙ ap (λ (n : ℕ). n * len) (sym out-length);
          few = omega (arith, length_part fine start (count * len) long);
          taken = taken-part fine start (count * len) long taken;
        }

    pub segment-written : (ys : List ℕ) → ys ≡ run_sums len (length (part l a count)) (part fine start (count * len)) →
        take a l ++ (ys ++ drop count (drop a l)) ≡ overwrite (tabulate (a + count) total) out
    segment-written ys e =
        table-run total out a count count l ys before (e ∙ ap (λ (n : ℕ). run_sums len n (part fine start (count * len))) out-length ∙ segment-totals) refl

-- ---- the segments of the two targets

pub ones-36 : Segment 0 0 1 8 0
unfolding tabulate run_start run_length sum_to
ones-36 = record { lengths = refl; starts = refl; short = lit≤ tt; within = lit≤ tt }

pub twos-36 : Segment 0 8 2 4 8
unfolding tabulate run_start run_length sum_to
twos-36 = record { lengths = refl; starts = refl; short = lit≤ tt; within = lit≤ tt }

pub fours-36 : Segment 0 12 4 24 16
unfolding tabulate run_start run_length sum_to
fours-36 = record { lengths = refl; starts = refl; short = lit≤ tt; within = lit≤ tt }

pub ones-64 : Segment 1 0 1 16 0
unfolding tabulate run_start run_length sum_to
ones-64 = record { lengths = refl; starts = refl; short = lit≤ tt; within = lit≤ tt }

pub twos-64 : Segment 1 16 2 48 16
unfolding tabulate run_start run_length sum_to
twos-64 = record { lengths = refl; starts = refl; short = lit≤ tt; within = lit≤ tt }
