-- A loop that adds to each total of a run the powers of its band's bins. Assumes nothing.
use Rattle.std.proofs.Common.{◌≡◌, ℕ, zero, suc, ◌+◌, ◌*◌, ◌%◌, ◌^◌, ◌<◌, ◌≤◌, List, length, get_or, set, take, sym, ap, ◌∙◌, ap₂, le_refl, suc-mul, mul-le-mul, arith}
use Rattle.lists.specs.Sums.{sum_to}
use Rattle.lists.specs.Tables.{tabulate, overwrite}
use Rattle.lists.proofs.Sums.{sum_to-none, sum_to-more, sum_to-ext}
use Rattle.std.specs.List.{sum}
use Rattle.std.proofs.lemmas.List.Sums.{sum_by_more}
use lib.Seq.{take-length}
use Rattle.lists.proofs.Tables.{length-tabulate}
use Rattle.lists.proofs.Overwriting.{part, length_part, get_d_part, table-next, table_more, overwrite-all}
use Rattle.totals.specs.Private.{run_slot, added_run, BandsOfWidth}

-- the sum of a list, entry by entry
sum-to : (xs : List ℕ) (i : ℕ) → i ≤ length xs → sum (take i xs) ≡ sum_to i (λ j. get_or xs j 0)
sum-to xs zero h = sym (sum_to-none _)
sum-to xs (suc i) h =
    let e : suc i ≡ i + 1 = omega arith in
    rw e (sum_by_more (λ x. x) xs i 0 (omega arith) ∙ ap (λ (n : ℕ). n + get_or xs i 0) (sum-to xs i (omega arith)) ∙ sym (sum_to-more (λ j. get_or xs j 0) i))

sum-all : (xs : List ℕ) → sum xs ≡ sum_to (length xs) (λ j. get_or xs j 0)
sum-all xs = ap sum (sym (take-length xs)) ∙ sum-to xs (length xs) (omega arith)

module _ (width : ℕ) (row powers : List ℕ) (r : BandsOfWidth width row powers) where
  pub run_in : (i : ℕ) → i < length row → i * width + width ≤ length powers
  run_in i h = omega (arith, r.bins, suc-mul i width, mul-le-mul {n₁ = suc i} {m₁ = width} {n₂ = length row} {m₂ = width} h (le_refl width))

  module _ (i : ℕ) (l : List ℕ) (e : l ≡ overwrite (tabulate i (run_slot width row powers)) row) where
    pub run_more : (t : ℕ) → i < length row → t ≡ sum_to width (λ k. get_or powers (i * width + k) 0) →
        set l i ((get_or l i 0 + t) % 2 ^ 64) ≡ overwrite (tabulate (i + 1) (run_slot width row powers)) row
    run_more t h q =
        table_more (run_slot width row powers) row i ((get_or l i 0 + t) % 2 ^ 64) 0 l e h (ap₂ (λ (x y : ℕ). (x + y) % 2 ^ 64) (table-next (run_slot width row powers) row i l 0 e) q)

    pub run-all : i ≡ length row → l ≡ added_run width row powers
    unfolding added_run
    run-all p =
        e ∙ ap (λ (n : ℕ). overwrite (tabulate n (run_slot width row powers)) row) p
        ∙ overwrite-all (tabulate (length row) (run_slot width row powers)) row (length-tabulate (length row) _)

  -- the sum over a part of the powers
  pub part-sum : (i : ℕ) → i < length row → sum (part powers (i * width) width) ≡ sum_to width (λ k. get_or powers (i * width + k) 0)
  part-sum i h =
      sum-all (part powers (i * width) width)
      ∙ ap (λ (n : ℕ). sum_to n (λ j. get_or (part powers (i * width) width) j 0)) (length_part powers (i * width) width (run_in i h))
      ∙ sum_to-ext width _ _ (λ j l. get_d_part powers (i * width) width j 0 l)
