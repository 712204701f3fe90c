-- 02, ticket 8: totals of 36 or 64 bands from a list of 112. The fine bands are the 112 of bin setting 2; setting is that of the target: 0 for
-- 36 bands, 1 for 64. Bands are counted from 0. Assumes nothing.
use Rattle.std.specs.Prelude.{ℕ, ◌+◌, ◌^◌, Bool, cond, not, ◌&&◌, List, leb, ltb, eqb, length, get_or}
use Rattle.lists.specs.Sums.{all_to, sum_to}
use Rattle.lists.specs.Tables.{tabulate, overwrite}
use Rattle.refusal.specs.Outcome.{given, Filled, unfilled}
use Rattle.registers.specs.Store.{band_count}

-- ---- the run of neighbouring fine bands that a band of the target has

-- how many: of 36 bands the first 8 have 1, the next 4 have 2 and the other 24 have 4; of 64 bands the first 16 have 1 and the other 48 have 2
unfoldable pub run_length : ℕ → ℕ → ℕ
run_length setting b = cond (eqb setting 0) (cond (ltb b 8) 1 (cond (ltb b 12) 2 4)) (cond (ltb b 16) 1 2)

-- the first: the runs lie one after the other
unfoldable pub run_start : ℕ → ℕ → ℕ
run_start setting b = sum_to b (run_length setting)

-- the sum of f over the run of band b
unfoldable pub run_sum : ℕ → ℕ → (ℕ → ℕ) → ℕ
run_sum setting b f = sum_to (run_length setting b) (λ j. f (run_start setting b + j))

-- ---- the conversion of one list

abbrev pub fine_total : List ℕ → ℕ → ℕ
fine_total fine i = get_or fine i 0

-- the totals of all bands of the target
unfoldable pub coarse_totals : ℕ → List ℕ → List ℕ
coarse_totals setting fine = tabulate (band_count setting) (λ b. run_sum setting b (fine_total fine))

-- a list of 112, and an output that has room for the target's count
abbrev pub lengths_fit : ℕ → List ℕ → List ℕ → Bool
lengths_fit setting fine out = eqb (length fine) 112 && leb (band_count setting) (length out)

-- no total is over 2 ^ 49
unfoldable pub totals_taken : List ℕ → Bool
totals_taken fine = all_to (length fine) (λ i. leb (fine_total fine i) (2 ^ 49))

-- refused by 12 for a target that is not 36 or 64 bands, then 2, then 24; else how many totals were written, and the rest of the output stays
unfoldable pub coarse_outcome : ℕ → List ℕ → List ℕ → Filled ℕ
coarse_outcome setting fine out =
    cond (not (leb setting 1)) (unfilled 12 out)
    (cond (not (lengths_fit setting fine out)) (unfilled 2 out)
    (cond (not (totals_taken fine)) (unfilled 24 out)
    (record { answer = given (band_count setting); buffer = overwrite (coarse_totals setting fine) out })))
