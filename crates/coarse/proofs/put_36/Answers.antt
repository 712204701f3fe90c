-- `coarse::put_36` meets its contract: each call writes the bands of one segment. Assumes nothing.
use Prim.Native.Nat.{ℕ, ◌≤◌}
use mathlib.Core.Path.{◌≡◌}
use mathlib.Core.List.{List, ◌++◌}
use native.Mathlib.Omega.{arith}
use lib.ListN.{length, take, drop}
use Rattle.lists.specs.Tables.{tabulate, overwrite}
use Rattle.lists.proofs.Overwriting.{part, table_none}
use Rattle.registers.specs.Store.{band_count}
use Rattle.coarse.specs.Coarse.{run_sum, fine_total, coarse_totals}
use Rattle.coarse.specs.Private.{run_sums}
use Rattle.coarse.proofs.Segments.{segment-runs, segment-written, ones-36, twos-36, fours-36}
use Rattle.coarse.proofs.put_36.Goals as goal

module _ (fine out : List ℕ) (all : length fine ≡ 112) (room : 36 ≤ length out) where
  -- the output once the totals of the first n bands are written
  abbrev written : ℕ → List ℕ
  written n = overwrite (tabulate n (λ b. run_sum 0 b (fine_total fine))) out

  -- ---- bands 0 to 7: ys are their totals

  abbrev left : List ℕ → List ℕ
  left ys = ys ++ drop 8 out

  ones : (ys : List ℕ) → ys ≡ run_sums 1 (length (part out 0 8)) (part fine 0 8) → left ys ≡ written 8
  ones ys e = segment-written 0 0 1 8 0 ones-36 fine all out out (table_none _ out) (omega arith) ys e

  -- ---- bands 8 to 11: l is the output before them, and ys are their totals

  abbrev left-2 : List ℕ → List ℕ → List ℕ
  left-2 l ys = take 8 l ++ (ys ++ drop 4 (drop 8 l))

  twos : (l : List ℕ) → l ≡ written 8 → (ys : List ℕ) → ys ≡ run_sums 2 (length (part l 8 4)) (part fine 8 8) → left-2 l ys ≡ written 12
  twos l before ys e = segment-written 0 8 2 4 8 twos-36 fine all out l before (omega arith) ys e

-- ---- the goals

pub put_runs-requires : goal.put_runs-requires
put_runs-requires c =
    let fine = c.args.fine.now in
    let out = c.args.out.now in
    segment-runs 0 0 1 8 0 ones-36 fine c.requires.fine_len.0 out out (table_none _ out) (omega (arith, c.requires.in_bounds)) c.requires.fine_len.1

pub put_runs-requires-2 : goal.put_runs-requires-2
put_runs-requires-2 c =
    let fine = c.args.fine.now in
    let out = c.args.out.now in
    let all = c.requires.fine_len.0 in
    let room = c.requires.in_bounds in
    let ys = c.put_runs.new.out in
    segment-runs 0 8 2 4 8 twos-36 fine all out (left fine out all room ys) (ones fine out all room ys c.put_runs.ensures) (omega (arith, room)) c.requires.fine_len.1

pub put_runs-requires-3 : goal.put_runs-requires-3
put_runs-requires-3 c =
    let fine = c.args.fine.now in
    let out = c.args.out.now in
    let all = c.requires.fine_len.0 in
    let room = c.requires.in_bounds in
    let ys = c.put_runs.new.out in
    let l = left fine out all room ys in
    let zs = c.put_runs-2.new.out in
    let second = twos fine out all room l (ones fine out all room ys c.put_runs.ensures) zs c.put_runs-2.ensures in
    segment-runs 0 12 4 24 16 fours-36 fine all out (left-2 fine out all room l zs) second (omega (arith, room)) c.requires.fine_len.1

pub returns : goal.returns
unfolding coarse_totals band_count
returns c =
    let fine = c.args.fine.now in
    let out = c.args.out.now in
    let all = c.requires.fine_len.0 in
    let room = c.requires.in_bounds in
    let ys = c.put_runs.new.out in
    let l = left fine out all room ys in
    let zs = c.put_runs-2.new.out in
    let second = twos fine out all room l (ones fine out all room ys c.put_runs.ensures) zs c.put_runs-2.ensures in
    segment-written 0 12 4 24 16 fours-36 fine all out (left-2 fine out all room l zs) second (omega (arith, room)) _ c.put_runs-3.ensures
