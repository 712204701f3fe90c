-- `coarse::put_64` meets its contract: each call writes the bands of one segment. Assumes nothing.
use Prim.Native.Nat.{ℕ, ◌≤◌}
use mathlib.Core.Path.{◌≡◌}
use mathlib.Core.List.{List, ◌++◌}
use native.Mathlib.Omega.{arith}
use lib.ListN.{length, drop}
use Rattle.lists.specs.Tables.{tabulate, overwrite}
use Rattle.lists.proofs.Overwriting.{part, table_none}
use Rattle.registers.specs.Store.{band_count}
use Rattle.coarse.specs.Coarse.{run_sum, fine_total, coarse_totals}
use Rattle.coarse.specs.Private.{run_sums}
use Rattle.coarse.proofs.Segments.{segment-runs, segment-written, ones-64, twos-64}
use Rattle.coarse.proofs.put_64.Goals as goal

-- ---- bands 0 to 15: ys are their totals

module _ (fine out : List ℕ) (all : length fine ≡ 112) (room : 64 ≤ length out) where
  abbrev left : List ℕ → List ℕ
  left ys = ys ++ drop 16 out

  ones : (ys : List ℕ) → ys ≡ run_sums 1 (length (part out 0 16)) (part fine 0 16) → left ys ≡ overwrite (tabulate 16 (λ b. run_sum 1 b (fine_total fine))) out
  ones ys e = segment-written 1 0 1 16 0 ones-64 fine all out out (table_none _ out) (omega arith) ys e

pub put_runs-requires : goal.put_runs-requires
put_runs-requires c =
    let fine = c.args.fine.now in
    let out = c.args.out.now in
    segment-runs 1 0 1 16 0 ones-64 fine c.requires.fine_len.0 out out (table_none _ out) (omega (arith, c.requires.in_bounds)) c.requires.fine_len.1

-- ---- bands 16 to 63

pub put_runs-requires-2 : goal.put_runs-requires-2
put_runs-requires-2 c =
    let fine = c.args.fine.now in
    let out = c.args.out.now in
    let all = c.requires.fine_len.0 in
    let room = c.requires.in_bounds in
    let ys = c.put_runs.new.out in
    segment-runs 1 16 2 48 16 twos-64 fine all out (left fine out all room ys) (ones fine out all room ys c.put_runs.ensures) (omega (arith, room)) c.requires.fine_len.1

pub returns : goal.returns
unfolding coarse_totals band_count
returns c =
    let fine = c.args.fine.now in
    let out = c.args.out.now in
    let all = c.requires.fine_len.0 in
    let room = c.requires.in_bounds in
    let ys = c.put_runs.new.out in
    segment-written 1 16 2 48 16 twos-64 fine all out (left fine out all room ys) (ones fine out all room ys c.put_runs.ensures) (omega (arith, room)) _ c.put_runs-2.ensures
