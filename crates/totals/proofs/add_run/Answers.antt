-- `totals::add_run` meets its contract. The loop: the bands before band i have their powers. Assumes nothing.
use Rattle.std.proofs.Common.{◌*◌, refl, ◌∙◌, arith, length-set, rules}
use Rattle.lists.proofs.Overwriting.{length_part, table_none}
use Rattle.totals.proofs.Runs.{run_in, run_more, run-all, part-sum}
use Rattle.totals.proofs.add_run.Goals as goal

pub loop-i-init : goal.loop-i-init
loop-i-init c = (search rules, refl, table_none _ _)

-- in a turn, the band's bins are a part of the powers
pub overflow_mul-bin : goal.overflow_mul-bin
overflow_mul-bin c = let a = c in omega (arith, run_in a.args.width _ _ a.requires c.loop-i.i (omega arith), a.requires.few)

pub overflow_add-bin : goal.overflow_add-bin
overflow_add-bin c = let a = c in omega (arith, run_in a.args.width _ _ a.requires c.loop-i.i (omega arith), a.requires.few)

pub slice_bounds-sum-end : goal.slice_bounds-sum-end
slice_bounds-sum-end c = let a = c in omega (arith, run_in a.args.width _ _ a.requires c.loop-i.i (omega arith), a.requires.few)

pub offset_bounds-powers-bin : goal.offset_bounds-powers-bin
offset_bounds-powers-bin c = let a = c in omega (arith, run_in a.args.width _ _ a.requires c.loop-i.i (omega arith), a.requires.few)

pub sum-requires : goal.sum-requires
sum-requires c =
    let a = c in
    let l = c.loop-i in
    let h = run_in a.args.width _ _ a.requires l.i (omega arith) in
    omega (arith, length_part a.args.powers.now (l.i * a.args.width) a.args.width h, a.requires.few)

pub loop-i-preserved : goal.loop-i-preserved
loop-i-preserved c =
    let l = c.loop-i in
    let a = c in (
      search rules,
      simp length-set l.invariant.1,
      run_more a.args.width _ _ a.requires l.i l.row l.invariant.2 c.sum.result (omega arith)
          (c.sum.ensures ∙ part-sum a.args.width _ _ a.requires l.i (omega arith)),
    )

pub shape_of-row : goal.shape_of-row
shape_of-row c = c.loop-i.invariant.1

pub returns : goal.returns
returns c = run-all c.args.width _ _ c.requires c.loop-i.i c.loop-i.row c.loop-i.invariant.2 (omega arith)
