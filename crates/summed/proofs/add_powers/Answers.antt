-- `summed::add_powers` meets its contract. The loop: the totals so far have their powers. Assumes nothing.
use Rattle.std.proofs.Common.{◌≡◌, ◌+◌, get_or, ◌∙◌, ap₂, arith, length-set, rules}
use Rattle.lists.proofs.Overwriting.{table_none, table-next, table_more}
use Rattle.summed.proofs.Laws.{sum_at, added-all, power-is}
use Rattle.summed.proofs.add_powers.Goals as goal

pub loop-k-init : goal.loop-k-init
loop-k-init c = (omega arith, c.requires.run_length, c.requires.run_length, table_none _ _)

pub overflow_add-run : goal.overflow_add-run
overflow_add-run c =
    let a = c.args in
    let l = c.loop-k in
    let next : get_or l.run l.k 0 ≡ get_or a.run.now l.k 0 = table-next (sum_at a.run.now a.pairs.now) a.run.now l.k l.run 0 l.invariant.3 in
    omega (arith, next, c.requires.small l.k (omega arith), c.power.ensures.1)

pub loop-k-preserved : goal.loop-k-preserved
loop-k-preserved c =
    let a = c.args in
    let l = c.loop-k in
    let next : get_or l.run l.k 0 ≡ get_or a.run.now l.k 0 = table-next (sum_at a.run.now a.pairs.now) a.run.now l.k l.run 0 l.invariant.3 in
    let added = power-is a.pairs.now l.k (search rules) (search rules) c.power.ensures.0 in (
      omega arith,
      l.invariant.1,
      simp length-set l.invariant.2,
      table_more (sum_at a.run.now a.pairs.now) a.run.now l.k _ 0 l.run l.invariant.3 (omega arith) (ap₂ ◌+◌ next added),
    )

pub returns : goal.returns
returns c =
    let a = c.args in
    let l = c.loop-k in
    l.invariant.3 ∙ added-all l.k a.run.now a.pairs.now (omega arith) c.requires.run_length
