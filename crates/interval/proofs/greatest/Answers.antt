use Rattle.std.proofs.Common.{arith, ◌≡◌, sym, ◌∙◌, length}
use borrow.Author.Tests.{lt-ltb}
use Rattle.lists.proofs.Best.{best_none, best-more, best-same}
use Rattle.interval.specs.Interval.{criterion}
use Rattle.interval.proofs.Start.{start-found}
use Rattle.interval.proofs.greatest.Goals as goal
use Rattle.interval.proofs.greatest.Goals.{then-most-criterion, else-most-criterion}

pub loop-i-init : goal.loop-i-init
loop-i-init c = best_none 0 _

pub loop-i-preserved : goal.loop-i-preserved
loop-i-preserved c =
    let l = c.loop-i in
    let worth = criterion c.args.index.now in
    elim c.if-most-criterion.branch [
      | then-most-criterion w ↦ best-more 0 worth l.i l.place l.most l.invariant w.place-is w.most-is (omega (arith, w.if-most-criterion.true))
      | else-most-criterion w ↦ best-same 0 worth l.i l.place l.most l.invariant w.place-is w.most-is (omega (arith, w.if-most-criterion.false))
    ]

pub returns-then-most-eq0 : goal.returns-then-most-eq0
returns-then-most-eq0 c =
    let l = c.loop-i in
    let e : l.i ≡ length c.args.index.now = omega arith in
    sym (start-found c.args.index.now l.place l.most (rw e at l.invariant) ∙ rw c.if-most-eq0.true)

pub returns-else-most-eq0 : goal.returns-else-most-eq0
returns-else-most-eq0 c =
    let l = c.loop-i in
    let e : l.i ≡ length c.args.index.now = omega arith in
    sym (start-found c.args.index.now l.place l.most (rw e at l.invariant) ∙ rw (lt-ltb 0 l.most (omega (arith, c.if-most-eq0.false))))
