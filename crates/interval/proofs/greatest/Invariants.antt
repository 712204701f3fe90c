-- The place so far is that of the greatest criterion passed, and 0 while all are 0.
use Rattle.lists.proofs.Best.{Best}
use Rattle.interval.specs.Interval.{criterion}
use Rattle.interval.proofs.greatest.Given as goal

abbrev pub invariant-loop-i : goal.invariant-loop-i
invariant-loop-i l = Best 0 (criterion l.index) l.i l.place l.most
