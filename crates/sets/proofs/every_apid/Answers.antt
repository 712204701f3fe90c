-- `sets::every_apid` meets its contract. Assumes nothing.
use Rattle.std.specs.Prelude.{◌/◌, length}
use Rattle.std.proofs.Common.{refl, sym, arith}
use borrow.Author.Tests.{eq-eqb, ne_eqb}
use Rattle.sets.specs.Sets.{every_apid}
use Rattle.sets.proofs.Laws.{every-stop, every_more}
use Rattle.sets.proofs.every_apid.Goals as goal

pub loop-i-init : goal.loop-i-init
unfolding every_apid
loop-i-init c = refl

pub loop-i-preserved : goal.loop-i-preserved
loop-i-preserved c = every_more _ c.loop-i.i _ c.loop-i.invariant (eq-eqb _ _ c.if-bytes-i.false)

pub returns-then-bytes-i : goal.returns-then-bytes-i
returns-then-bytes-i c =
    let a = c.args in
    sym (every-stop a.apid (length a.bytes.now / 3) c.loop-i.i a.bytes.now (omega arith) (ne_eqb _ _ c.if-bytes-i.true))
