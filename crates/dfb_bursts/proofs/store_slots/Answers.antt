use Rattle.std.proofs.Common.{arith, refl, ap, ◌∙◌, length}
use Rattle.std.proofs.lemmas.List.{get_or-take, length-take-le}
use Rattle.lists.proofs.Overwriting.{table_none, table_more}
use Rattle.bursts.specs.declared.Slot.{Slot}
use Rattle.dfb_bursts.specs.Bursts.{status_of, criterion_of}
use Rattle.dfb_bursts.proofs.Bursts.{stored}
use Rattle.dfb_bursts.proofs.store_slots.Goals as goal

pub loop-i-init : goal.loop-i-init
loop-i-init c = (table_none _ _, table_none _ _)

pub loop-i-preserved : goal.loop-i-preserved
loop-i-preserved c =
    let l = c.loop-i in
    let n = length c.args.status.now in
    let here = length-take-le n c.args.slots.slot (omega arith) in
    let slot = get_or-take n c.args.slots.slot l.i _ (omega (arith, here)) in (
      table_more _ _ l.i _ 0 _ l.invariant.0 (omega (arith, here)) (c.status_of.ensures ∙ ap (λ (b : Slot). status_of b.state) slot),
      table_more _ _ l.i _ 0 _ l.invariant.1 (omega (arith, here)) (c.criterion_of.ensures ∙ ap (λ (b : Slot). criterion_of b.state) slot),
    )

pub returns : goal.returns
returns c =
    let l = c.loop-i in
    let here = length-take-le (length c.args.status.now) c.args.slots.slot (omega arith) in
    (stored _ _ _ l.i _ refl (omega (arith, here)) l.invariant.0, stored _ _ _ l.i _ c.requires.status_len (omega (arith, here)) l.invariant.1)
