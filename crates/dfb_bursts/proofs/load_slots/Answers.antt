use Rattle.std.proofs.Common.{arith, ◌≡◌, true, false, sym, ◌∙◌}
use Rattle.lists.proofs.Overwriting.{table_none, table_more}
use Rattle.bursts.specs.declared.SlotState.TheVariants.{Free}
use Rattle.dfb_bursts.specs.Bursts.{are_slots}
use Rattle.dfb_bursts.proofs.Bursts.{statuses-all, lists-unsound, lists-of-slots, loaded, few-slots}
use Rattle.dfb_bursts.proofs.load_slots.Goals as goal

pub returns-then-not-are_slots : goal.returns-then-not-are_slots
returns-then-not-are_slots c =
    let status = c.args.status.now in
    let e : are_slots status ≡ false = sym (statuses-all status) ∙ sym c.are_slots.ensures ∙ c.if-not-are_slots.true in
    sym (lists-unsound status c.args.criteria.now c.if-status-criteria.false e)

pub loop-i-init : goal.loop-i-init
loop-i-init c = table_none _ _

pub loop-i-preserved : goal.loop-i-preserved
loop-i-preserved c =
    let status = c.args.status.now in
    let few = few-slots status (sym (statuses-all status) ∙ sym c.are_slots.ensures ∙ c.if-not-are_slots.false) in
    let l = c.loop-i in
    table_more _ _ l.i _ (record { state = Free }) _ l.invariant (omega (arith, few)) c.slot_from.ensures

pub returns : goal.returns
returns c =
    let l = c.loop-i in
    let status = c.args.status.now in
    let e : are_slots status ≡ true = sym (statuses-all status) ∙ sym c.are_slots.ensures ∙ c.if-not-are_slots.false in (
      sym (lists-of-slots status c.args.criteria.now c.if-status-criteria.false e),
      loaded status c.args.criteria.now _ l.i (few-slots status e) (omega arith) l.invariant,
    )
