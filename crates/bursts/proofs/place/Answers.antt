use Rattle.std.proofs.Common.{rules, ◌≡◌, position, Some, None, sym, ◌∙◌}
use Rattle.bursts.specs.Slots.{is_free}
use Rattle.bursts.proofs.Answering.{place-free, place-held, place-away}
use Rattle.bursts.proofs.place.Goals as goal

pub returns-in-Some : goal.returns-in-Some
returns-in-Some c =
    let e : position (λ slot. is_free slot.state) c.args.slots.now ≡ Some c.in-Some.free = search rules in
    place-free c.args.slots.now c.args.criterion c.in-Some.free e

pub returns-in-Some-smallest_below : goal.returns-in-Some-smallest_below
returns-in-Some-smallest_below c =
    let e : position (λ slot. is_free slot.state) c.args.slots.now ≡ None = search rules in
    place-held c.args.slots.now c.args.criterion c.in-Some-smallest_below.slot e (sym c.smallest_below.ensures ∙ c.in-Some-smallest_below.is)

pub returns-in-None : goal.returns-in-None
returns-in-None c =
    let e : position (λ slot. is_free slot.state) c.args.slots.now ≡ None = search rules in
    place-away c.args.slots.now c.args.criterion e (sym c.smallest_below.ensures ∙ c.in-None.is)
