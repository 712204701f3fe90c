-- The entries passed are those of the slots.
use Rattle.std.proofs.Common.{◌≡◌}
use Rattle.lists.specs.Tables.{tabulate, overwrite}
use Rattle.bursts.specs.Slots.{slot_state_of}
use Rattle.dfb_bursts.specs.Bursts.{status_of, criterion_of}
use Rattle.dfb_bursts.proofs.store_slots.Given as goal

abbrev pub invariant-loop-i : goal.invariant-loop-i
invariant-loop-i l =
    (l.status ≡ overwrite (tabulate l.i (λ j. status_of (slot_state_of l.fn.slots j))) l.fn.status)
    × (l.criteria ≡ overwrite (tabulate l.i (λ j. criterion_of (slot_state_of l.fn.slots j))) l.fn.criteria)
