-- The slots passed are those of the lists.
use Rattle.std.proofs.Common.{◌≡◌, get_or, replicate}
use Rattle.lists.specs.Tables.{tabulate, overwrite}
use Rattle.bursts.specs.declared.SlotState.TheVariants.{Free}
use Rattle.dfb_bursts.specs.Bursts.{slot_from}
use Rattle.dfb_bursts.proofs.load_slots.Given as goal

abbrev pub invariant-loop-i : goal.invariant-loop-i
invariant-loop-i l =
    l.slot ≡ overwrite (tabulate l.i (λ j. slot_from (get_or l.status j 0) (get_or l.criteria j 0))) (replicate 32 (record { state = Free }))
