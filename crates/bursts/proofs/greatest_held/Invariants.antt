-- The greatest so far is that of the slots passed, with its place.
use Rattle.std.proofs.Common.{length}
use Rattle.lists.proofs.Best.{Best}
use Rattle.bursts.specs.Slots.{slot_state_of}
use Rattle.bursts.specs.Searches.{listed}
use Rattle.bursts.proofs.Finding.{worth, place_of, top_of}
use Rattle.bursts.proofs.greatest_held.Given as goal

abbrev pub invariant-loop-i : goal.invariant-loop-i
invariant-loop-i l =
    Best (length l.slots) (λ j. worth (slot_state_of (listed l.slots) j)) l.i (place_of (length l.slots) l.greatest) (top_of l.greatest)
