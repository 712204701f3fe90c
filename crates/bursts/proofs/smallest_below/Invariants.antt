-- The place so far is that of the smallest criterion passed that is below the limit.
use Rattle.std.proofs.Common.{◌≡◌, ◌≤◌, ℕ, ◌-◌, length}
use Rattle.lists.proofs.Best.{Best}
use Rattle.bursts.specs.Slots.{slot_state_of}
use Rattle.bursts.specs.Searches.{listed, slot_below}
use Rattle.bursts.proofs.Finding.{under}
use Rattle.bursts.proofs.smallest_below.Given as goal

abbrev pub invariant-loop-i : goal.invariant-loop-i
invariant-loop-i l =
    (p : ℕ) × (l.least ≤ l.limit) × (l.place ≡ slot_below (length l.slots) p) × Best (length l.slots) (λ j. under l.limit (slot_state_of (listed l.slots) j)) l.i p (l.limit - l.least)
