-- 02, ticket 11: what is proved of every interval that is chosen. Assumes nothing.
use Rattle.std.specs.Prelude.{ℕ, ◌+◌, ◌-◌, ◌≤◌, ◌<◌, ◌≡◌, true, false, List, length}
use Rattle.refusal.specs.Outcome.{given}
use Rattle.interval.specs.declared.Interval.{Interval}
use Rattle.interval.specs.Interval.{criterion, start_of, joins, growing, grown, interval_outcome}

-- after as many turns as there are blocks, both sides are closed or the limit is reached
abbrev pub GrowthEnds : Type 0
GrowthEnds =
    (index : List ℕ) (bonus limit start : ℕ) → start < length index → 0 < limit → growing limit (grown index bonus limit start (length index)) ≡ false

pub record Chosen (index : List ℕ) (bonus limit : ℕ) (i : Interval) : Type 0 where
  -- it holds the start, which has the greatest criterion, and no older block has as great a one
  pub start : (i.first ≤ start_of index) × (start_of index ≤ i.last)
  pub greatest : (j : ℕ) → j < length index → criterion index j ≤ criterion index (start_of index)
  pub oldest : (j : ℕ) → j < start_of index → criterion index j < criterion index (start_of index)
  pub within : i.last < length index
  pub at_most : i.last - i.first + 1 ≤ limit
  pub passes : (j : ℕ) → i.first ≤ j → j ≤ i.last → joins index bonus (start_of index) j ≡ true
  -- below the limit it cannot grow: each side is at the end or its neighbour fails
  pub older : i.last - i.first + 1 < limit → 0 < i.first → joins index bonus (start_of index) (i.first - 1) ≡ false
  pub newer : i.last - i.first + 1 < limit → i.last + 1 < length index → joins index bonus (start_of index) (i.last + 1) ≡ false

abbrev pub IntervalChosen : Type 0
IntervalChosen = (index : List ℕ) (bonus limit : ℕ) (i : Interval) → interval_outcome index bonus limit ≡ given i → Chosen index bonus limit i
