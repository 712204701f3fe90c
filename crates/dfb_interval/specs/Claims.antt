-- How a caller reads the answer of choose_interval. Assumes nothing.
use Rattle.std.specs.Prelude.{ℕ, ◌/◌, ◌%◌, ◌≡◌, List, ltb}
use Rattle.refusal.specs.Outcome.{given, is_given}
use Rattle.interval.specs.declared.Interval.{Interval}
use Rattle.interval.specs.Interval.{interval_outcome}
use Rattle.dfb_refusals.specs.Numbers.{above63}
use Rattle.dfb_interval.specs.Interval.{interval_call}

-- an interval is told apart from a refusal
abbrev pub IntervalApart : Type 0
IntervalApart = (index : List ℕ) (bonus limit : ℕ) → ltb (interval_call index bonus limit) above63 ≡ is_given (interval_outcome index bonus limit)

-- its number has both ends
abbrev pub IntervalEnds : Type 0
IntervalEnds =
    (index : List ℕ) (bonus limit : ℕ) (i : Interval) → interval_outcome index bonus limit ≡ given i →
    (interval_call index bonus limit % 0x10000 ≡ i.first) × (interval_call index bonus limit / 0x10000 ≡ i.last)
