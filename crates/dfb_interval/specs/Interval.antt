-- What the C interface of the interval answers (02, ticket 11; include/dfb.h).
use Rattle.std.specs.Prelude.{ℕ, ◌+◌, ◌*◌, List}
use Rattle.refusal.specs.Outcome.{Outcome, given, refused}
use Rattle.interval.specs.declared.Interval.{Interval}
use Rattle.interval.specs.Interval.{interval_outcome}
use Rattle.dfb_refusals.specs.Numbers.{above63}

-- the first block in bits 15:0 and the last in bits 31:16
abbrev pub interval_number : Outcome Interval → ℕ
interval_number (given i) = i.first + 0x10000 * i.last
interval_number (refused n) = above63 + n

unfoldable pub interval_call : List ℕ → ℕ → ℕ → ℕ
interval_call index bonus limit = interval_number (interval_outcome index bonus limit)
