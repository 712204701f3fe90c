-- What `verdict_line` leaves, for every verdict and every output: the line of 02, ticket 6, and a refusal 2 that is ours (docs/DECISIONS.md).
use Rattle.std.specs.Prelude.{Bool, false, cond, ◌||◌, List, ℕ, ◌^◌, leb, ltb, length}
use Rattle.lists.specs.Tables.{overwrite}
use Rattle.refusal.specs.Outcome.{given, Filled, unfilled}
use Rattle.checker.specs.Check.{Judged, accepted, refused_at, Checked}
use Rattle.listing.specs.Text.{verdict_line}

-- an offset of more than ten digits
abbrev pub is_long_offset : Judged → Bool
is_long_offset accepted = false
is_long_offset (refused_at number offset) = leb (10 ^ 10) offset

-- the line and its length, or refusal 2 exactly where the output is under 64 bytes or the offset has more than ten digits
unfoldable pub line_outcome : Checked → List ℕ → Filled ℕ
line_outcome v out =
    cond (ltb (length out) 64 || is_long_offset v.judged) (unfilled 2 out) (record { answer = given (length (verdict_line v)); buffer = overwrite (verdict_line v) out })
