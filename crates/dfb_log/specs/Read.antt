-- Reading one record as numbers, those that append by a kind takes.
use Rattle.std.specs.Prelude.{ℕ, ◌^◌, ◌<◌, cond, List, [], ◌∷◌, leb}
use Rattle.refusal.specs.Outcome.{given, Filled}
use Rattle.board_log.specs.declared.Record.{Record}
use Rattle.board_log.specs.declared.Record.TheVariants.{Command, Word, SecondMark, Tick}
use Rattle.board_log.specs.Format.{kind_of}
use Rattle.board_log.specs.Cursor.{Found, found, end, read_at}
use Rattle.reader.specs.Reading.{place_after}
use Rattle.dfb_refusals.specs.Numbers.{Values, values_written}

-- a of a record: the ID of a command or the APID of a word
abbrev pub a_of : Record → ℕ
a_of (Command c) = c.id
a_of (Word w) = w.apid
a_of (SecondMark s) = 0
a_of Tick = 0

-- b of a record: the 16 bits of a command or a word, or the seconds of a second mark
abbrev pub b_of : Record → ℕ
b_of (Command c) = c.information
b_of (Word w) = w.bits
b_of (SecondMark s) = s
b_of Tick = 0

-- kind, a and b of what was found; at the end the kind is 0
abbrev pub record_numbers : Found → List ℕ
record_numbers (found r next) = kind_of r ∷ a_of r ∷ b_of r ∷ []
record_numbers end = 0 ∷ 0 ∷ 0 ∷ []

-- they are answered with the place after it, which at the end is the same place
abbrev pub found_values : ℕ → Found → Values ℕ
found_values at f = record { number = place_after at (given f); values = record_numbers f }

-- read: refused by 2, 9, 10, then 1 or 4, as the log's read, then by 2 for a list under 3
unfoldable pub record_read : List ℕ → ℕ → List ℕ → Filled ℕ
record_read log at numbers = values_written (found_values at) (read_at log at) numbers

-- the numbers of a record appended by a kind: a second mark has no a, and a tick neither a nor b
abbrev pub appended_numbers : ℕ → ℕ → ℕ → List ℕ
appended_numbers kind a b = kind ∷ cond (leb kind 0x02) a 0 ∷ cond (leb kind 0x03) b 0 ∷ []

-- a command's information and a word's bits are 16 bits
abbrev pub InSixteenBits : Record → Type 0
InSixteenBits (Command c) = c.information < 2 ^ 16
InSixteenBits (Word w) = w.bits < 2 ^ 16
InSixteenBits (SecondMark s) = Unit {0}
InSixteenBits Tick = Unit {0}
