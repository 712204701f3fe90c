-- How a caller tells the answers of the log's functions apart from refusals, and that a read gives back what was appended. Assumes nothing.
use Rattle.std.specs.Prelude.{ℕ, ◌^◌, ◌≤◌, ◌<◌, ◌≡◌, List, ℤ, length}
use Rattle.lists.specs.Tables.{overwrite}
use Rattle.refusal.specs.Outcome.{given}
use Rattle.sets.specs.Sets.{pack_outcome, unpack_outcome}
use Rattle.board_log.specs.declared.Record.{Record}
use Rattle.board_log.specs.Format.{kind_of}
use Rattle.board_log.specs.Append.{append_outcome}
use Rattle.listing.specs.Listing.{listing_outcome}
use Rattle.dfb_refusals.specs.Numbers.{above16, above63, ToldApart}
use Rattle.dfb_log.specs.Append.{record_of, append_kind}
use Rattle.dfb_log.specs.Read.{a_of, b_of, record_read, appended_numbers, InSixteenBits}

abbrev pub PackApart : Type 0
PackApart = (apid : ℕ) (samples : List ℤ) (out : List ℕ) → ToldApart above16 (pack_outcome apid samples out).answer

abbrev pub UnpackApart : Type 0
UnpackApart = (apid : ℕ) (bytes : List ℕ) (out : List ℤ) → ToldApart above16 (unpack_outcome apid bytes out).answer

-- a list in memory has fewer than 2 ^ 63 bytes
abbrev pub AppendApart : Type 0
AppendApart = (log : List ℕ) (used kind a b : ℕ) → length log < 2 ^ 63 → ToldApart above63 (append_kind log used kind a b).answer

abbrev pub ListingApart : Type 0
ListingApart = (log out : List ℕ) → ToldApart above63 (listing_outcome log out).answer

abbrev pub ReadRecordApart : Type 0
ReadRecordApart = (log : List ℕ) (at : ℕ) (numbers : List ℕ) → length log < 2 ^ 63 → ToldApart above63 (record_read log at numbers).answer

-- kind, a and b of a record, which a read writes, are those of the record for append
abbrev pub RecordNumbers : Type 0
RecordNumbers = (r : Record) → record_of (kind_of r) (a_of r) (b_of r) ≡ r

-- and append by them is the log's append of the record
abbrev pub NumbersAppended : Type 0
NumbersAppended =
    (log : List ℕ) (used : ℕ) (r : Record) → InSixteenBits r → append_kind log used (kind_of r) (a_of r) (b_of r) ≡ append_outcome log used r

-- what was appended is read where it was appended, with the place that append answered
abbrev pub AppendedRead : Type 0
AppendedRead =
    (log : List ℕ) (used kind a b : ℕ) (numbers : List ℕ) (next : ℕ) → 3 ≤ length numbers → (append_kind log used kind a b).answer ≡ given next
    → record_read (append_kind log used kind a b).buffer used numbers ≡ record { answer = given next; buffer = overwrite (appended_numbers kind a b) numbers }
