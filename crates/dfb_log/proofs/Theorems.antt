-- The claims of specs/Claims.antt. Assumes nothing.
use mathlib.Core.Path.{◌≡◌, refl, sym, ap, ◌∙◌}
use mathlib.Core.Bool.{false, not}
use mathlib.Core.List.{List}
use Prim.Native.Nat.{ℕ, ◌^◌, ◌≤◌, ◌<◌}
use native.Mathlib.Omega.{arith}
use borrow.Author.Tests.{leb-true, ltb-false, le-ltb, not-false}
use lib.Dec.{leb, ltb}
use lib.ListN.{length}
use Rattle.lists.specs.Tables.{overwrite}
use Rattle.lists.proofs.Choices.{cond-at}
use Rattle.refusal.specs.Outcome.{Outcome, given, refused, Filled}
use Rattle.refusal.proofs.Outcomes.{refused-given}
use Rattle.board_log.specs.declared.Record.{Record}
use Rattle.board_log.specs.declared.Record.TheVariants.{Command, Word, SecondMark, Tick}
use Rattle.board_log.specs.Format.{kind_of, is_kind, checked}
use Rattle.board_log.specs.Append.{used_with, append_checked, append_outcome}
use Rattle.board_log.specs.Cursor.{Found, found, end, read_at}
use Rattle.board_log.proofs.Encoding.{kind-is}
use Rattle.board_log.proofs.Moves.{found-parts, read-end-place}
use Rattle.reader.specs.Reading.{place_after}
use Rattle.listing.specs.Text.{text}
use Rattle.listing.specs.Listing.{room, listing_outcome}
use Rattle.listing.proofs.Bound.{text-most}
use Rattle.dfb_refusals.specs.Numbers.{above16, above63, values_written}
use Rattle.dfb_refusals.proofs.Apart.{Below, given_below, refused-below, told-apart}
use Rattle.dfb_refusals.proofs.Values.{values-fit, values-below}
use Rattle.dfb_log.specs.Append.{record_of, is_wide, wide_refusal, append_kind}
use Rattle.dfb_log.specs.Read.{a_of, b_of, found_values, record_read, appended_numbers, InSixteenBits}
use Rattle.dfb_log.specs.Claims.{PackApart, UnpackApart, AppendApart, ListingApart, ReadRecordApart, RecordNumbers, NumbersAppended, AppendedRead}
use Rattle.dfb_log.proofs.Small.{pack-small, unpack-small}
use Rattle.dfb_log.proofs.Append.{append-record}
use Rattle.dfb_log.proofs.Read.{append-reads, numbers-of-kind}

pub pack-apart : PackApart
pack-apart apid samples out = told-apart above16 _ (pack-small apid samples out).below

pub unpack-apart : UnpackApart
unpack-apart apid bytes out = told-apart above16 _ (unpack-small apid bytes out).below

abbrev Under : Filled ℕ → Type 0
Under f = Below above63 f.answer

module _ (log : List ℕ) (used : ℕ) (long : length log < 2 ^ 63) where
  append-checked : (o : Outcome Record) → Under (append_checked log used o)
  append-checked (refused n) = refused-below above63 n
  append-checked (given r) =
      cond-at Under (not (leb (used_with used r) (length log)))
      (λ e. refused-below above63 2)
      (λ e. given_below above63 (used_with used r) (omega (arith, leb-true (used_with used r) (length log) (not-false _ e))))

  append-outcome : (r : Record) → Under (append_outcome log used r)
  unfolding append_outcome
  append-outcome r = append-checked (checked r)

  append-kind : (kind a b : ℕ) → Under (append_kind log used kind a b)
  unfolding append_kind
  append-kind kind a b =
      cond-at Under (not (is_kind kind)) (λ e. refused-below above63 9)
      (λ e. cond-at Under (is_wide kind b) (λ f. refused-below above63 (wide_refusal kind a))
      (λ f. append-outcome (record_of kind a b)))

pub append-apart : AppendApart
append-apart log used kind a b long = told-apart above63 _ (append-kind log used long kind a b)

room_most : (log : List ℕ) → room log ≤ 393280
room_most log =
    cond-at (λ (n : ℕ). n ≤ 393280) (ltb 65536 (length log)) (λ e. omega arith)
    (λ e. omega (arith, ltb-false 65536 (length log) e))

listing-below : (log out : List ℕ) → Under (listing_outcome log out)
unfolding listing_outcome
listing-below log out =
    cond-at Under (ltb (length out) (room log)) (λ e. refused-below above63 2)
    (λ e. given_below above63 (length (text log)) (omega (arith, text-most log, room_most log)))

pub listing-apart : ListingApart
listing-apart log out = told-apart above63 _ (listing-below log out)

module _ (log : List ℕ) (at : ℕ) (long : length log < 2 ^ 63) where
  place-below : (f : Found) → read_at log at ≡ given f → place_after at (given f) < above63
  place-below (found r next) e = omega (arith, (found-parts log at r next e).within)
  place-below end e = omega (arith, read-end-place log at e)

pub read-record-apart : ReadRecordApart
unfolding record_read
read-record-apart log at numbers long =
    told-apart above63 _ (values-below above63 (found_values at) (read_at log at) numbers (place-below log at long))

pub record-numbers : RecordNumbers
record-numbers (Command c) = refl
record-numbers (Word w) = refl
record-numbers (SecondMark s) = refl
record-numbers Tick = refl

pub numbers-appended : NumbersAppended
numbers-appended log used r h =
    sym (append-record log used (kind_of r) (a_of r) (b_of r) (kind-is r) (narrow r h)) ∙ ap (append_outcome log used) (record-numbers r)
  where
    narrow : (q : Record) → InSixteenBits q → is_wide (kind_of q) (b_of q) ≡ false
    narrow (Command c) k = le-ltb 0xFFFF c.information (omega arith)
    narrow (Word w) k = le-ltb 0xFFFF w.bits (omega arith)
    narrow (SecondMark s) k = refl
    narrow Tick k = refl

pub appended-read : AppendedRead
unfolding append_kind record_read
appended-read log used kind a b numbers next room =
    cond-at Reads (not (is_kind kind)) (λ e f. absurd (refused-given 9 next f))
    (λ e. cond-at Reads (is_wide kind b) (λ w f. absurd (refused-given (wide_refusal kind a) next f))
    (λ w f.
    ap (λ (o : Outcome Found). values_written (found_values used) o numbers) (append-reads log used (record_of kind a b) next f)
    ∙ sym (values-fit (found_values used (found (record_of kind a b) next)) numbers (omega arith))
    ∙ ap (λ (l : List ℕ). record { answer = given next; buffer = overwrite l numbers }) (numbers-of-kind kind a b next (not-false _ e))))
  where
    Reads : Filled ℕ → Type 0
    Reads f =
        f.answer ≡ given next → values_written (found_values used) (read_at f.buffer used) numbers ≡ record { answer = given next; buffer = overwrite (appended_numbers kind a b) numbers }
