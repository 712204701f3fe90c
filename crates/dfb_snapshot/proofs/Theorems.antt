-- The claims on the C interface of snapshots. Assumes nothing.
use Prim.Native.Nat.{ℕ, ◌+◌, ◌≤◌, ◌<◌}
use mathlib.Core.Path.{◌≡◌, refl, sym, ap, subst, ◌∙◌}
use mathlib.Core.Bool.{Bool, true, false, not, ◌&&◌, ◌||◌, and-false, true≢false}
use mathlib.Core.List.{List}
use native.Mathlib.Omega.{arith}
use borrow.Author.Tests.{ltb-true, ltb-false, lt-ltb, le-ltb, le-leb, lt-leb}
use lib.Dec.{leb, ltb}
use lib.IntN.{ℤ}
use lib.ListN.{length, take, drop}
use lib.Seq.{take_at}
use Rattle.lists.specs.Sums.{sum_to, all_to}
use Rattle.lists.specs.Tables.{overwrite}
use Rattle.lists.proofs.Choices.{by_cases, cond-at}
use Rattle.refusal.specs.Outcome.{Outcome, given, refused, is_given, Filled}
use Rattle.refusal.proofs.Outcomes.{refused-given}
use Rattle.words.specs.Words.{AreBytes}
use Rattle.fields.specs.Samples.{samples_at}
use Rattle.snapshot.specs.declared.Header.{Header}
use Rattle.snapshot.specs.declared.Found.{Found}
use Rattle.snapshot.specs.Packet.{header_in, components, sample_count}
use Rattle.snapshot.specs.Calls.{header_found, ReadLeft, samples_read, packet_read, packet_written}
use Rattle.snapshot.specs.Claims.{HeaderFits}
use Rattle.snapshot.proofs.Packets.{components-le, header-fits, accepted}
use Rattle.snapshot.proofs.Theorems as snapshot
use Rattle.snapshot.proofs.Theorems.{round_trip, converse-round-trip}
use Rattle.dfb_refusals.specs.Numbers.{above16}
use Rattle.dfb_refusals.proofs.Apart.{Below, refused-below, told-apart}
use Rattle.dfb_snapshot.specs.Header.{header_numbers, header_of, header_taken}
use Rattle.dfb_snapshot.specs.Calls.{ReadCall, read_to, read_call, write_call}
use Rattle.dfb_snapshot.specs.Claims.{SnapshotReadApart, SnapshotWriteApart, RefusedReadUnchanged, RefusedWriteUnchanged, WorkedReadings, WorkedWritings, WorkedNumbers, WrittenRead, ReadWritten}
use Rattle.dfb_snapshot.proofs.Headers.{taken, taken-fits, fits-taken, numbers-return}
use Rattle.dfb_snapshot.proofs.Calls.{left_by, read-long, written-few}

-- ---- by computation

pub worked-numbers : WorkedNumbers
worked-numbers = refl

pub worked-readings : WorkedReadings
unfolding read_call header_found header_in components sum_to
worked-readings = refl

pub worked-writings : WorkedWritings
unfolding write_call packet_written header_taken all_to components sum_to
worked-writings = refl

-- ---- answers and refusals

-- the number of samples is no refusal
few : (mask : ℕ) → sample_count mask < above16
few mask = omega (arith, components-le mask)

not-many : (mask : ℕ) → above16 ≤ sample_count mask → ⊥
not-many mask h = omega (arith, few mask)

-- and a refusal no number of samples
not-below : (n : ℕ) → above16 + n < above16 → ⊥
not-below n h = omega arith

pub snapshot-read-apart : SnapshotReadApart
unfolding read_call packet_read
snapshot-read-apart packet header samples = by (header_found packet)
  where
    by : (o : Outcome Header) →
        ltb (read_to packet header samples o).answer above16 ≡ (leb 10 (length header) && is_given (samples_read packet samples o).answer)
    by (refused n) = rw (le-ltb (above16 + n) above16 (omega arith), and-false)
    by (given h) =
        by_cases (ltb (length header) 10)
        (λ s. rw (s, lt-leb 10 (length header) (ltb-true (length header) 10 s)))
        (λ s. by_cases (ltb (length samples) (sample_count h.mask)) (λ t. rw (s, t, and-false))
        (λ t. rw (s, t, le-leb 10 (length header) (ltb-false (length header) 10 s), lt-ltb (sample_count h.mask) above16 (few h.mask))))

pub refused-read-unchanged : RefusedReadUnchanged
unfolding read_call
refused-read-unchanged packet header samples = by (header_found packet)
  where
    by : (o : Outcome Header) → above16 ≤ (read_to packet header samples o).answer →
        read_to packet header samples o ≡ record { answer = (read_to packet header samples o).answer; header = header; samples = samples }
    by (refused n) = λ h. refl
    by (given g) =
        cond-at (λ (r : ReadCall). above16 ≤ r.answer → r ≡ record { answer = r.answer; header = header; samples = samples })
        (ltb (length header) 10 || ltb (length samples) (sample_count g.mask)) (λ _ h. refl)
        (λ _ h. absurd (not-many g.mask h))

pub refused-write-unchanged : RefusedWriteUnchanged
unfolding write_call
refused-write-unchanged header samples packet n =
    cond-at (λ (f : Filled ℕ). f.answer ≡ refused n → f.buffer ≡ packet) (not (header_taken header)) (λ _ e. refl)
    (λ _ e. snapshot.refused-write-unchanged (header_of header) samples packet n e)

below : (header : List ℕ) (samples : List ℤ) (packet : List ℕ) → Below above16 (write_call header samples packet).answer
unfolding write_call
below header samples packet =
    cond-at (λ (f : Filled ℕ). Below above16 f.answer) (not (header_taken header)) (λ _. refused-below above16 2)
    (λ _. record { value = λ n e. omega (arith, written-few (header_of header) samples packet n e) })

pub snapshot-write-apart : SnapshotWriteApart
snapshot-write-apart header samples packet = told-apart above16 (write_call header samples packet).answer (below header samples packet)

-- ---- round trips

pub written_read : WrittenRead
unfolding write_call
written_read numbers samples packet n header back are ok long room =
    by_cases (header_taken numbers)
    (λ t. let ten = taken numbers t in
    let written : (packet_written (header_of numbers) samples packet).answer ≡ given n = rw t at ok in
    rw t
    (sym (read-long _ header back long)
    ∙ ap (left_by header) (round_trip (header_of numbers) samples packet n back (taken-fits numbers ten) are written room)
    ∙ ap (λ (l : List ℕ). record { answer = length samples; header = overwrite l header; samples = overwrite samples back }) (numbers-return numbers ten.long)))
    (λ t. absurd (refused-given 2 n (rw t at ok)))

second : (a b : Bool) → a || b ≡ false → b ≡ false
second true b e = absurd (true≢false e)
second false b e = e

-- a packet that was read is written again
again : (packet : List ℕ) (samples : List ℤ) (h : Header) (header back : List ℕ) → AreBytes packet → header_found packet ≡ given h →
    ltb (length samples) (sample_count h.mask) ≡ false → length packet ≤ length back →
    write_call (take 10 (overwrite (header_numbers h) header)) (take (sample_count h.mask) (overwrite (samples_at (sample_count h.mask) packet 20) samples)) back
    ≡ record { answer = given (length packet); buffer = overwrite packet back }
unfolding write_call packet_read
again packet samples h header back are e t room =
    let a = accepted packet h e in
    let fits : HeaderFits h = subst HeaderFits a.header (header-fits packet are a.is-sid a.is-auxiliary) in
    let found : Found = record { header = h; count = sample_count h.mask } in
    let left : packet_read packet samples ≡ record { answer = given found; samples = overwrite (samples_at (sample_count h.mask) packet 20) samples } = rw (e, t) in
    let kept : overwrite (samples_at (sample_count h.mask) packet 20) samples ≡ (packet_read packet samples).samples = sym (ap (λ (l : ReadLeft). l.samples) left) in
    rw (take_at (header_numbers h) (drop 10 header) 10 refl, fits-taken h fits, kept)
    (converse-round-trip packet samples found back are (ap (λ (l : ReadLeft). l.answer) left) room)

pub read-written : ReadWritten
unfolding read_call
read-written packet header samples back are = by (header_found packet) refl
  where
    Again : ReadCall → Type 0
    Again r = r.answer < above16 → length packet ≤ length back →
        write_call (take 10 r.header) (take r.answer r.samples) back ≡ record { answer = given (length packet); buffer = overwrite packet back }

    by : (o : Outcome Header) → header_found packet ≡ o → Again (read_to packet header samples o)
    by (refused n) e = λ l. absurd (not-below n l)
    by (given h) e =
        cond-at Again (ltb (length header) 10 || ltb (length samples) (sample_count h.mask)) (λ t l. absurd (not-below 2 l))
        (λ t l room. again packet samples h header back are e (second (ltb (length header) 10) (ltb (length samples) (sample_count h.mask)) t) room)
