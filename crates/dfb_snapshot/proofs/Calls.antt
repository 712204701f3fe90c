-- The cases of reading and writing in C. Assumes nothing.
use Prim.Native.Nat.{ℕ, ◌≤◌, ◌<◌}
use mathlib.Core.Path.{◌≡◌, refl}
use mathlib.Core.Bool.{true, false}
use mathlib.Core.List.{List}
use native.Mathlib.Omega.{arith}
use borrow.Author.Tests.{lt-ltb, le-ltb}
use lib.Dec.{ltb}
use lib.IntN.{ℤ}
use lib.ListN.{length}
use Rattle.lists.specs.Tables.{overwrite}
use Rattle.lists.proofs.Choices.{by_cases}
use Rattle.std.specs.Prelude.{Result, Ok, Err}
use Rattle.std.specs.Result.{result_err}
use Rattle.std.specs.Option.{unwrap_or}
use Rattle.refusal.specs.declared.Refusal.{Refusal}
use Rattle.refusal.specs.declared.Refusal.TheVariants.{WrongLength}
use Rattle.refusal.specs.Number.{number_of}
use Rattle.refusal.specs.Outcome.{Outcome, given, refused, answer_outcome}
use Rattle.snapshot.specs.declared.Header.{Header}
use Rattle.snapshot.specs.declared.Found.{Found}
use Rattle.snapshot.specs.Packet.{sample_count}
use Rattle.snapshot.specs.Calls.{header_found, ReadLeft, samples_read, packet_read, packet_written}
use Rattle.snapshot.proofs.Packets.{components-le}
use Rattle.snapshot.proofs.Theorems.{read-accepted, write-accepted}
use Rattle.dfb_snapshot.specs.Header.{header_numbers}
use Rattle.dfb_snapshot.specs.Calls.{ReadCall, read_refused, read_to, read_call}

-- ---- reading

-- the refusal of a header, or 2 where there is none
abbrev pub refusal_or2 : Outcome Header → ℕ
refusal_or2 (given h) = 2
refusal_or2 (refused n) = n

-- as the code has it
pub first-refusal : (r : Result Header Refusal) → number_of (unwrap_or (result_err r) WrongLength) ≡ refusal_or2 (answer_outcome r)
first-refusal (Ok h) = refl
first-refusal (Err e) = refl

-- a list for the header that is too short
pub read_short : (packet header : List ℕ) (samples : List ℤ) → length header < 10 →
    read_refused (refusal_or2 (header_found packet)) header samples ≡ read_call packet header samples
unfolding read_call
read_short packet header samples h = by (header_found packet)
  where
    short : ltb (length header) 10 ≡ true
    short = lt-ltb (length header) 10 h

    by : (o : Outcome Header) → read_refused (refusal_or2 o) header samples ≡ read_to packet header samples o
    by (refused n) = refl
    by (given g) = rw short

-- what is left in C of a reading
abbrev pub read_left : List ℕ → List ℤ → Outcome Found → ReadCall
read_left header samples (refused n) = read_refused n header samples
read_left header samples (given f) = record { answer = f.count; header = overwrite (header_numbers f.header) header; samples = samples }

abbrev pub left_by : List ℕ → ReadLeft → ReadCall
left_by header l = read_left header l.samples l.answer

-- a list that is long enough
pub read-long : (packet header : List ℕ) (samples : List ℤ) → 10 ≤ length header → left_by header (packet_read packet samples) ≡ read_call packet header samples
unfolding read_call packet_read
read-long packet header samples h = by (header_found packet)
  where
    long : ltb (length header) 10 ≡ false
    long = le-ltb (length header) 10 h

    by : (o : Outcome Header) → left_by header (samples_read packet samples o) ≡ read_to packet header samples o
    by (refused n) = refl
    by (given g) = by_cases (ltb (length samples) (sample_count g.mask)) (λ t. rw (long, t)) (λ t. rw (long, t))

-- ---- the numbers of samples and of bytes are small

pub read-few : (packet : List ℕ) (samples : List ℤ) (f : Found) → (packet_read packet samples).answer ≡ given f → f.count ≤ 1024
read-few packet samples f e =
    let r = read-accepted packet samples f e in
    omega (arith, r.count, components-le f.header.mask)

pub written-few : (h : Header) (samples : List ℤ) (packet : List ℕ) (n : ℕ) → (packet_written h samples packet).answer ≡ given n → n ≤ 2068
written-few h samples packet n e =
    let w = write-accepted h samples packet n e in
    omega (arith, w.bytes, components-le h.mask)
