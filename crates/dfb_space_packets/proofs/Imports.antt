-- The cases of importing in C. Assumes nothing.
use Prim.Native.Nat.{ℕ, ◌-◌, ◌≤◌, ◌<◌}
use mathlib.Core.Path.{◌≡◌, refl, ap}
use mathlib.Core.Bool.{true, false}
use mathlib.Core.List.{List}
use native.Mathlib.Omega.{arith}
use borrow.Author.Tests.{lt-ltb, le-ltb}
use lib.Dec.{ltb}
use lib.IntN.{ℤ}
use lib.ListN.{length}
use Rattle.lists.specs.Tables.{overwrite}
use Rattle.lists.proofs.Choices.{by_cases}
use Rattle.std.specs.Prelude.{Result, Ok, Err}
use Rattle.std.specs.Result.{result_err}
use Rattle.std.specs.Option.{unwrap_or}
use Rattle.refusal.specs.declared.Refusal.{Refusal}
use Rattle.refusal.specs.declared.Refusal.TheVariants.{WrongLength}
use Rattle.refusal.specs.Number.{number_of}
use Rattle.refusal.specs.Outcome.{Outcome, given, refused, answer_outcome}
use Rattle.refusal.proofs.Outcomes.{refused-given, given-same}
use Rattle.space_packets.specs.declared.PacketHeader.{PacketHeader}
use Rattle.space_packets.specs.Packet.{primary_in}
use Rattle.space_packets.specs.declared.Import.{Import}
use Rattle.space_packets.specs.Calls.{header_found, ImportLeft, sample_count, samples_imported, packet_imported}
use Rattle.space_packets.proofs.Headers.{is-whole, accepted}
use Rattle.dfb_space_packets.specs.Calls.{header_numbers, ImportCall, import_refused, import_to, import_call}

-- the refusal of a header, or 2 where there is none
abbrev pub refusal_or2 : Outcome PacketHeader → ℕ
refusal_or2 (given h) = 2
refusal_or2 (refused n) = n

-- as the code has it
pub first-refusal : (r : Result PacketHeader Refusal) → number_of (unwrap_or (result_err r) WrongLength) ≡ refusal_or2 (answer_outcome r)
first-refusal (Ok h) = refl
first-refusal (Err e) = refl

-- a list for the header that is too short
pub import-short : (packet header : List ℕ) (samples : List ℤ) → length header < 2 →
    import_refused (refusal_or2 (header_found packet)) header samples ≡ import_call packet header samples
unfolding import_call
import-short packet header samples h = by (header_found packet)
  where
    short : ltb (length header) 2 ≡ true
    short = lt-ltb (length header) 2 h

    by : (o : Outcome PacketHeader) → import_refused (refusal_or2 o) header samples ≡ import_to packet header samples o
    by (refused n) = refl
    by (given g) = rw short

-- what is left in C of an import
abbrev pub import_left : List ℕ → List ℤ → Outcome Import → ImportCall
import_left header samples (refused n) = import_refused n header samples
import_left header samples (given f) = record { answer = f.samples; header = overwrite (header_numbers f.header) header; samples = samples }

abbrev pub left_by : List ℕ → ImportLeft → ImportCall
left_by header l = import_left header l.samples l.answer

-- a list that is long enough
pub import-long : (packet header : List ℕ) (samples : List ℤ) → 2 ≤ length header →
    left_by header (packet_imported packet samples) ≡ import_call packet header samples
unfolding import_call packet_imported
import-long packet header samples h = by (header_found packet)
  where
    long : ltb (length header) 2 ≡ false
    long = le-ltb (length header) 2 h

    by : (o : Outcome PacketHeader) → left_by header (samples_imported packet samples o) ≡ import_to packet header samples o
    by (refused n) = refl
    by (given g) = by_cases (ltb (length samples) (sample_count packet)) (λ t. rw (long, t)) (λ t. rw (long, t))

-- the number of samples is small
pub import-few : (packet : List ℕ) (samples : List ℤ) (f : Import) → (packet_imported packet samples).answer ≡ given f → f.samples ≤ 2045
unfolding packet_imported
import-few packet samples f = by (header_found packet) refl
  where
    by : (o : Outcome PacketHeader) → header_found packet ≡ o → (samples_imported packet samples o).answer ≡ given f → f.samples ≤ 2045
    by (refused n) found e = absurd (refused-given n f e)
    by (given h) found e =
        let a = accepted packet h found in
        let most = (is-whole a.words (primary_in packet).length (length packet - 6) a.whole).most in
        by_cases (ltb (length samples) (sample_count packet)) (λ t. absurd (refused-given 2 f (rw t at e)))
        (λ t. let same : sample_count packet ≡ f.samples = ap (λ (g : Import). g.samples) (given-same (record { header = h; samples = sample_count packet }) f (rw t at e)) in
        omega (arith, same, most))
