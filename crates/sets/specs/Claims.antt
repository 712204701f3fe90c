-- 01, "Words and sets": what packing wrote is unpacked to the same samples, and what unpacking wrote is packed to the same bytes; of every set.
-- Assumes nothing.
use Rattle.std.specs.Prelude.{ℕ, ◌≤◌, ◌≡◌, List, ℤ, length, take}
use Rattle.lists.specs.Tables.{overwrite}
use Rattle.refusal.specs.Outcome.{given}
use Rattle.words.specs.Sample.{Are16}
use Rattle.words.specs.Words.{AreBytes}
use Rattle.sets.specs.Sets.{pack_outcome, unpack_outcome}

-- unpacking the n bytes that an accepted packing answers, from the output that it left, gives the samples
abbrev pub RoundTrip : Type 0
RoundTrip =
    (apid n : ℕ) (samples : List ℤ) (out : List ℕ) (back : List ℤ) →
    Are16 samples → (pack_outcome apid samples out).answer ≡ given n → length samples ≤ length back →
    unpack_outcome apid (take n (pack_outcome apid samples out).buffer) back ≡ record { answer = given (length samples); buffer = overwrite samples back }

-- packing the n samples that an accepted unpacking answers, from the output that it left, gives the bytes
abbrev pub ConverseRoundTrip : Type 0
ConverseRoundTrip =
    (apid n : ℕ) (bytes : List ℕ) (out : List ℤ) (back : List ℕ) →
    AreBytes bytes → (unpack_outcome apid bytes out).answer ≡ given n → length bytes ≤ length back →
    pack_outcome apid (take n (unpack_outcome apid bytes out).buffer) back ≡ record { answer = given (length bytes); buffer = overwrite bytes back }
