-- What is claimed of numbers and samples in a packet. Assumes nothing.
use Rattle.std.specs.Prelude.{ℕ, ◌+◌, ◌*◌, ◌^◌, ◌≤◌, ◌<◌, ◌≡◌, List, [], ◌∷◌, ◌++◌, ℤ, pos, negsuc, length, take, drop}
use Rattle.words.specs.Sample.{Are16}
use Rattle.words.specs.Words.{AreBytes}
use Rattle.fields.specs.Fields.{Field, numbers_in, field_bytes, size_of, FollowFrom, FitFields}
use Rattle.fields.specs.BitFields.{width_of, joined, separated, FitWidths}
use Rattle.fields.specs.Samples.{sample_bytes, samples_at}

-- ---- fields that follow one another: one round trip each way, for every list of fields

-- the bytes of numbers have these numbers, behind any bytes and before any others
abbrev pub NumbersReturn : Type 0
NumbersReturn =
    (fs : List Field) (xs before rest : List ℕ) → FollowFrom (length before) fs → FitFields fs xs →
    numbers_in fs (before ++ (field_bytes fs xs ++ rest)) ≡ xs

-- the numbers of bytes have these bytes
abbrev pub BytesReturn : Type 0
BytesReturn =
    (fs : List Field) (bytes : List ℕ) (at : ℕ) → AreBytes bytes → FollowFrom at fs → at + size_of fs ≤ length bytes →
    field_bytes fs (numbers_in fs bytes) ≡ take (size_of fs) (drop at bytes)

-- ---- fields of bits: the same, for every list of widths

abbrev pub SeparatedReturn : Type 0
SeparatedReturn = (ws xs : List ℕ) → FitWidths ws xs → separated ws (joined ws xs) ≡ xs

abbrev pub JoinedReturn : Type 0
JoinedReturn = (ws : List ℕ) (n : ℕ) → n < 2 ^ width_of ws → joined ws (separated ws n) ≡ n

-- the first field in the highest bits
abbrev pub WorkedBits : Type 0
WorkedBits = joined (3 ∷ 1 ∷ 4 ∷ []) (5 ∷ 0 ∷ 9 ∷ []) ≡ 0xA9

-- ---- samples: the same, for every list

abbrev pub SamplesReturn : Type 0
SamplesReturn =
    (samples : List ℤ) (before : List ℕ) → Are16 samples → samples_at (length samples) (before ++ sample_bytes samples) (length before) ≡ samples

abbrev pub SampleBytesReturn : Type 0
SampleBytesReturn =
    (n : ℕ) (bytes : List ℕ) (at : ℕ) → AreBytes bytes → length bytes ≡ at + 2 * n → sample_bytes (samples_at n bytes at) ≡ drop at bytes

-- 1, -1, -32768 and 258: the high byte first
abbrev pub WorkedSamples : Type 0
WorkedSamples = sample_bytes (pos 1 ∷ negsuc 0 ∷ negsuc 32767 ∷ pos 0x0102 ∷ []) ≡ 0x00 ∷ 0x01 ∷ 0xFF ∷ 0xFF ∷ 0x80 ∷ 0x00 ∷ 0x01 ∷ 0x02 ∷ []
