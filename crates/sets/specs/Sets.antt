-- Waveform sets (01, "Words and sets"): packing and unpacking, with their refusals.
use Rattle.std.specs.Prelude.{ℕ, zero, suc, ◌*◌, Bool, true, cond, not, ◌&&◌, List, [], ◌∷◌, ◌++◌, eqb, leb, ℤ, length, get_or, drop}
use Rattle.lists.specs.Tables.{overwrite}
use Rattle.refusal.specs.Outcome.{Outcome, given, refused, Filled, unfilled}
use Rattle.words.specs.Sample.{bits_of, sample_of}
use Rattle.words.specs.Words.{set_size, word_bytes, pair_at}

-- the words of the samples, in order
unfoldable pub packed_bytes : ℕ → List ℤ → List ℕ
packed_bytes apid [] = []
packed_bytes apid (z ∷ zs) = word_bytes apid (bits_of z) ++ packed_bytes apid zs

-- the samples are the set's count, and the output has room for its bytes
abbrev pub pack_fits : ℕ → ℕ → ℕ → Bool
pack_fits words samples out = eqb samples words && leb (3 * words) out

-- packing a set of a size: refused as the size is, then by 2; else the bytes written
abbrev pub pack_sized : ℕ → List ℤ → List ℕ → Outcome ℕ → Filled ℕ
pack_sized apid samples out (refused n) = unfilled n out
pack_sized apid samples out (given words) =
    cond (not (pack_fits words (length samples) (length out))) (unfilled 2 out)
    (record { answer = given (3 * words); buffer = overwrite (packed_bytes apid samples) out })

-- packing: refused by 4, then 2
unfoldable pub pack_outcome : ℕ → List ℤ → List ℕ → Filled ℕ
pack_outcome apid samples out = pack_sized apid samples out (set_size apid)

-- each of n words has the APID
unfoldable pub every_apid : ℕ → ℕ → List ℕ → Bool
every_apid apid zero bytes = true
every_apid apid (suc n) bytes = eqb (get_or bytes 0 0) apid && every_apid apid n (drop 3 bytes)

-- the samples of n words
unfoldable pub samples_of : ℕ → List ℕ → List ℤ
samples_of zero bytes = []
samples_of (suc n) bytes = sample_of (pair_at bytes 1) ∷ samples_of n (drop 3 bytes)

-- the bytes are the set's count, and the output has room for its samples
abbrev pub unpack_fits : ℕ → ℕ → ℕ → Bool
unpack_fits words bytes out = eqb bytes (3 * words) && leb words out

-- unpacking a set of a size: refused as the size is, then by 2, then 5; else the samples written
abbrev pub unpack_sized : ℕ → List ℕ → List ℤ → Outcome ℕ → Filled ℤ
unpack_sized apid bytes out (refused n) = unfilled n out
unpack_sized apid bytes out (given words) =
    cond (not (unpack_fits words (length bytes) (length out))) (unfilled 2 out)
    (cond (not (every_apid apid words bytes)) (unfilled 5 out)
    (record { answer = given words; buffer = overwrite (samples_of words bytes) out }))

-- unpacking: refused by 4, then 2, then 5
unfoldable pub unpack_outcome : ℕ → List ℕ → List ℤ → Filled ℤ
unpack_outcome apid bytes out = unpack_sized apid bytes out (set_size apid)
