-- Samples in a packet: two bytes each, high byte first, one after the other. Assumes nothing.
use Rattle.std.specs.Prelude.{ℕ, ◌+◌, ◌*◌, ◌/◌, ◌%◌, Bool, cond, not, ◌&&◌, List, eqb, leb, ℤ, pos, length, get_or}
use Rattle.lists.specs.Tables.{tabulate, concat_to, overwrite}
use Rattle.refusal.specs.Outcome.{given, Filled, unfilled}
use Rattle.words.specs.Sample.{bits_of, sample_of}
use Rattle.words.specs.Words.{pair_bytes, pair_at}

-- the bytes of samples
unfoldable pub sample_bytes : List ℤ → List ℕ
sample_bytes samples = concat_to (length samples) (λ i. pair_bytes (bits_of (get_or samples i (pos 0))))

-- n samples from a place on
unfoldable pub samples_at : ℕ → List ℕ → ℕ → List ℤ
samples_at n bytes at = tabulate n (λ i. sample_of (pair_at bytes (at + 2 * i)))

-- writing samples: refused by 2 where the output is under two bytes for each; else the bytes written
unfoldable pub put_outcome : List ℤ → List ℕ → Filled ℕ
put_outcome samples out =
    cond (not (leb (2 * length samples) (length out))) (unfilled 2 out)
    (record { answer = given (2 * length samples); buffer = overwrite (sample_bytes samples) out })

-- two bytes for each sample, and an output that has room for the samples
abbrev pub samples_fit : ℕ → ℕ → Bool
samples_fit bytes out = eqb (bytes % 2) 0 && leb (bytes / 2) out

-- reading all samples of bytes: refused by 2 where a byte is left over or the output is too small; else the samples written
unfoldable pub get_outcome : List ℕ → List ℤ → Filled ℤ
get_outcome bytes out =
    cond (not (samples_fit (length bytes) (length out))) (unfilled 2 out)
    (record { answer = given (length bytes / 2); buffer = overwrite (samples_at (length bytes / 2) bytes 0) out })
