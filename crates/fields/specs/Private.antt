-- What private functions of samples give. No public contract cites this file.
use Rattle.std.specs.Prelude.{ℕ, ◌+◌, ◌*◌, ◌/◌, ◌%◌, List, get_or}
use Rattle.words.specs.Words.{pair_of}

-- 16 bits with their two bytes exchanged
abbrev pub exchanged_bits : ℕ → ℕ
exchanged_bits bits = pair_of (bits % 256) (bits / 256)

-- the 16 bits at the place of sample i, low byte first
abbrev pub low_first_at : List ℕ → ℕ → ℕ
low_first_at bytes i = pair_of (get_or bytes (2 * i + 1) 0) (get_or bytes (2 * i) 0)
