-- Board words (01, "Words and sets"): an APID and 16 bits; and the words of a set.
use Rattle.std.specs.Prelude.{ℕ, zero, suc, ◌+◌, ◌*◌, ◌/◌, ◌%◌, ◌<◌, Bool, cond, ◌||◌, List, [], ◌∷◌, eqb, get_or}
use Rattle.refusal.specs.Outcome.{Outcome, given, refused, is_given}

-- the words of a set, by its waveform APID: E_SVY, V_SVY, MAG_SVY, E_B1, V_B1 (7, as 02, ticket 2, says), SCM_B1; refused by 4 for any other, 0x4E too
unfoldable pub set_size : ℕ → Outcome ℕ
set_size apid =
    cond (eqb apid 0x43) (given 3)
    (cond (eqb apid 0x44) (given 7)
    (cond (eqb apid 0x45) (given 3)
    (cond (eqb apid 0x46) (given 3)
    (cond (eqb apid 0x47) (given 7)
    (cond (eqb apid 0x48) (given 3)
    (refused 4))))))

-- an APID that is kept: a waveform's, or SPEC, 0x4E
abbrev pub is_apid : ℕ → Bool
is_apid apid = eqb apid 0x4E || is_given (set_size apid)

-- bytes, as every list of `u8` is
abbrev pub AreBytes : List ℕ → Type 0
AreBytes [] = Unit {0}
AreBytes (b ∷ bs) = (b < 256) × AreBytes bs

-- 16 bits as two bytes, high byte first, and back
abbrev pub pair_bytes : ℕ → List ℕ
pair_bytes bits = bits / 256 ∷ bits % 256 ∷ []

abbrev pub pair_of : ℕ → ℕ → ℕ
pair_of high low = high * 256 + low

-- a word: the APID, then its 16 bits
abbrev pub word_bytes : ℕ → ℕ → List ℕ
word_bytes apid bits = apid ∷ pair_bytes bits

-- the 16 bits of the two bytes from a place on
abbrev pub pair_at : List ℕ → ℕ → ℕ
pair_at bytes at = pair_of (get_or bytes at 0) (get_or bytes (at + 1) 0)

-- the 16 bits of each of n words that stand `stride` bytes apart, those of the first at a place: 3 bytes in a report, 4 in the log
unfoldable pub bits_from : ℕ → List ℕ → ℕ → ℕ → List ℕ
bits_from stride bytes at zero = []
bits_from stride bytes at (suc n) = pair_at bytes at ∷ bits_from stride bytes (at + stride) n
