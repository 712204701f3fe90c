-- Laws of lists that are written from the front, and of packed words.
use Prim.Native.Nat.{ℕ, zero, suc, ◌+◌, ◌*◌, ◌/◌, ◌<◌}
use mathlib.Core.Path.{◌≡◌, refl, ap, sym, ◌∙◌}
use mathlib.Core.Bool.{Bool, true, false, ◌&&◌, and-false, and-true, and_assoc}
use mathlib.Core.List.{List, [], ◌∷◌, ◌++◌}
use native.Mathlib.Numerals.{add-one}
use native.Mathlib.Nat.{add-zero}
use native.Mathlib.Omega.{arith}
use lib.Dec.{eqb}
use lib.IntN.{ℤ, pos}
use lib.ListN.{length, get_or, take, drop}
use lib.Seq.{get_or-drop, take-suc}
use Rattle.words.specs.Sample.{bits_of, sample_of}
use Rattle.words.specs.Words.{word_bytes}
use Rattle.sets.specs.Sets.{packed_bytes, every_apid, samples_of}

packed-snoc : (apid : ℕ) (xs : List ℤ) (z : ℤ) → packed_bytes apid (xs ++ (z ∷ [])) ≡ packed_bytes apid xs ++ word_bytes apid (bits_of z)
unfolding packed_bytes
packed-snoc apid [] z = refl
packed-snoc apid (x ∷ xs) z = ap (λ (l : List ℕ). word_bytes apid (bits_of x) ++ l) (packed-snoc apid xs z)

pub packed-length : (apid : ℕ) (xs : List ℤ) → length (packed_bytes apid xs) ≡ 3 * length xs
unfolding packed_bytes
packed-length apid [] = refl
packed-length apid (x ∷ xs) = let e = packed-length apid xs in omega arith

-- one sample more
pub packed_more : (apid : ℕ) (samples : List ℤ) (i : ℕ) → i < length samples
    → packed_bytes apid (take (i + 1) samples) ≡ packed_bytes apid (take i samples) ++ word_bytes apid (bits_of (get_or samples i (pos 0)))
packed_more apid samples i h = rw (add-one, take-suc samples i (pos 0)) (packed-snoc apid (take i samples) (get_or samples i (pos 0)))

-- the sample and the APID of word i
abbrev pub sample_at : List ℕ → ℕ → ℤ
sample_at bytes i = sample_of (get_or bytes (3 * i + 1) 0 * 256 + get_or bytes (3 * i + 2) 0)

pub samples-length : (n : ℕ) (bytes : List ℕ) → length (samples_of n bytes) ≡ n
unfolding samples_of
samples-length zero bytes = refl
samples-length (suc n) bytes = ap suc (samples-length n (drop 3 bytes))

-- what stands k places into word i + 1 stands so in word i of the rest
word_on : (bytes : List ℕ) (i k : ℕ) → get_or (drop 3 bytes) (3 * i + k) 0 ≡ get_or bytes (3 * suc i + k) 0
word_on bytes i k =
    let e : 3 * suc i + k ≡ 3 + (3 * i + k) = omega arith in
    rw e (get_or-drop 3 bytes (3 * i + k) 0)

-- one word more
samples-snoc : (i : ℕ) (bytes : List ℕ) → samples_of (suc i) bytes ≡ samples_of i bytes ++ (sample_at bytes i ∷ [])
unfolding samples_of
samples-snoc zero bytes = refl
samples-snoc (suc i) bytes =
    ap (λ (l : List ℤ). sample_of (get_or bytes 1 0 * 256 + get_or bytes 2 0) ∷ l) (samples-snoc i (drop 3 bytes) ∙ simp (word_on bytes i 1, word_on bytes i 2))

pub samples-more : (i : ℕ) (bytes : List ℕ) → samples_of (i + 1) bytes ≡ samples_of i bytes ++ (sample_at bytes i ∷ [])
samples-more i bytes = rw (add-one i) (samples-snoc i bytes)

first_on : (bytes : List ℕ) (i : ℕ) → get_or (drop 3 bytes) (3 * i) 0 ≡ get_or bytes (3 * suc i) 0
first_on bytes i = simp add-zero at (word_on bytes i 0)

-- the words of bytes that are three for each of so many
pub whole_words : (bytes : List ℕ) (n : ℕ) → length bytes ≡ 3 * n → length bytes / 3 ≡ n
whole_words bytes n e = omega (arith, e)

pub every-stop : (apid n i : ℕ) (bytes : List ℕ) → i < n → eqb (get_or bytes (3 * i) 0) apid ≡ false → every_apid apid n bytes ≡ false
unfolding every_apid
every-stop apid zero i bytes h e = absurd (omega arith)
every-stop apid (suc n) zero bytes h e = simp e
every-stop apid (suc n) (suc i) bytes h e = simp (every-stop apid n i (drop 3 bytes) (omega arith) (rw (first_on bytes i) e), and-false)

every-snoc : (apid i : ℕ) (bytes : List ℕ) → every_apid apid (suc i) bytes ≡ (every_apid apid i bytes && eqb (get_or bytes (3 * i) 0) apid)
unfolding every_apid
every-snoc apid zero bytes = and-true (eqb (get_or bytes 0 0) apid)
every-snoc apid (suc i) bytes =
    ap (λ (b : Bool). eqb (get_or bytes 0 0) apid && b) (every-snoc apid i (drop 3 bytes) ∙ simp (first_on bytes i))
    ∙ sym (and_assoc (eqb (get_or bytes 0 0) apid) (every_apid apid i (drop 3 bytes)) (eqb (get_or bytes (3 * suc i) 0) apid))

pub every_more : (apid i : ℕ) (bytes : List ℕ) → every_apid apid i bytes ≡ true → eqb (get_or bytes (3 * i) 0) apid ≡ true → every_apid apid (i + 1) bytes ≡ true
every_more apid i bytes e h = rw add-one (every-snoc apid i bytes ∙ simp (e, h))
