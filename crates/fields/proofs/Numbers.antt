-- Numbers of n bytes, once over n: the bytes of a number have it, and the number of bytes has them. Assumes nothing.
use Prim.Native.Nat.{ℕ, zero, suc, ◌+◌, ◌*◌, ◌/◌, ◌%◌, ◌^◌, ◌≤◌, ◌<◌}
use mathlib.Core.Path.{◌≡◌, refl, sym, ap, ap₂, subst, ◌∙◌}
use mathlib.Core.List.{List, [], ◌∷◌, ◌++◌, append_assoc}
use native.Mathlib.Nat.{add-zero, zero-add, zero-lt-suc, pow-suc, div-lt_iff_lt-mul, div-add-mod', mod-eq_of_lt}
use native.Mathlib.Omega.{arith}
use lib.Arith.{lt-one, digits_lt, digits_div, digits_mod}
use lib.ListN.{length, get_or, take, drop, length-append, length-drop}
use lib.Seq.{take-suc, get_or-drop, get_or-append-add, get_or_at}
use Rattle.words.specs.Words.{AreBytes, pair_bytes, pair_at}
use Rattle.fields.specs.Fields.{number_at, number_bytes}

pub byte_at : (bytes : List ℕ) → AreBytes bytes → (i : ℕ) → get_or bytes i 0 < 256
byte_at [] h i = zero-lt-suc 255
byte_at (b ∷ bytes) h zero = h.0
byte_at (b ∷ bytes) h (suc i) = byte_at bytes h.1 i

number_behind : (n : ℕ) (a b : List ℕ) (at : ℕ) → number_at n (a ++ b) (length a + at) ≡ number_at n b at
number_behind zero a b at = refl
number_behind (suc n) a b at =
    let e : length a + at + n ≡ length a + (at + n) = omega arith in
    ap₂ (λ (x y : ℕ). x * 256 + y) (number_behind n a b at) (ap (λ (i : ℕ). get_or (a ++ b) i 0) e ∙ get_or-append-add a b (at + n) 0)

pub length-number : (n x : ℕ) → length (number_bytes n x) ≡ n
length-number zero x = refl
length-number (suc n) x = length-append (number_bytes n (x / 256)) (x % 256 ∷ []) ∙ omega (arith, length-number n (x / 256))

number-front : (n x : ℕ) (rest : List ℕ) → x < 256 ^ n → number_at n (number_bytes n x ++ rest) 0 ≡ x
number-front zero x rest h = sym (lt-one h)
number-front (suc n) x rest h =
    let high : x / 256 < 256 ^ n = (div-lt_iff_lt-mul (zero-lt-suc 255)).1 (subst (λ (p : ℕ). x < p) (pow-suc 256 n) h) in
    ap (λ (l : List ℕ). number_at (suc n) l 0) (append_assoc (number_bytes n (x / 256)) (x % 256 ∷ []) rest)
    ∙ ap₂ (λ (q r : ℕ). q * 256 + r) (number-front n (x / 256) (x % 256 ∷ rest) high)
    (get_or_at (number_bytes n (x / 256)) (x % 256) rest 0 (0 + n) (length-number n (x / 256) ∙ sym (zero-add n)))
    ∙ div-add-mod' x 256

pub number-returns : (n x : ℕ) (before rest : List ℕ) → x < 256 ^ n → number_at n (before ++ (number_bytes n x ++ rest)) (length before) ≡ x
number-returns n x before rest h =
    ap (number_at n (before ++ (number_bytes n x ++ rest))) (sym (add-zero (length before))) ∙ number_behind n before (number_bytes n x ++ rest) 0
    ∙ number-front n x rest h

pub bytes-return : (n : ℕ) (bytes : List ℕ) (at : ℕ) → AreBytes bytes → at + n ≤ length bytes → number_bytes n (number_at n bytes at) ≡ take n (drop at bytes)
bytes-return zero bytes at are h = refl
bytes-return (suc n) bytes at are h =
    let m = number_at n bytes at in
    let b = get_or bytes (at + n) 0 in
    let small : b < 256 = byte_at bytes are (at + n) in
    let last : n < length (drop at bytes) = omega (arith, length-drop at bytes) in
    ap₂ (λ (q r : ℕ). number_bytes n q ++ (r ∷ [])) (digits_div m small) (digits_mod m small)
    ∙ ap₂ (λ (l : List ℕ) (x : ℕ). l ++ (x ∷ [])) (bytes-return n bytes at are (omega arith)) (sym (get_or-drop at bytes n 0))
    ∙ sym (take-suc (drop at bytes) n 0 last)

-- a number that was read fits its bytes
pub number_lt : (n : ℕ) (bytes : List ℕ) (at : ℕ) → AreBytes bytes → number_at n bytes at < 256 ^ n
number_lt zero bytes at are = zero-lt-suc 0
number_lt (suc n) bytes at are =
    subst (λ (p : ℕ). number_at (suc n) bytes at < p) (sym (pow-suc 256 n)) (digits_lt (number_lt n bytes at are) (byte_at bytes are (at + n)))

-- numbers of one, two and four bytes
pub byte-number : (bytes : List ℕ) (at : ℕ) → number_at 1 bytes at ≡ get_or bytes at 0
byte-number bytes at = ap (λ (i : ℕ). 0 + get_or bytes i 0) (add-zero at) ∙ zero-add (get_or bytes at 0)

pub pair-number : (bytes : List ℕ) (at : ℕ) → number_at 2 bytes at ≡ pair_at bytes at
pair-number bytes at = ap (λ (x : ℕ). x * 256 + get_or bytes (at + 1) 0) (byte-number bytes at)

pub quad-number : (bytes : List ℕ) (at : ℕ) → number_at 4 bytes at ≡ pair_at bytes at * 65536 + pair_at bytes (at + 2)
quad-number bytes at =
    let e : at + 2 + 1 ≡ at + 3 = omega arith in
    let low : get_or bytes (at + 2 + 1) 0 ≡ get_or bytes (at + 3) 0 = ap (λ (i : ℕ). get_or bytes i 0) e in
    ap (λ (x : ℕ). (x * 256 + get_or bytes (at + 2) 0) * 256 + get_or bytes (at + 3) 0) (pair-number bytes at) ∙ omega (arith, low)

-- and their bytes
pub byte-bytes : (x : ℕ) → x < 256 → x ∷ [] ≡ number_bytes 1 x
byte-bytes x h = ap (λ (b : ℕ). b ∷ []) (sym (mod-eq_of_lt h))

pub pair-bytes : (x : ℕ) → x < 65536 → pair_bytes x ≡ number_bytes 2 x
pair-bytes x h =
    let e : x / 256 ≡ x / 256 % 256 = omega arith in
    ap (λ (b : ℕ). b ∷ x % 256 ∷ []) e

pub quad-bytes : (x : ℕ) → x < 4294967296 → x / 16777216 ∷ x / 65536 % 256 ∷ x / 256 % 256 ∷ x % 256 ∷ [] ≡ number_bytes 4 x
quad-bytes x h =
    let e : x / 16777216 ≡ x / 256 / 256 / 256 % 256 = omega arith in
    let f : x / 65536 % 256 ≡ x / 256 / 256 % 256 = omega arith in
    ap₂ (λ (a b : ℕ). a ∷ b ∷ x / 256 % 256 ∷ x % 256 ∷ []) e f
