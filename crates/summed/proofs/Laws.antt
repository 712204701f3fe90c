-- Laws that the proofs of several functions cite: squares, powers added to a run, the count of the components before one, the highest bit as
-- a test, and the two runs. Assumes nothing.
use Rattle.std.proofs.Common.{◌≡◌, ℕ, suc, ◌+◌, ◌-◌, ◌*◌, ◌/◌, ◌%◌, ◌^◌, ◌<◌, ◌≤◌, Bool, true, false, ◌&&◌, ltb, leb, List, [], ◌++◌, length, get_or, take, drop, ℤ, pos, negsuc, ◌*ℤ◌, sym, refl, ap, ◌∙◌, subst, ap₂, append-nil, mod-lt, mul-le-mul, arith, length-drop, drop_of_length-le, take_all, pow_pos, w16, to_z, of_z, ltb-false, ltb-true, le-ltb, lt-ltb, leb-false, leb-true}
use mathlib.Core.Bool.{and_assoc}
use native.Mathlib.Decide.{dec_lt}
use lib.Bits.{bit_or, or_lt, or_add_and, and_le_l, and_le_r}
use lib.Count.{ones}
use lib.Pow.{field, mod-mod-pow}
use lib.Signed.{mag}
use mir.ValLaws.{to_z-of_z}
use Rattle.lists.specs.Bits.{bit}
use Rattle.lists.specs.Sums.{all_to}
use Rattle.lists.specs.Tables.{tabulate, overwrite}
use Rattle.lists.proofs.Bits.{ones-are-bits}
use Rattle.lists.proofs.Sums.{sum_to-ext, sum_to-bound}
use Rattle.lists.proofs.Tables.{length-tabulate}
use Rattle.lists.proofs.Overwriting.{overwrite-all}
use Rattle.lists.proofs.Runs.{all_to-next}
use Rattle.summed.specs.Component.{square, power}
use Rattle.summed.specs.Totals.{counted_before, added_run}

-- ---- squares

pub square-is : (z : ℤ) → z *ℤ z ≡ pos (square z)
square-is (pos n) = refl
square-is (negsuc n) = refl

pub square_le : (z : ℤ) → mag z < 32768 → square z ≤ 2 ^ 30
square_le (pos n) h =
    let below : n ≤ 32768 = omega arith in
    mul-le-mul {n₁ = n} {m₁ = n} {n₂ = 32768} {m₂ = 32768} below below
square_le (negsuc n) h = mul-le-mul {n₁ = suc n} {m₁ = suc n} {n₂ = 32768} {m₂ = 32768} h h

-- ---- powers added to a run, from its first total on

abbrev pub sum_at : List ℕ → List ℤ → ℕ → ℕ
sum_at run pairs k = get_or run k 0 + power pairs k

-- run with the first k powers added
abbrev pub added_to : ℕ → List ℕ → List ℤ → List ℕ
added_to k run pairs = overwrite (tabulate k (sum_at run pairs)) run

pub added-all : (k : ℕ) (run : List ℕ) (pairs : List ℤ) → k ≡ 1024 → length run ≡ 1024 → added_to k run pairs ≡ added_run run pairs
unfolding added_run
added-all k run pairs e long =
    ap (λ (n : ℕ). added_to n run pairs) e
    ∙ overwrite-all (tabulate 1024 (sum_at run pairs)) run (length-tabulate 1024 (sum_at run pairs) ∙ sym long)

-- the power of a bin from two numbers that a slice gave
pub power-is : (pairs : List ℤ) (k : ℕ) {a : ℕ} → mag (get_or pairs (2 * k) (pos 0)) < 32768 → mag (get_or pairs (2 * k + 1) (pos 0)) < 32768 →
    a ≡ square (to_z w16 (of_z w16 (get_or pairs (2 * k) (pos 0)))) + square (to_z w16 (of_z w16 (get_or pairs (2 * k + 1) (pos 0)))) → a ≡ power pairs k
power-is pairs k re im e =
    e ∙ ap₂ (λ (x y : ℤ). square x + square y) (to_z-of_z w16 (get_or pairs (2 * k) (pos 0)) (record { sfits = re })) (to_z-of_z w16 (get_or pairs (2 * k + 1) (pos 0)) (record { sfits = im }))

-- ---- the components before one

-- below bit n a number and its remainder by 2 ^ n have the same bits
low_bit : (x n j : ℕ) → j < n → bit (x % 2 ^ n) j ≡ bit x j
low_bit x n j h =
    let k = n - j - 1 in
    let e : n ≡ k + 1 + j = omega arith in
    ap (λ (m : ℕ). x % 2 ^ m / 2 ^ j % 2) e ∙ ap (λ (y : ℕ). y % 2) (field x (k + 1) j) ∙ mod-mod-pow (x / 2 ^ j) k 1

pub counted-ones : (mask n : ℕ) → ones (mask % 2 ^ n) ≡ counted_before mask n
unfolding counted_before
counted-ones mask n = ones-are-bits n (mask % 2 ^ n) (mod-lt mask (pow_pos n)) ∙ sum_to-ext n _ _ (λ j h. low_bit mask n j h)

pub counted-le : (mask n : ℕ) → counted_before mask n ≤ n
unfolding counted_before
counted-le mask n = omega (arith, sum_to-bound n (bit mask) 1 (λ j h. omega arith))

-- ---- the highest bit as a test

or-below : (k a b : ℕ) → ltb (bit_or a b) (2 ^ k) ≡ ltb a (2 ^ k) && ltb b (2 ^ k)
or-below k a b = by (ltb a (2 ^ k)) (ltb b (2 ^ k)) refl refl
  where
    by : (t u : Bool) → ltb a (2 ^ k) ≡ t → ltb b (2 ^ k) ≡ u → ltb (bit_or a b) (2 ^ k) ≡ t && u
    by true true e q = lt-ltb (bit_or a b) (2 ^ k) (or_lt k a b (ltb-true a (2 ^ k) e) (ltb-true b (2 ^ k) q))
    by true false e q = le-ltb (bit_or a b) (2 ^ k) (omega (arith, ltb-false b (2 ^ k) q, or_add_and a b, and_le_l a b))
    by false u e q = le-ltb (bit_or a b) (2 ^ k) (omega (arith, ltb-false a (2 ^ k) e, or_add_and a b, and_le_r a b))

-- where d is most - t in 64 bits, and most has 63: t is at most that exactly if neither has the highest bit
high_bit : (most t d : ℕ) → most < 2 ^ 63 → t < 2 ^ 64 → d < 2 ^ 64 → (d + t) % 2 ^ 64 ≡ most → ltb t (2 ^ 63) && ltb d (2 ^ 63) ≡ leb t most
high_bit most t d m h g e = by (leb t most) refl
  where
    over : (u : Bool) → ltb t (2 ^ 63) ≡ u → most < t → u && ltb d (2 ^ 63) ≡ false
    over true q p = le-ltb d (2 ^ 63) (omega (arith, ltb-true t (2 ^ 63) q))
    over false q p = refl

    by : (u : Bool) → leb t most ≡ u → ltb t (2 ^ 63) && ltb d (2 ^ 63) ≡ u
    by true q =
        let p : t ≤ most = leb-true t most q in
        simp (lt-ltb t (2 ^ 63) (omega arith), lt-ltb d (2 ^ 63) (omega arith))
    by false q = over (ltb t (2 ^ 63)) refl (leb-false t most q)

-- one total more
pub bits-more : (run : List ℕ) (most bits k d : ℕ) → most < 2 ^ 63 → get_or run k 0 < 2 ^ 64 → d < 2 ^ 64 → (d + get_or run k 0) % 2 ^ 64 ≡ most →
    ltb bits (2 ^ 63) ≡ all_to k (λ j. leb (get_or run j 0) most) →
    ltb (bit_or (bit_or bits (get_or run k 0)) d) (2 ^ 63) ≡ all_to (k + 1) (λ j. leb (get_or run j 0) most)
bits-more run most bits k d m h g e so_far =
    let t = get_or run k 0 in
    or-below 63 (bit_or bits t) d ∙ ap (λ (u : Bool). u && ltb d (2 ^ 63)) (or-below 63 bits t)
    ∙ and_assoc (ltb bits (2 ^ 63)) (ltb t (2 ^ 63)) (ltb d (2 ^ 63)) ∙ ap₂ ◌&&◌ so_far (high_bit most t d m h g e)
    ∙ sym (all_to-next (λ j. leb (get_or run j 0) most) k)

-- ---- the two runs of a list

-- what holds of the totals of both runs holds of all
pub by-run : (P : ℕ → Type 0) → ((k : ℕ) → k < 1024 → P k) → ((k : ℕ) → k < 1024 → P (1024 + k)) → (k : ℕ) → k < 2048 → P k
by-run P first second k h = by (dec_lt k 1024)
  where
    by : Dec (k < 1024) → P k
    by (yes q) = first k q
    by (no q) = let e : 1024 + (k - 1024) ≡ k = omega arith in subst P e (second (k - 1024) (omega arith))

-- all from place a on, as a range without an end gives it
pub from_on : (a : ℕ) (l : List ℕ) → take (length l - a) (drop a l) ≡ drop a l
from_on a l = take_all (length l - a) (drop a l) (omega (arith, length-drop a l))

-- the list after a call has left ys there
pub behind-put : (a : ℕ) (ys l : List ℕ) → take a l ++ (ys ++ drop (length l - a) (drop a l)) ≡ take a l ++ ys
behind-put a ys l =
    let none : drop (length l - a) (drop a l) ≡ [] = drop_of_length-le (drop a l) {i = length l - a} (omega (arith, length-drop a l)) in
    rw (none, append-nil)
