-- Laws of the 16 bits of words that stand equally far apart: the first of them, two parts, and words in one part of the bytes. Assumes
-- nothing.
use mathlib.Core.List.{List, [], ◌∷◌, ◌++◌}
use mathlib.Core.Path.{◌≡◌, refl, ap, ap₂, ◌∙◌}
use Prim.Native.Nat.{ℕ, zero, suc, ◌+◌, ◌*◌, ◌≤◌}
use native.Mathlib.Nat.{mul-add, mul-one, mul-suc, mul-zero}
use native.Mathlib.Omega.{arith}
use lib.ListN.{length, get_or, get_or-append}
use lib.Seq.{get_or-append-add}
use Rattle.words.specs.Words.{pair_of, pair_at, bits_from}

module _ (stride : ℕ) (bytes : List ℕ) where
  pub bits_none : (at : ℕ) → bits_from stride bytes at 0 ≡ []
  unfolding bits_from
  bits_none at = refl

  pub bits-first : (at n : ℕ) → bits_from stride bytes at (suc n) ≡ pair_at bytes at ∷ bits_from stride bytes (at + stride) n
  unfolding bits_from
  bits-first at n = refl

  pub bits-length : (at n : ℕ) → length (bits_from stride bytes at n) ≡ n
  unfolding bits_from
  bits-length at zero = refl
  bits-length at (suc n) = ap suc (bits-length (at + stride) n)

  pub bits-parts : (at n m : ℕ) → bits_from stride bytes at (n + m) ≡ bits_from stride bytes at n ++ bits_from stride bytes (at + stride * n) m
  unfolding bits_from
  bits-parts at zero m =
      let a : at ≡ at + stride * zero = omega (arith, mul-zero stride) in
      let b : zero + m ≡ m = omega arith in
      ap₂ (bits_from stride bytes) a b
  bits-parts at (suc n) m =
      let b : suc n + m ≡ suc (n + m) = omega arith in
      let s : suc n ≡ 1 + n = omega arith in
      let d : stride * suc n ≡ stride + stride * n = ap (λ (x : ℕ). stride * x) s ∙ mul-add stride 1 n ∙ ap (λ (x : ℕ). x + stride * n) (mul-one stride) in
      let a : at + stride + stride * n ≡ at + stride * suc n = omega (arith, d) in
      ap (bits_from stride bytes at) b
      ∙ ap (λ (l : List ℕ). pair_at bytes at ∷ l) (bits-parts (at + stride) n m)
      ∙ ap (λ (p : ℕ). pair_at bytes at ∷ (bits_from stride bytes (at + stride) n ++ bits_from stride bytes p m)) a

-- bytes put one after the other: words that lie in the first part, and words behind it
module _ (stride : ℕ) (a b : List ℕ) where
  pub bits-front : 3 ≤ stride → (at n : ℕ) → at + stride * n ≤ length a + 1 → bits_from stride (a ++ b) at n ≡ bits_from stride a at n
  unfolding bits_from
  bits-front wide at zero h = refl
  bits-front wide at (suc n) h =
      let d : stride * suc n ≡ stride * n + stride = mul-suc stride n in
      ap₂ (λ (p : ℕ) (l : List ℕ). p ∷ l)
      (ap₂ pair_of (get_or-append a b 0 at (omega arith)) (get_or-append a b 0 (at + 1) (omega arith)))
      (bits-front wide (at + stride) n (omega arith))

  pub bits-behind : (at n : ℕ) → bits_from stride (a ++ b) (length a + at) n ≡ bits_from stride b at n
  unfolding bits_from
  bits-behind at zero = refl
  bits-behind at (suc n) =
      let next : length a + at + 1 ≡ length a + (at + 1) = omega arith in
      let far : length a + at + stride ≡ length a + (at + stride) = omega arith in
      ap₂ (λ (p : ℕ) (l : List ℕ). p ∷ l)
      (ap₂ pair_of (get_or-append-add a b at 0) (ap (λ (i : ℕ). get_or (a ++ b) i 0) next ∙ get_or-append-add a b (at + 1) 0))
      (ap (λ (i : ℕ). bits_from stride (a ++ b) i n) far ∙ bits-behind (at + stride) n)
