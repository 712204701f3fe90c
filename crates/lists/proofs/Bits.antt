-- The count of ones of a number, once over its width: the number of its bits that are one. Assumes nothing.
use Prim.Native.Nat.{ℕ, zero, suc, ◌+◌, ◌/◌, ◌%◌, ◌^◌, ◌<◌}
use mathlib.Core.Path.{◌≡◌, sym, ap, ap₂, subst, ◌∙◌}
use native.Mathlib.Nat.{zero-lt-suc, pow-suc, pow-succ', div-lt_iff_lt-mul, div-div-eq-div-mul}
use native.Mathlib.Omega.{arith}
use lib.Arith.{lt-one}
use lib.Count.{ones, ones_step}
use Rattle.lists.specs.Sums.{sum_to}
use Rattle.lists.specs.Bits.{bit}
use Rattle.lists.specs.Claims.{OnesAreBits}
use Rattle.lists.proofs.Sums.{sum_to-add, sum_to-ext}

-- bit j of the half is bit j + 1
half-bit : (n j : ℕ) → bit (n / 2) j ≡ bit n (1 + j)
half-bit n j =
    let e : 1 + j ≡ suc j = omega arith in
    ap (λ (x : ℕ). x % 2) (div-div-eq-div-mul n 2 (2 ^ j) ∙ ap (λ (p : ℕ). n / p) (sym (pow-succ' 2 j)) ∙ ap (λ (i : ℕ). n / 2 ^ i) (sym e))

pub ones-are-bits : OnesAreBits
unfolding sum_to ones
ones-are-bits zero n h = ap ones (lt-one h)
ones-are-bits (suc k) n h =
    let half : n / 2 < 2 ^ k = (div-lt_iff_lt-mul (zero-lt-suc 1)).1 (subst (λ (p : ℕ). n < p) (pow-suc 2 k) h) in
    let e : 1 + k ≡ suc k = omega arith in
    let low : n % 2 ≡ sum_to 1 (bit n) = omega arith in
    ones_step n ∙ ap₂ ◌+◌ low (ones-are-bits k (n / 2) half ∙ sum_to-ext k _ _ (λ j l. half-bit n j))
    ∙ sym (sum_to-add (bit n) 1 k) ∙ ap (λ (m : ℕ). sum_to m (bit n)) e
