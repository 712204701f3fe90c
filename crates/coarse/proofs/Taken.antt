-- Totals that are not over 2 ^ 49, in a list and in a part of it. Assumes nothing.
use Prim.Native.Nat.{ℕ, zero, suc, ◌+◌, ◌^◌, ◌≤◌, ◌<◌}
use mathlib.Core.Path.{◌≡◌, refl, sym, ap, ◌∙◌}
use mathlib.Core.Bool.{Bool, true, false, ◌&&◌}
use mathlib.Core.List.{List, [], ◌∷◌}
use native.Mathlib.Omega.{arith}
use borrow.Author.Tests.{leb-true, le-leb}
use lib.Dec.{leb}
use lib.ListN.{length, get_or}
use Rattle.std.specs.Prelude.{sum}
use Rattle.std.specs.List.{list_all, fold}
use Rattle.lists.specs.Sums.{all_to, sum_to}
use Rattle.lists.proofs.Sums.{all_to-of, all_to-at, sum_to-bound}
use Rattle.lists.proofs.Overwriting.{part, length_part, get_d_part}
use Rattle.coarse.specs.Coarse.{fine_total, totals_taken}

pub taken-le : (l : List ℕ) → totals_taken l ≡ true → (i : ℕ) → i < length l → fine_total l i ≤ 2 ^ 49
unfolding totals_taken
taken-le l t i h = leb-true (fine_total l i) (2 ^ 49) (all_to-at (length l) _ t i h)

pub taken-part : (l : List ℕ) (a n : ℕ) → a + n ≤ length l → totals_taken l ≡ true → totals_taken (part l a n) ≡ true
unfolding totals_taken
taken-part l a n h t =
    all_to-of (length (part l a n)) _ (λ i k.
    let short : i < n = omega (arith, length_part l a n h) in
    le-leb (fine_total (part l a n) i) (2 ^ 49) (omega (arith, get_d_part l a n i 0 short, taken-le l t (a + i) (omega arith))))

-- ---- the same, element by element

all-first : (n : ℕ) (f : ℕ → Bool) → all_to (suc n) f ≡ (f 0 && all_to n (λ i. f (suc i)))
unfolding all_to
all-first zero f = and-true (f 0)
  where
    and-true : (t : Bool) → t ≡ (t && true)
    and-true true = refl
    and-true false = refl
all-first (suc n) f = ap (λ (t : Bool). t && f (suc n)) (all-first n f) ∙ and-assoc (f 0) _ _
  where
    and-assoc : (a b c : Bool) → ((a && b) && c) ≡ (a && (b && c))
    and-assoc true b c = refl
    and-assoc false b c = refl

pub taken-listed : (fine : List ℕ) → list_all (λ total. leb total (2 ^ 49)) fine ≡ totals_taken fine
unfolding totals_taken all_to
taken-listed [] = refl
taken-listed (x ∷ l) = ap (λ (t : Bool). leb x (2 ^ 49) && t) (taken-listed l) ∙ sym (all-first (length l) (λ i. leb (fine_total (x ∷ l) i) (2 ^ 49)))

sum-first : (n : ℕ) (f : ℕ → ℕ) → sum_to (suc n) f ≡ f 0 + sum_to n (λ i. f (suc i))
unfolding sum_to
sum-first zero f = omega arith
sum-first (suc n) f = omega (arith, sum-first n f)

fold-from : (a : ℕ) (l : List ℕ) → fold ◌+◌ a l ≡ a + fold ◌+◌ 0 l
fold-from a [] = omega arith
fold-from a (x ∷ l) = omega (arith, fold-from (a + x) l, fold-from (0 + x) l)

pub sum-listed : (run : List ℕ) → sum run ≡ sum_to (length run) (λ j. get_or run j 0)
unfolding sum_to
sum-listed [] = refl
sum-listed (x ∷ l) =
    let f : ℕ → ℕ = λ j. get_or (x ∷ l) j 0 in
    omega (arith, fold-from (0 + x) l, sum-listed l, sum-first (length l) f)

-- at most 4 totals that are taken
pub sum-small : (run : List ℕ) → length run ≤ 4 → totals_taken run ≡ true → sum run ≤ 2 ^ 51
sum-small run few taken =
    omega (arith, sum-listed run, sum_to-bound (length run) (λ j. get_or run j 0) (2 ^ 49) (λ j h. taken-le run taken j h))
