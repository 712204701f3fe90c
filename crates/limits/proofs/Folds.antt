-- Folds without an early exit: the bits of all entries joined are 0 exactly if each entry is. Assumes nothing.
use Prim.Native.Nat.{ℕ, zero, suc, ◌+◌, ◌-◌, ◌*◌, ◌≤◌, ◌<◌}
use mathlib.Core.Path.{◌≡◌, refl, sym, ap, ◌∙◌}
use mathlib.Core.Bool.{Bool, true, ◌&&◌}
use mathlib.Core.List.{List, []}
use native.Mathlib.Omega.{arith}
use native.Mathlib.Nat.{zero-mul, suc-mul, add_comm}
use lib.Bits.{bit_or, or_add_and, and_le_r}
use lib.Dec.{leb, eqb, leb-suc-zero, eqb-suc-zero}
use lib.ListN.{get_or, length, take, drop}
use lib.Seq.{take-length, drop-drop}
use borrow.Author.Tests.{lt-leb}
use Rattle.lists.specs.Sums.{all_to}
use Rattle.std.specs.List.{fold, list_all, zip}
use Rattle.std.specs.Simd.{first_chunks}
use Rattle.std.proofs.lemmas.List.Sums.{fold_more}
use Rattle.std.proofs.lemmas.List.Folds.{list_all_more}
use Rattle.std.proofs.lemmas.Slice.Zip.{length-zip, get_or-zip}
use Rattle.lists.proofs.Sums.{all_to-none, all_to-ext}
use Rattle.lists.proofs.Runs.{all_to-next}
use Rattle.lists.proofs.Overwriting.{part}
use Rattle.limits.specs.Private.{all_zero, all_within}

or-zero : (a b : ℕ) → leb (bit_or a b) 0 ≡ leb a 0 && leb b 0
or-zero zero b = refl
or-zero (suc a) b =
    let some : 0 < bit_or (suc a) b = omega (arith, or_add_and (suc a) b, and_le_r (suc a) b) in
    lt-leb (bit_or (suc a) b) 0 some ∙ sym (ap (λ (t : Bool). t && leb b 0) (leb-suc-zero a))

pub eqb-leb : (a : ℕ) → eqb a 0 ≡ leb a 0
eqb-leb zero = refl
eqb-leb (suc a) = eqb-suc-zero a ∙ sym (leb-suc-zero a)

pub zero_more : (l : List ℕ) (bits i : ℕ) → leb bits 0 ≡ all_to i (λ k. leb (get_or l k 0) 0) →
    leb (bit_or bits (get_or l i 0)) 0 ≡ all_to (i + 1) (λ k. leb (get_or l k 0) 0)
zero_more l bits i e =
    or-zero bits (get_or l i 0) ∙ ap (λ (t : Bool). t && leb (get_or l i 0) 0) e ∙ sym (all_to-next (λ k. leb (get_or l k 0) 0) i)

-- ---- all entries, from the fold over them

module _ {X : Type 0} (p : X → Bool) (xs : List X) (d : X) where
  list_all-to : (i : ℕ) → i ≤ length xs → list_all p (take i xs) ≡ all_to i (λ k. p (get_or xs k d))
  list_all-to zero h = sym (all_to-none _)
  list_all-to (suc i) h =
      let e : suc i ≡ i + 1 = omega arith in
      rw e (list_all_more p xs i d (omega arith) ∙ ap (λ (t : Bool). t && p (get_or xs i d)) (list_all-to i (omega arith)) ∙ sym (all_to-next (λ k. p (get_or xs k d)) i))

  pub list_all-all_to : list_all p xs ≡ all_to (length xs) (λ k. p (get_or xs k d))
  list_all-all_to = ap (list_all p) (sym (take-length xs)) ∙ list_all-to (length xs) (omega arith)

  fold-to : (i : ℕ) → i ≤ length xs → fold (λ t x. t && p x) true (take i xs) ≡ all_to i (λ k. p (get_or xs k d))
  fold-to zero h = sym (all_to-none _)
  fold-to (suc i) h =
      let e : suc i ≡ i + 1 = omega arith in
      rw e (fold_more (λ t x. t && p x) true xs i d (omega arith) ∙ ap (λ (t : Bool). t && p (get_or xs i d)) (fold-to i (omega arith)) ∙ sym (all_to-next (λ k. p (get_or xs k d)) i))

  pub fold-all_to : fold (λ t x. t && p x) true xs ≡ all_to (length xs) (λ k. p (get_or xs k d))
  fold-all_to = ap (fold (λ t x. t && p x) true) (sym (take-length xs)) ∙ fold-to (length xs) (omega arith)

module _ (l : List ℕ) where
  joined-to : (i : ℕ) → i ≤ length l → leb (fold bit_or 0 (take i l)) 0 ≡ all_to i (λ k. leb (get_or l k 0) 0)
  joined-to zero h = sym (all_to-none _)
  joined-to (suc i) h =
      let e : suc i ≡ i + 1 = omega arith in
      rw e (ap (λ (n : ℕ). leb n 0) (fold_more bit_or 0 l i 0 (omega arith)) ∙ zero_more l _ i (joined-to i (omega arith)))

  pub joined-zero : eqb (fold bit_or 0 l) 0 ≡ all_zero l
  unfolding all_zero
  joined-zero = eqb-leb (fold bit_or 0 l) ∙ ap (λ (x : List ℕ). leb (fold bit_or 0 x) 0) (sym (take-length l)) ∙ joined-to (length l) (omega arith)

-- each total beside its limit
abbrev pub pair : ℕ × ℕ → Bool
pair q = leb q.0 q.1

pub pairs-within : (totals limits : List ℕ) → length limits ≡ length totals → fold (λ t q. t && pair q) true (zip totals limits) ≡ all_within totals limits
unfolding all_within
pairs-within totals limits same =
    let long : length (zip totals limits) ≡ length totals = length-zip totals limits ∙ omega arith in
    fold-all_to pair (zip totals limits) (0, 0)
    ∙ ap (λ (n : ℕ). all_to n (λ k. pair (get_or (zip totals limits) k (0, 0)))) long
    ∙ all_to-ext (length totals) _ _ (λ k h. ap pair (get_or-zip totals limits k (0, 0) h (omega arith)))

-- row i of rows of n entries
pub chunk-at : {X : Type 0} (n k : ℕ) (xs : List X) (i : ℕ) → i < k → get_or (first_chunks n k xs) i [] ≡ part xs (i * n) n
chunk-at n k xs i h =
    let e : n ≡ i * n + n - i * n = omega arith in
    chunk-in n k xs i h ∙ ap (λ (m : ℕ). take m (drop (i * n) xs)) e
  where
    chunk-in : {X : Type 0} (n k : ℕ) (xs : List X) (i : ℕ) → i < k → get_or (first_chunks n k xs) i [] ≡ take n (drop (i * n) xs)
    chunk-in n zero xs i h = absurd (omega arith)
    chunk-in n (suc k) xs zero h = ap (λ (m : ℕ). take n (drop m xs)) (sym (zero-mul n))
    chunk-in n (suc k) xs (suc i) h =
        let less : i < k = omega arith in
        chunk-in n k (drop n xs) i less ∙ ap (take n) (drop-drop (i * n) n xs) ∙ ap (λ (m : ℕ). take n (drop m xs)) (add_comm n (i * n) ∙ sym (suc-mul i n))
