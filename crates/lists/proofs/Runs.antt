-- A run of entries behind another run: of tests, of a table, of a concatenation, and of a table that is written over a list. Assumes nothing.
use Prim.Native.Nat.{ℕ, zero, suc, ◌+◌, ◌*◌}
use mathlib.Core.Path.{◌≡◌, sym, ap, ◌∙◌}
use mathlib.Core.Bool.{Bool, ◌&&◌, and-true, and_assoc}
use mathlib.Core.List.{List, [], ◌∷◌, ◌++◌, append_assoc, append-nil}
use native.Mathlib.Nat.{add-zero, add-suc, zero-mul, suc-mul}
use native.Mathlib.Numerals.{add-one}
use lib.ListN.{take, drop}
use Rattle.lists.specs.Sums.{all_to}
use Rattle.lists.specs.Tables.{tabulate, concat_to, overwrite}
use Rattle.lists.proofs.Tables.{length-tabulate}
use Rattle.lists.proofs.Overwriting.{overwrite-part}

-- one test more, a run of tests more, and rows of one width
pub all_to-next : (f : ℕ → Bool) (i : ℕ) → all_to (i + 1) f ≡ all_to i f && f i
unfolding all_to
all_to-next f i = rw add-one

pub all_to-add : (f : ℕ → Bool) (a n : ℕ) → all_to (a + n) f ≡ all_to a f && all_to n (λ j. f (a + j))
unfolding all_to
all_to-add f a zero = rw (add-zero a) (sym (and-true (all_to a f)))
all_to-add f a (suc n) =
    rw add-suc (ap (λ (t : Bool). t && f (a + n)) (all_to-add f a n) ∙ and_assoc (all_to a f) (all_to n (λ j. f (a + j))) (f (a + n)))

pub all_to-grid : (f : ℕ → Bool) (rows width : ℕ) → all_to (rows * width) f ≡ all_to rows (λ n. all_to width (λ b. f (n * width + b)))
unfolding all_to
all_to-grid f zero width = rw (zero-mul width)
all_to-grid f (suc rows) width =
    rw (suc-mul rows width) (all_to-add f (rows * width) width ∙ ap (λ (t : Bool). t && all_to width (λ b. f (rows * width + b))) (all_to-grid f rows width))

module _ {A : Type 0} where
  pub tabulate-add : (f : ℕ → A) (a n : ℕ) → tabulate (a + n) f ≡ tabulate a f ++ tabulate n (λ j. f (a + j))
  unfolding tabulate
  tabulate-add f a zero = rw (add-zero a) (sym (append-nil (tabulate a f)))
  tabulate-add f a (suc n) =
      rw add-suc (ap (λ (l : List A). l ++ (f (a + n) ∷ [])) (tabulate-add f a n) ∙ append_assoc (tabulate a f) (tabulate n (λ j. f (a + j))) (f (a + n) ∷ []))

  pub concat_to-add : (f : ℕ → List A) (a n : ℕ) → concat_to (a + n) f ≡ concat_to a f ++ concat_to n (λ j. f (a + j))
  unfolding concat_to
  concat_to-add f a zero = rw (add-zero a) (sym (append-nil (concat_to a f)))
  concat_to-add f a (suc n) =
      rw add-suc (ap (λ (l : List A). l ++ f (a + n)) (concat_to-add f a n) ∙ append_assoc (concat_to a f) (concat_to n (λ j. f (a + j))) (f (a + n)))

  -- the first entries of a table stand over l, and the n behind them take their place
  pub table-run : (f : ℕ → A) (l : List A) (a n m : ℕ) (l' ys : List A) → l' ≡ overwrite (tabulate a f) l →
      ys ≡ tabulate n (λ j. f (a + j)) → m ≡ n → take a l' ++ (ys ++ drop m (drop a l')) ≡ overwrite (tabulate (a + n) f) l
  table-run f l a n m l' ys e q p =
      rw (e, q, p, tabulate-add f a n) (overwrite-part (tabulate a f) (tabulate n (λ j. f (a + j))) l a n (length-tabulate a f) (length-tabulate n _))
