-- The search for the first of the greatest: what it has found after i steps, where each number j below n has a worth and a worth of 0
-- does not count. Assumes nothing.
use Prim.Native.Nat.{ℕ, zero, suc, ◌+◌, ◌≤◌, ◌<◌}
use mathlib.Core.Path.{◌≡◌, refl, sym, subst, subst₂}
use native.Mathlib.Nat.{not-suc-le-zero}
use native.Mathlib.Omega.{arith}
use native.Mathlib.Numerals.{add-one}
use borrow.Author.Count.{below_more}
use borrow.Author.Tests.{ltb-true, ltb-false}
use lib.Dec.{ltb}
use Rattle.lists.proofs.Choices.{by_cases}

pub record Best (n : ℕ) (worth : ℕ → ℕ) (i place top : ℕ) : Type 0 where
  pub most : (j : ℕ) → j < i → worth j ≤ top
  pub nothing : top ≡ 0 → place ≡ n
  pub here : 0 < top → (place < i) × (worth place ≡ top)
  pub before : 0 < top → (j : ℕ) → j < place → worth j < top

pub best_none : (n : ℕ) (worth : ℕ → ℕ) → Best n worth 0 n 0
best_none n worth =
    record {
      most = λ j l. absurd (not-suc-le-zero l);
      nothing = λ e. refl;
      here = λ l. absurd (omega arith);
      before = λ l. absurd (omega arith);
    }

-- one more step, at a number that is worth more
pub best-more : (n : ℕ) (worth : ℕ → ℕ) (i place top : ℕ) → Best n worth i place top → {place' top' : ℕ} → place' ≡ i → top' ≡ worth i →
    top < worth i → Best n worth (i + 1) place' top'
best-more n worth i place top b p t l =
    subst₂ (Best n worth (i + 1)) (sym p) (sym t)
    (record {
      most = below_more _ i (λ j h. omega (arith, b.most j h)) (omega arith);
      nothing = λ e. absurd (omega arith);
      here = λ h. (omega arith, refl);
      before = λ h j k. omega (arith, b.most j k);
    })

-- one more step, at a number that is not
pub best-same : (n : ℕ) (worth : ℕ → ℕ) (i place top : ℕ) → Best n worth i place top → {place' top' : ℕ} → place' ≡ place → top' ≡ top →
    worth i ≤ top → Best n worth (i + 1) place' top'
best-same n worth i place top b p t l =
    subst₂ (Best n worth (i + 1)) (sym p) (sym t)
    (record {
      most = below_more _ i b.most l;
      nothing = b.nothing;
      here = λ h. (omega (arith, b.here h), (b.here h).1);
      before = b.before;
    })

-- the search finds something
pub best : (n : ℕ) (worth : ℕ → ℕ) (i : ℕ) → (place : ℕ) × (top : ℕ) × Best n worth i place top
best n worth zero = (n, 0, best_none n worth)
best n worth (suc i) =
    let (place, top, b) = best n worth i in
    by_cases (ltb top (worth i))
    (λ t. (i, worth i, subst (λ (k : ℕ). Best n worth k i (worth i)) (add-one i) (best-more n worth i place top b refl refl (ltb-true top (worth i) t))))
    (λ t. (place, top, subst (λ (k : ℕ). Best n worth k place top) (add-one i) (best-same n worth i place top b refl refl (ltb-false top (worth i) t))))
