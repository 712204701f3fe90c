-- Sums of which one term changes, and one term of a sum. Assumes nothing.
use Prim.Native.Nat.{ℕ, zero, suc, ◌+◌, ◌≤◌, ◌<◌}
use mathlib.Core.Path.{◌≡◌, ap}
use mathlib.Core.Logic.{⊎_elim}
use native.Mathlib.Nat.{not-suc-le-zero, le_of_suc-le-suc, eq-or-lt_of_le}
use native.Mathlib.Omega.{arith}
use Rattle.lists.specs.Sums.{sum_to}
use Rattle.lists.proofs.Sums.{sum_to-ext}

pub sum_to-change : (n i : ℕ) (f g : ℕ → ℕ) → i < n → ((j : ℕ) → j < n → (j ≡ i → ⊥) → g j ≡ f j) → sum_to n g + f i ≡ sum_to n f + g i
unfolding sum_to
sum_to-change zero i f g l same = absurd (not-suc-le-zero l)
sum_to-change (suc n) i f g l same =
    ⊎_elim
    (λ e.
    let h : sum_to n g ≡ sum_to n f = sum_to-ext n g f (λ j k. same j (omega arith) (λ p. omega arith)) in
    omega (arith, h, ap f e, ap g e))
    (λ k. omega (arith, sum_to-change n i f g k (λ j h d. same j (omega arith) d), same n (omega arith) (λ p. omega arith)))
    (eq-or-lt_of_le (le_of_suc-le-suc l))

pub sum_to-at : (n i : ℕ) (f : ℕ → ℕ) → i < n → f i ≤ sum_to n f
unfolding sum_to
sum_to-at zero i f l = absurd (not-suc-le-zero l)
sum_to-at (suc n) i f l =
    ⊎_elim (λ e. omega (arith, ap f e)) (λ k. omega (arith, sum_to-at n i f k)) (eq-or-lt_of_le (le_of_suc-le-suc l))
