-- The numbers of bands of the three bin settings. Assumes nothing.
use mathlib.Core.Path.{◌≡◌, refl}
use mathlib.Core.List.{[], ◌∷◌}
use Prim.Native.Nat.{ℕ, zero, suc, ◌%◌, ◌≤◌, ◌<◌}
use native.Mathlib.Decide.{dec_lt}
use native.Mathlib.Omega.{arith}
use lib.Dec.{eqb, lit≤}
use lib.ListN.{get_or}
use borrow.Author.Tests.{ne_eqb}
use Rattle.lists.proofs.Choices.{cond-at}
use Rattle.registers.specs.Store.{band_count}

-- a property of the three settings holds of each setting up to 2
pub three : (P : ℕ → Type 0) → P 0 → P 1 → P 2 → (setting : ℕ) → setting ≤ 2 → P setting
three P a b c zero h = a
three P a b c (suc zero) h = b
three P a b c (suc (suc zero)) h = c
three P a b c (suc (suc (suc n))) h = absurd (omega arith)

-- every count of bands is even and at most 112
pub record Count (n : ℕ) : Type 0 where
  pub even : n % 2 ≡ 0
  pub at_most : n ≤ 112

pub bands-count : (setting : ℕ) → Count (band_count setting)
unfolding band_count
bands-count setting =
    cond-at Count (eqb setting 0) (λ e. record { even = refl; at_most = lit≤ tt }) (λ e.
    cond-at Count (eqb setting 1) (λ e. record { even = refl; at_most = lit≤ tt }) (λ e.
    cond-at Count (eqb setting 2) (λ e. record { even = refl; at_most = lit≤ tt }) (λ e.
    record { even = refl; at_most = lit≤ tt })))

-- the constant BAND_COUNTS has the count of each setting
pub count_at : (setting : ℕ) → setting ≤ 2 → get_or (36 ∷ 64 ∷ 112 ∷ []) setting 0 ≡ band_count setting
unfolding band_count
count_at = three (λ (q : ℕ). get_or (36 ∷ 64 ∷ 112 ∷ []) q 0 ≡ band_count q) refl refl refl

pub bands-some : (setting : ℕ) → setting ≤ 2 → 36 ≤ band_count setting
unfolding band_count
bands-some = three (λ (q : ℕ). 36 ≤ band_count q) (lit≤ tt) (lit≤ tt) (lit≤ tt)

-- a setting that has bands is one of the three
pub setting-le : (setting b : ℕ) → b < band_count setting → setting ≤ 2
unfolding band_count
setting-le setting b h = go (dec_lt 2 setting)
  where
    go : Dec (2 < setting) → setting ≤ 2
    go (no l) = omega arith
    go (yes l) =
        let none : band_count setting ≡ 0 = simp (ne_eqb setting 0 (λ e. omega arith), ne_eqb setting 1 (λ e. omega arith), ne_eqb setting 2 (λ e. omega arith)) in
        omega arith
