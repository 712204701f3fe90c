-- The runs follow one another and use each fine band exactly once. Assumes nothing.
use Prim.Native.Nat.{ℕ, zero, suc, ◌+◌, ◌-◌, ◌≤◌, ◌<◌}
use mathlib.Core.Path.{◌≡◌, refl, ap}
use native.Mathlib.Nat.{le_refl, not-suc-le-zero}
use native.Mathlib.Omega.{arith}
use lib.Dec.{ltb}
use borrow.Author.Tests.{ltb-true, ltb-false}
use Rattle.lists.specs.Sums.{sum_to}
use Rattle.lists.proofs.Choices.{by_cases}
use Rattle.lists.proofs.Sums.{sum_to-add}
use Rattle.registers.specs.Store.{band_count}
use Rattle.coarse.specs.Coarse.{run_length, run_start}
use Rattle.coarse.specs.Claims.{InRun, RunsUseEachOnce}

-- a property of the two targets
pub two : (P : ℕ → Type 0) → P 0 → P 1 → (setting : ℕ) → setting ≤ 1 → P setting
two P a b zero h = a
two P a b (suc zero) h = b
two P a b (suc (suc n)) h = absurd (omega arith)

-- ---- runs of any lengths, one after the other from 0 on: run b begins at the sum of the lengths before it

module _ (f : ℕ → ℕ) where
  begins-mono : (a b : ℕ) → a ≤ b → sum_to a f ≤ sum_to b f
  begins-mono a b h =
      let back : sum_to (a + (b - a)) f ≡ sum_to b f = ap (λ (n : ℕ). sum_to n f) (omega arith) in
      omega (arith, sum_to-add f a (b - a))

  -- a number before the end of n runs is in one of them
  in_some : (n i : ℕ) → i < sum_to n f → (b : ℕ) × (b < n) × (sum_to b f ≤ i) × (i < sum_to b f + f b)
  unfolding sum_to
  in_some zero i h = absurd (not-suc-le-zero h)
  in_some (suc n) i h =
      by_cases (ltb i (sum_to n f))
      (λ t. let r = in_some n i (ltb-true i (sum_to n f) t) in (r.0, omega (arith, r.1), r.2, r.3))
      (λ t. (n, le_refl (suc n), ltb-false i (sum_to n f) t, h))

  -- and in no run before another that it is in
  not-before : (a b i : ℕ) → a < b → i < sum_to a f + f a → sum_to b f ≤ i → ⊥
  unfolding sum_to
  not-before a b i l h k = let ends : sum_to a f + f a ≤ sum_to b f = begins-mono (suc a) b l in omega arith

-- ---- the runs of a target

pub run_none : (setting : ℕ) → run_start setting 0 ≡ 0
unfolding run_start sum_to
run_none setting = refl

pub run-next : (setting b : ℕ) → run_start setting (suc b) ≡ run_start setting b + run_length setting b
unfolding run_start sum_to
run-next setting b = refl

pub runs-end : (setting : ℕ) → setting ≤ 1 → run_start setting (band_count setting) ≡ 112
unfolding run_start run_length band_count sum_to
runs-end = two (λ (q : ℕ). run_start q (band_count q) ≡ 112) refl refl

-- a run ends within the fine bands
pub run-within : (setting b : ℕ) → setting ≤ 1 → b < band_count setting → run_start setting b + run_length setting b ≤ 112
unfolding run_start
run-within setting b h l = omega (arith, begins-mono (run_length setting) (suc b) (band_count setting) l, run-next setting b, runs-end setting h)

pub runs-use-each-once : RunsUseEachOnce
unfolding run_start
runs-use-each-once setting h =
    record {
      first = run_none setting;
      next = run-next setting;
      end = runs-end setting h;
      one = λ i l.
          let r = in_some (run_length setting) (band_count setting) i (omega (arith, runs-end setting h)) in
          (r.0, record { known = r.1; inside = record { from = r.2; before = r.3 }; only = λ b' k. same r.0 b' i r.2 r.3 k });
    }
  where
    same : (b b' i : ℕ) → run_start setting b ≤ i → i < run_start setting b + run_length setting b → InRun setting i b' → b' ≡ b
    same b b' i from before k =
        by_cases (ltb b b') (λ t. absurd (not-before (run_length setting) b b' i (ltb-true b b' t) before k.from))
        (λ t. by_cases (ltb b' b) (λ u. absurd (not-before (run_length setting) b' b i (ltb-true b' b u) k.before from))
        (λ u. omega (arith, ltb-false b b' t, ltb-false b' b u)))
