-- The number of totals written is below the refusals. Assumes nothing.
use Prim.Native.Nat.{ℕ}
use mathlib.Core.Bool.{not}
use mathlib.Core.List.{List}
use native.Mathlib.Omega.{arith}
use lib.Dec.{leb}
use Rattle.lists.proofs.Choices.{cond-at}
use Rattle.refusal.specs.Outcome.{Filled}
use Rattle.registers.specs.Store.{band_count}
use Rattle.registers.proofs.Counts.{bands-count}
use Rattle.coarse.specs.Coarse.{lengths_fit, totals_taken, coarse_outcome}
use Rattle.dfb_refusals.specs.Numbers.{above16}
use Rattle.dfb_refusals.proofs.Apart.{Below, given_below, refused-below, told-apart}
use Rattle.dfb_coarse.specs.Claims.{CoarseTotalsApart}

pub coarse-below : (setting : ℕ) (fine out : List ℕ) → Below above16 (coarse_outcome setting fine out).answer
unfolding coarse_outcome
coarse-below setting fine out =
    cond-at Small (not (leb setting 1)) (λ _. refused-below above16 12)
    (λ _. cond-at Small (not (lengths_fit setting fine out)) (λ _. refused-below above16 2)
    (λ _. cond-at Small (not (totals_taken fine)) (λ _. refused-below above16 24)
    (λ _. given_below above16 (band_count setting) (omega (arith, (bands-count setting).at_most)))))
  where
    Small : Filled ℕ → Type 0
    Small f = Below above16 f.answer

pub coarse-totals-apart : CoarseTotalsApart
coarse-totals-apart setting fine out = told-apart above16 (coarse_outcome setting fine out).answer (coarse-below setting fine out)
