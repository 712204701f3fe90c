-- What totals within their limits have. Assumes nothing.
use Prim.Native.Nat.{ℕ, ◌+◌, ◌/◌, ◌%◌, ◌*◌, ◌^◌, ◌≤◌}
use mathlib.Core.Path.{◌≡◌, subst}
use mathlib.Core.List.{List}
use native.Mathlib.Nat.{le_trans}
use native.Mathlib.Omega.{arith}
use lib.Dec.{ltb, lit≤}
use lib.ListN.{length, get_or}
use borrow.Author.Tests.{eq-eqb, ltb-true}
use Rattle.lists.proofs.Choices.{both, cond-at}
use Rattle.settings.specs.Settings.{setting_of, bands_of, enabled_of}
use Rattle.registers.specs.declared.Registers.{Registers}
use Rattle.model.specs.Totals.{in_use}
use Rattle.model.specs.Board.{slot_limit, totals_within}
use Rattle.refusal.specs.Outcome.{given}
use Rattle.limits.specs.Within.{within}
use Rattle.limits.specs.Claims.{SoundTotals}
use Rattle.limits.proofs.Limiting.{limit-le}

pub within-784 : (r : Registers) (m : ℕ) (totals : List ℕ) → length totals ≡ 784 → within r m totals ≡ given (totals_within r m totals)
unfolding within
within-784 r m totals e = rw (eq-eqb (length totals) 784 e)

pub total-le : SoundTotals
total-le r m totals few each i h =
    let split : i / 112 * 112 + i % 112 ≡ i = omega arith in
    subst (λ (k : ℕ). get_or totals k 0 ≤ 2 ^ 58) split (le_trans (each (i / 112) (i % 112) (omega arith) (omega arith)) (at (i / 112) (i % 112)))
  where
    at : (n b : ℕ) → slot_limit r m n b ≤ 2 ^ 58
    at n b =
        cond-at (λ (x : ℕ). x ≤ 2 ^ 58) (in_use r n b)
        (λ u. limit-le (setting_of r) m few b (ltb-true b (bands_of r) (both (enabled_of r n) (ltb b (bands_of r)) u).1))
        (λ u. lit≤ tt)
