-- Laws of the settings. They hold of any registers, sound or not. Assumes nothing.
use Prim.Native.Nat.{ℕ, ◌+◌, ◌%◌, ◌≤◌, ◌<◌}
use mathlib.Core.Path.{◌≡◌, ◌∙◌}
use mathlib.Core.Bool.{true, false}
use native.Mathlib.Omega.{arith}
use lib.Dec.{leb, ltb, lit≤}
use lib.Pow.{pow_pos, pow_mono}
use borrow.Author.Tests.{leb-true}
use Rattle.lists.proofs.Choices.{both, cond-at}
use Rattle.lists.proofs.Sums.{sum_to-more, sum_to-bound}
use Rattle.registers.proofs.Counts.{bands-count, bands-some}
use Rattle.registers.specs.Access.{register}
use Rattle.settings.specs.Settings.{setting_of, bands_of, averaged_spectra, period_ticks, enabled_of, enabled_before, enabled_count, running_of}
use Rattle.registers.specs.declared.Registers.{Registers}
use Rattle.registers.proofs.Stored.{first-stored}

module _ (r : Registers) where
  pub setting-le : setting_of r ≤ 2
  unfolding setting_of
  setting-le = (first-stored (register r 0)).bins

  pub bands-le : bands_of r ≤ 112
  bands-le = (bands-count (setting_of r)).at_most

  pub bands-even : bands_of r % 2 ≡ 0
  bands-even = (bands-count (setting_of r)).even

  pub bands-least : 36 ≤ bands_of r
  bands-least = bands-some (setting_of r) setting-le

  pub enabled-le : enabled_count r ≤ 7
  enabled-le = sum_to-bound 7 _ 1 (λ i l. cond-at (λ (x : ℕ). x ≤ 1) (enabled_of r i) (λ e. lit≤ tt) (λ e. lit≤ tt))

  pub averaged-pos : 0 < averaged_spectra r
  unfolding averaged_spectra
  averaged-pos = pow_pos _

  pub averaged-le : averaged_spectra r ≤ 1024
  unfolding averaged_spectra
  averaged-le = pow_mono (first-stored (register r 0)).navg

  pub period-pos : 0 < period_ticks r
  unfolding period_ticks
  period-pos = pow_pos _

  pub period-le : period_ticks r ≤ 1024
  unfolding period_ticks
  period-le = pow_mono (first-stored (register r 0)).ncad

  -- a running board has N ≤ C
  pub running-le : running_of r ≡ true → averaged_spectra r ≤ period_ticks r
  unfolding running_of
  running-le e = leb-true _ _ (both (ltb 0 (enabled_count r)) (leb (averaged_spectra r) (period_ticks r)) e).1

  -- one processor more
  pub before_on : (n : ℕ) → enabled_of r n ≡ true → enabled_before r (n + 1) ≡ enabled_before r n + 1
  before_on n e = sum_to-more _ n ∙ rw e

  pub before-off : (n : ℕ) → enabled_of r n ≡ false → enabled_before r (n + 1) ≡ enabled_before r n
  before-off n e = sum_to-more _ n ∙ rw e (omega arith)

-- the bound of the setting, for a function that names it
pub ruleset setting_bound = (setting-le)
