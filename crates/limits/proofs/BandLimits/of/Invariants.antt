-- The loop of `of`: the bands before b have their limits.
use Rattle.std.proofs.Common.{◌≡◌, ◌*◌, ◌<◌, ◌≤◌, ℕ, length, get_or}
use Rattle.settings.specs.Settings.{setting_of}
use Rattle.limits.specs.Private.{band_limit}
use Rattle.limits.proofs.BandLimits.of.Given as goal

abbrev pub invariant-loop-b : goal.invariant-loop-b
invariant-loop-b l = (2 * l.size ≤ l.b) × (l.b ≤ l.bands) × (length l.limits ≡ 112) × ((i : ℕ) → i < l.b → get_or l.limits i 0 ≡ band_limit (setting_of l.fn.registers) l.fn.spectra i)
