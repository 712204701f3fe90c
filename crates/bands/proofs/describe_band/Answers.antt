-- `bands::describe_band` meets its contract: the bins are those of the band, and they end by bin 1024, so that each number fits and is exact. Assumes nothing.
use Rattle.std.specs.Prelude.{Result, Ok}
use mathlib.Core.Path.{◌≡◌, ap}
use mathlib.Core.Bool.{true}
use Prim.Native.Nat.{ℕ, ◌+◌, ◌*◌, ◌/◌, ◌≤◌}
use native.Mathlib.Omega.{arith}
use Rattle.refusal.specs.declared.Refusal.{Refusal}
use Rattle.refusal.specs.Outcome.{given, answer_outcome}
use Rattle.refusal.proofs.Outcomes.{given-of}
use Rattle.bands.specs.declared.BinRange.{BinRange}
use Rattle.bands.specs.declared.Description.{Description}
use Rattle.bands.specs.Band.{has_band}
use Rattle.bands.specs.Answer.{whole, band_described}
use Rattle.bands.specs.Private.{bin_range, band_bins}
use Rattle.bands.specs.Exact.{ExactDescription}
use Rattle.bands.proofs.Settings.{range, known_of}
use Rattle.bands.proofs.Floats.{exact-description}
use Rattle.bands.proofs.describe_band.Goals as goal

-- the rule's answer is exact
answered : (setting b : ℕ) (r : Result Description Refusal) → answer_outcome r ≡ band_described setting b →
    (answer_outcome r ≡ band_described setting b) × ExactDescription setting b r
answered setting b r is = (is, exact-description setting b r is)

-- where bins are found, the setting has the band, and the bins are the band's
found : (setting b : ℕ) (bins : BinRange) → given bins ≡ band_bins setting b → (has_band setting b ≡ true) × (bins ≡ bin_range setting b)
found setting b bins e = given-of (has_band setting b) (bin_range setting b) bins 12 e

within : (setting b : ℕ) (bins : BinRange) → given bins ≡ band_bins setting b → bins.start + bins.width ≤ 1024
within setting b bins e =
    let f = found setting b bins e in
    omega (
      arith,
      ap (λ (r : BinRange). r.start) f.1,
      ap (λ (r : BinRange). r.width) f.1,
      (range setting b (known_of setting b f.0)).within,
    )

-- what the code makes of the bins
computed : BinRange → Description
computed r = record { low = whole (8 * r.start); centre = whole (8 * r.start + 8 * r.width / 2); width = whole (8 * r.width) }

pub overflow_mul-low : goal.overflow_mul-low
overflow_mul-low c = omega (arith, within c.args.setting c.args.band c.in_ok-bins.bins c.in_ok-bins.ensures)

pub overflow_mul-width : goal.overflow_mul-width
overflow_mul-width c = omega (arith, within c.args.setting c.args.band c.in_ok-bins.bins c.in_ok-bins.ensures)

pub overflow_add-centre : goal.overflow_add-centre
overflow_add-centre c = omega (arith, within c.args.setting c.args.band c.in_ok-bins.bins c.in_ok-bins.ensures)

pub returns : goal.returns
unfolding whole computed
returns c =
    let setting = c.args.setting in
    let b = c.args.band in
    let bins : BinRange = c.in_ok-bins.bins in
    let f = found setting b bins c.in_ok-bins.ensures in
    answered setting b (Ok (computed bins)) (rw f.0 (ap given (ap computed f.1)))
