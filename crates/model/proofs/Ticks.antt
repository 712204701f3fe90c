-- One tick, from any state: rows of disabled processors do not matter, and only a report writes output; from a sound state no report
-- meets a band mean over 2 ^ 32 - 1. Assumes nothing.
use Prim.Native.Nat.{ℕ, ◌+◌, ◌*◌, ◌-◌, ◌^◌, ◌≤◌, ◌<◌}
use mathlib.Core.Path.{◌≡◌, refl, ap}
use mathlib.Core.Bool.{true, cond, not}
use mathlib.Core.List.{List}
use mathlib.Core.Logic.{◌⊎◌, inl, inr}
use native.Mathlib.Omega.{arith}
use native.Mathlib.Nat.{add-le-add, add-mul, one-mul}
use lib.ListN.{length}
use lib.Dec.{ltb, eqb}
use borrow.Author.Tests.{lt-ltb}
use Rattle.lists.proofs.Choices.{both, cond-at, cond_both}
use Rattle.lists.proofs.Tables.{get_d-grid, grid-ext}
use Rattle.bands.specs.Band.{size_exponent}
use Rattle.bands.proofs.Power.{band_sum-ext}
use Rattle.settings.specs.Settings.{setting_of, bands_of, averaged_spectra, enabled_of, running_of}
use Rattle.registers.specs.declared.Registers.{Registers}
use Rattle.settings.proofs.Settings.{bands-le}
use Rattle.model.specs.Totals.{in_use, width_of, power, band_power, slot, added}
use Rattle.model.specs.Board.{spectra_held, state_sound, lengths_fit, TickOutcome, running_outcome, tick_outcome}
use Rattle.model.specs.Calls.{Powers}
use Rattle.model.specs.Demand.{ReportedBand}
use Rattle.model.specs.Claims.{DisabledRows, IsReport, OnlyReportsWrite}
use Rattle.model.specs.declared.State.{State}
use Rattle.model.proofs.SpectraTotals.{band_power-le}
use Rattle.model.proofs.Sound.{Sound}

-- ---- 01: rows of disabled processors may hold anything: no answer, state or byte depends on them

added-same : (r : Registers) (ps qs : List ℕ) → ((n k : ℕ) → n < 7 → enabled_of r n ≡ true → k < 1024 → power ps n k ≡ power qs n k) →
    (totals : List ℕ) → added r totals ps ≡ added r totals qs
unfolding added
added-same r ps qs same totals =
    grid-ext 7 112 _ _ (λ n b h l. ap (λ x. slot totals n b + x)
    (cond_both (λ x. x) (λ x. x) (in_use r n b) (λ u.
    band_sum-ext (size_exponent (setting_of r)) b (power ps n) (power qs n)
    (λ k m. same n k h (both (enabled_of r n) (ltb b (bands_of r)) u).0 m)) (λ u. refl)))

pub disabled-rows : DisabledRows
unfolding tick_outcome
disabled-rows s totals ps qs out e same = rw (e, added-same s.registers ps qs same totals)

-- ---- 01: only a report writes output

pub only-reports-write : OnlyReportsWrite
unfolding tick_outcome running_outcome
only-reports-write s totals ps out =
    cond-at Writes (not (lengths_fit (length ps) (length totals) (length out))) (λ e. inr refl) (λ e.
    cond-at Writes (not (state_sound s totals)) (λ e. inr refl) (λ e.
    cond-at Writes (not (running_of s.registers)) (λ e. inr refl) (λ e.
    cond-at Writes (ltb s.phase (averaged_spectra s.registers - 1)) (λ e. inr refl) (λ e.
    cond-at Writes (eqb s.phase (averaged_spectra s.registers - 1)) (λ e. inl tt) (λ e. inr refl)))))
  where
    Writes : TickOutcome → Type 0
    Writes o = IsReport o.answer ⊎ (o.out ≡ out)

-- ---- from a sound state no report meets a band mean over 2 ^ 32 - 1

in_use-reported : (r : Registers) (n b : ℕ) → ReportedBand r n b → in_use r n b ≡ true
in_use-reported r n b u = rw (u.enabled, lt-ltb b (bands_of r) u.band)

-- what a slot in use has after the tick
pub slot-le : (s : State) (totals ps : List ℕ) → Sound s totals → Powers ps → (n b : ℕ) → ReportedBand s.registers n b →
    slot (added s.registers totals ps) n b ≤ (spectra_held s.registers s.phase + 1) * width_of s.registers b * (2 ^ 32 - 1)
unfolding added
slot-le s totals ps h k n b u =
    let r = s.registers in
    let w = width_of r b in
    let p = spectra_held r s.phase in
    let l : b < 112 = omega (arith, u.band, bands-le r) in
    let a : slot totals n b ≤ p * w * (2 ^ 32 - 1) = rw (in_use-reported r n b u) at (h.totals n b u.processor l) in
    rw (get_d-grid {A = ℕ} 7 112 (λ n b. slot totals n b + cond (in_use r n b) (band_power r ps n b) 0) 0 n b u.processor l, in_use-reported r n b u, add-mul p 1 w, one-mul w, add-mul (p * w) w (2 ^ 32 - 1))
    (add-le-add a (band_power-le r n b u.band ps k))
