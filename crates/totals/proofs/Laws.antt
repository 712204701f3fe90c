-- Where no sum comes to 2 ^ 64, adding modulo 2 ^ 64 is adding. Assumes nothing.
use Rattle.std.proofs.Common.{◌≡◌, ℕ, ◌+◌, ◌-◌, ◌*◌, ◌^◌, ◌<◌, ◌≤◌, cond, ltb, List, length, sym, ap, add-zero, mul-le-mul_right, mod-eq_of_lt, arith, ltb-true, eq-eqb}
use Rattle.lists.proofs.Choices.{both, cond_both}
use Rattle.lists.proofs.Tables.{grid-ext, length-grid}
use Rattle.bands.proofs.Settings.{range}
use Rattle.settings.specs.Settings.{setting_of, bands_of, enabled_of}
use Rattle.refusal.specs.Outcome.{given}
use Rattle.registers.specs.declared.Registers.{Registers}
use Rattle.model.specs.Totals.{in_use, width_of, band_power, slot, added}
use Rattle.model.proofs.SpectraTotals.{band_power-le}
use Rattle.totals.specs.Adding.{added_slot, totals_left, add_outcome}
use Rattle.totals.specs.Claims.{AddedPlain}

pub added-plain : AddedPlain
unfolding add_outcome added
added-plain r totals powers small fit long bins =
    rw (eq-eqb _ _ long, eq-eqb _ _ bins)
    (ap (totals_left (given tt)) (grid-ext 7 112 (added_slot r totals powers) _ (λ n b h l.
    cond_both (λ (x : ℕ). x) (λ (x : ℕ). slot totals n b + x) (in_use r n b)
    (λ u. mod-eq_of_lt (no_wrap n b h (ltb-true b (bands_of r) (both (enabled_of r n) (ltb b (bands_of r)) u).1) l))
    (λ u. sym (add-zero (slot totals n b))))))
  where
    no_wrap : (n b : ℕ) → n < 7 → b < bands_of r → b < 112 → slot totals n b + band_power r powers n b < 2 ^ 64
    no_wrap n b h k l =
        let wide : width_of r b ≤ 1024 = omega (arith, (range (setting_of r) b k).within) in
        omega (arith, small (n * 112 + b) (omega arith), band_power-le r n b k powers fit, mul-le-mul_right {m = width_of r b} {n = 1024} (2 ^ 32 - 1) wide)

pub length-added : (r : Registers) (totals powers : List ℕ) → length (added r totals powers) ≡ 784
unfolding added
length-added r totals powers = length-grid 7 112 (λ n b. slot totals n b + cond (in_use r n b) (band_power r powers n b) 0)
