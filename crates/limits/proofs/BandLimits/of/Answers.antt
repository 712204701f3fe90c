-- `limits::BandLimits::of` meets its contract. Assumes nothing.
use Rattle.std.proofs.Common.{◌≡◌, ◌∙◌, ◌*◌, ◌-◌, ◌^◌, ◌<◌, ℕ, ap, length-set, get_or, refl, arith, rules}
use Rattle.std.proofs.lemmas.List.{length-replicate}
use lib.Pow.{pow_pos}
use Rattle.bands.specs.Band.{size_exponent}
use Rattle.bands.proofs.Octaves.{shifted_size, shifted-size, size-le, narrow-le}
use Rattle.registers.specs.declared.Registers.{Registers}
use Rattle.settings.specs.Settings.{setting_of}
use Rattle.settings.proofs.Settings.{setting-le, bands-le}
use Rattle.limits.specs.Private.{band_limit}
use Rattle.limits.proofs.Limiting.{limit-le, limits-first, limits-more}
use Rattle.limits.proofs.BandLimits.of.Goals as goal

sized : (r : Registers) (setting : ℕ) → setting ≡ setting_of r → shifted_size setting ≡ 2 ^ size_exponent (setting_of r)
sized r setting e = ap shifted_size e ∙ shifted-size (setting_of r) (setting-le r)

pub overflow_shl-size : goal.overflow_shl-size
overflow_shl-size c = omega (arith, c.bin_setting.ensures, setting-le c.args.registers)

pub overflow_add-size : goal.overflow_add-size
overflow_add-size c = omega (arith, c.bin_setting.ensures, setting-le c.args.registers)

pub overflow_step-b : goal.overflow_step-b
overflow_step-b c =
    let r = c.args.registers in
    omega (arith, sized r c.bin_setting.result c.bin_setting.ensures, size-le (setting_of r) (setting-le r))

pub loop-b-init : goal.loop-b-init
loop-b-init c =
    let r = c.args.registers in
    let s = sized r c.bin_setting.result c.bin_setting.ensures in (
      search rules,
      omega (arith, s, narrow-le (setting_of r) (setting-le r), c.bands-bands.ensures),
      length-replicate {A = ℕ} 112 (c.args.spectra * (2 ^ 32 - 1)),
      λ i h. limits-first (setting_of r) c.args.spectra (setting-le r) _ refl i (omega (arith, s)),
    )

pub offset_bounds-limits-b : goal.offset_bounds-limits-b
offset_bounds-limits-b c = omega (arith, bands-le c.args.registers, c.bands-bands.ensures)

pub bounds-limits-b : goal.bounds-limits-b
bounds-limits-b c = omega (arith, bands-le c.args.registers, c.bands-bands.ensures)

-- the half is the limit of an earlier band
pub overflow_mul-limits-in-loop-b : goal.overflow_mul-limits-in-loop-b
overflow_mul-limits-in-loop-b c =
    let r = c.args.registers in
    let l = c.loop-b in
    let b : ℕ = l.b - shifted_size c.bin_setting.result in
    let s = sized r c.bin_setting.result c.bin_setting.ensures in
    let earlier : b < l.b = omega (arith, s, pow_pos (size_exponent (setting_of r))) in
    let is : get_or l.limits b 0 ≡ band_limit (setting_of r) c.args.spectra b = l.invariant.3 b earlier in
    omega (arith, is, limit-le (setting_of r) c.args.spectra (omega arith) b (omega (arith, c.bands-bands.ensures)))

pub offset_bounds-limits-b-in-loop-b : goal.offset_bounds-limits-b-in-loop-b
offset_bounds-limits-b-in-loop-b c = omega (arith, bands-le c.args.registers, c.bands-bands.ensures)

pub bounds-limits-b-in-loop-b : goal.bounds-limits-b-in-loop-b
bounds-limits-b-in-loop-b c = omega (arith, bands-le c.args.registers, c.bands-bands.ensures)

pub loop-b-preserved : goal.loop-b-preserved
loop-b-preserved c =
    let r = c.args.registers in
    let l = c.loop-b in
    let s = sized r c.bin_setting.result c.bin_setting.ensures in (
      omega arith,
      omega arith,
      simp length-set l.invariant.2,
      limits-more (setting_of r) c.args.spectra l.limits l.b (get_or l.limits (l.b - shifted_size c.bin_setting.result) 0) (omega (arith, s)) (omega (arith, bands-le r, c.bands-bands.ensures))
          l.invariant.3 (ap (λ (k : ℕ). get_or l.limits (l.b - k) 0) s) (pow_pos (size_exponent (setting_of r))),
    )

pub invariant_of-result : goal.invariant_of-result
invariant_of-result c = record { few = omega (arith, bands-le c.args.registers, c.bands-bands.ensures) }
