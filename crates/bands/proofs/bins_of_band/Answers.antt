-- `bands::bins_of_band` meets its contract: no shift loses a bit, by the bounds of `Range`. Assumes nothing.
use mathlib.Core.Path.{◌≡◌, sym, ap, ap₂, ◌∙◌, subst}
use Prim.Native.Nat.{ℕ, ◌+◌, ◌-◌, ◌*◌, ◌%◌, ◌^◌, ◌≤◌, ◌<◌}
use native.Mathlib.Nat.{le_trans, lt_of_le_of_lt, mod-le, mod-eq_of_lt, one-mul, mul_comm}
use native.Mathlib.Omega.{arith}
use borrow.Author.Tests.{lt-leb}
use Rattle.refusal.specs.Outcome.{given}
use Rattle.bands.specs.declared.BinRange.{BinRange}
use Rattle.bands.specs.Band.{size_exponent, width_exponent, band_start, band_width}
use Rattle.registers.specs.Store.{band_count}
use Rattle.bands.specs.Private.{bin_range}
use Rattle.bands.proofs.Settings.{Range, range, has-band, has-not-band}
use Rattle.registers.proofs.Counts.{count_at}
use Rattle.bands.proofs.bins_of_band.Goals as goal

-- what the code computes from the exponent
abbrev computed : ℕ → ℕ → ℕ → BinRange
computed setting b e = record { start = (b - e * 2 ^ (setting + 2) % 256) * 2 ^ e % 65536; width = 1 * 2 ^ e % 65536 }

computed-is : (setting b e : ℕ) → b < 256 → b < band_count setting → e ≡ width_exponent (size_exponent setting) b → computed setting b e ≡ bin_range setting b
unfolding band_start band_width
computed-is setting b e small h is =
    let r = range setting b h in
    ap (computed setting b) is
    ∙ rw (mod-eq_of_lt (lt_of_le_of_lt r.base-le small), one-mul, mul_comm (width_exponent (size_exponent setting) b) (2 ^ (setting + 2)))
    (ap₂ (λ (x y : ℕ). record { start = x; width = y }) (mod-eq_of_lt (omega (arith, r.within))) (mod-eq_of_lt (omega (arith, r.within))))

pub returns-then-setting-gt-BINS_LIMIT : goal.returns-then-setting-gt-BINS_LIMIT
returns-then-setting-gt-BINS_LIMIT c = simp (lt-leb c.args.setting 2 (omega arith))

pub returns-then-i-band : goal.returns-then-i-band
returns-then-i-band c =
    rw (has-not-band c.args.setting c.args.band (omega (arith, count_at c.args.setting (omega arith))))

-- past the tests the setting has the band
below : (c : goal.Else-i-band) → c.args.band < band_count c.args.setting
below c = omega (arith, count_at c.args.setting (omega arith))

known : (c : goal.Else-i-band) → Range c.args.setting c.args.band
known c = range _ _ (below c)

is-exponent : (c : goal.After-width_exponent-e) → c.width_exponent-e.result ≡ width_exponent (c.args.setting + 2) c.args.band
unfolding width_exponent
is-exponent c = c.width_exponent-e.ensures

pub overflow_add-s : goal.overflow_add-s
overflow_add-s c = omega (arith, (known c).setting-le)

pub overflow_shr-band : goal.overflow_shr-band
overflow_shr-band c = omega (arith, (known c).setting-le)

pub overflow_shl-m : goal.overflow_shl-m
overflow_shl-m c = omega (arith, (known c.before).setting-le)

pub overflow_sub-m : goal.overflow_sub-m
overflow_sub-m c =
    le_trans (mod-le _ 256)
    (subst (λ (e : ℕ). e * 2 ^ (c.args.setting + 2) ≤ c.args.band) (sym (is-exponent c)) (known c.before).base-le)

pub overflow_shl-result : goal.overflow_shl-result
overflow_shl-result c = omega (arith, is-exponent c, (known c.before).exponent_lt)

pub overflow_shl-result-2 : goal.overflow_shl-result-2
overflow_shl-result-2 c = omega (arith, is-exponent c, (known c.before).exponent_lt)

pub returns : goal.returns
returns c =
    let h = below c.before in
    rw (has-band _ _ h) (ap given (computed-is _ _ c.width_exponent-e.result c.ranges.band.fits h (is-exponent c)))
