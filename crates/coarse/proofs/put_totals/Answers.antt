-- `coarse::put_totals` meets its contract: the target is 36 bands or 64. Assumes nothing.
use Prim.Native.Nat.{ℕ}
use mathlib.Core.Path.{◌≡◌, sym, ap, ◌∙◌}
use native.Mathlib.Omega.{arith}
use Rattle.lists.specs.Tables.{overwrite}
use Rattle.registers.specs.Store.{band_count}
use Rattle.coarse.specs.Coarse.{coarse_totals}
use Rattle.coarse.proofs.put_totals.Goals as goal

count-36 : (setting : ℕ) → setting ≡ 0 → band_count setting ≡ 36
unfolding band_count
count-36 setting e = ap band_count e

count-64 : (setting : ℕ) → setting ≡ 1 → band_count setting ≡ 64
unfolding band_count
count-64 setting e = ap band_count e

pub put_36-requires : goal.put_36-requires
put_36-requires c =
    record {
      fine_len = c.requires.fine_len;
      in_bounds = omega (arith, c.requires.setting_in_bounds, count-36 c.args.setting c.if-setting-eq0.true);
    }

pub put_64-requires : goal.put_64-requires
put_64-requires c =
    let one : c.args.setting ≡ 1 = omega (arith, c.requires.setting_bound, c.if-setting-eq0.false) in
    record {
      fine_len = c.requires.fine_len;
      in_bounds = omega (arith, c.requires.setting_in_bounds, count-64 c.args.setting one);
    }

pub returns-then-setting-eq0 : goal.returns-then-setting-eq0
returns-then-setting-eq0 c =
    c.put_36.ensures ∙ ap (λ (s : ℕ). overwrite (coarse_totals s c.args.fine.now) c.args.out.now) (sym c.if-setting-eq0.true)

pub returns-else-setting-eq0 : goal.returns-else-setting-eq0
returns-else-setting-eq0 c =
    let one : c.args.setting ≡ 1 = omega (arith, c.requires.setting_bound, c.if-setting-eq0.false) in
    c.put_64.ensures ∙ ap (λ (s : ℕ). overwrite (coarse_totals s c.args.fine.now) c.args.out.now) (sym one)
