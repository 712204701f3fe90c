-- `registers::high_stored` meets its contract: each stored field is at most its limit, so that the products and sums fit.
-- Assumes nothing.
use Prim.Native.Nat.{ℕ, ◌≤◌}
use mathlib.Core.Path.{◌≡◌, ap, subst, sym, ◌∙◌}
use native.Mathlib.Omega.{arith}
use lib.Dec.{lit≤}
use Rattle.registers.specs.Store.{bins_of, navg_of, ncad_of, limited, high_stored}
use Rattle.registers.specs.declared.Fields.{Fields}
use Rattle.registers.proofs.Laws.{limited-le}
use Rattle.registers.proofs.high_stored.Goals as goal

-- a field as stored, and its limit
at_most : (limit default field stored : ℕ) → default ≤ limit → stored ≡ limited limit default field → (stored ≡ limited limit default field) × (stored ≤ limit)
at_most limit default field stored h e = (e, subst (λ (x : ℕ). x ≤ limit) (sym e) (limited-le limit default field h))

module _ (c : goal.After-limited_field-bins) where
  v : ℕ
  v = c.args.information

  ncad-is : (c.limited_field-ncad.result ≡ limited 0xA 6 (ncad_of v)) × (c.limited_field-ncad.result ≤ 0xA)
  unfolding v
  ncad-is = at_most 0xA 6 (ncad_of v) _ (lit≤ tt) (c.limited_field-ncad.ensures ∙ ap (λ (f : Fields). limited 0xA 6 f.ncad) c.from-fields.ensures)

  navg-is : (c.limited_field-navg.result ≡ limited 0xA 3 (navg_of v)) × (c.limited_field-navg.result ≤ 0xA)
  unfolding v
  navg-is = at_most 0xA 3 (navg_of v) _ (lit≤ tt) (c.limited_field-navg.ensures ∙ ap (λ (f : Fields). limited 0xA 3 f.navg) c.from-fields.ensures)

  bins-is : (c.limited_field-bins.result ≡ limited 2 1 (bins_of v)) × (c.limited_field-bins.result ≤ 2)
  unfolding v
  bins-is = at_most 2 1 (bins_of v) _ (lit≤ tt) (c.limited_field-bins.ensures ∙ ap (λ (f : Fields). limited 2 1 f.bins) c.from-fields.ensures)

pub overflow_mul-result : goal.overflow_mul-result
overflow_mul-result c = omega (arith, ncad-is c)

pub overflow_mul-result-2 : goal.overflow_mul-result-2
overflow_mul-result-2 c = omega (arith, navg-is c)

pub overflow_add-result : goal.overflow_add-result
overflow_add-result c = omega (arith, ncad-is c, navg-is c)

pub overflow_mul-result-3 : goal.overflow_mul-result-3
overflow_mul-result-3 c = omega (arith, bins-is c)

pub overflow_add-result-2 : goal.overflow_add-result-2
overflow_add-result-2 c = omega (arith, ncad-is c, navg-is c, bins-is c)

pub returns : goal.returns
unfolding high_stored v
returns c = omega (arith, (ncad-is c).0, (navg-is c).0, (bins-is c).0)
