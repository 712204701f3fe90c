-- `registers::low_stored` meets its contract: the stored source is at most 0x16, so that the sum fits.
-- Assumes nothing.
use Prim.Native.Nat.{◌≤◌}
use mathlib.Core.Path.{◌≡◌, ap, ◌∙◌}
use native.Mathlib.Omega.{arith}
use Rattle.registers.specs.Store.{enable_of, source_of, limited, low_stored}
use Rattle.registers.specs.declared.Fields.{Fields}
use Rattle.registers.proofs.Laws.{limited-le}
use Rattle.registers.proofs.low_stored.Goals as goal
use Rattle.registers.proofs.low_stored.Goals.{After-from-fields, After-limited_field}

-- the enable bit, and the source as stored
enable-is : (c : After-from-fields) → c.from-fields.result.enable ≡ enable_of c.args.information
enable-is c = ap (λ (f : Fields). f.enable) c.from-fields.ensures

source_is : (c : After-limited_field) → c.limited_field.result ≡ limited 0x16 c.args.default (source_of c.args.information)
source_is c = c.limited_field.ensures ∙ ap (λ (f : Fields). limited 0x16 c.args.default f.source) c.from-fields.ensures

source-le : (c : After-limited_field) → c.limited_field.result ≤ 0x16
source-le c = omega (arith, source_is c, limited-le 0x16 c.args.default (source_of c.args.information) c.requires)

pub overflow_mul-result : goal.overflow_mul-result
overflow_mul-result c = omega (arith, enable-is c.before)

pub overflow_add-result : goal.overflow_add-result
overflow_add-result c = omega (arith, enable-is c.before.before, source-le c)

pub returns : goal.returns
unfolding low_stored
returns c = omega (arith, enable-is c.before.before, source_is c)
