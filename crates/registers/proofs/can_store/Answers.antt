-- `registers::can_store` meets its contract: the fields within their limits are what a write stores unchanged. Assumes nothing.
use mathlib.Core.Path.{◌≡◌, sym, ap, ◌∙◌}
use mathlib.Core.Bool.{◌&&◌}
use native.Mathlib.Omega.{arith}
use lib.Dec.{leb}
use Rattle.registers.specs.Store.{source_of}
use Rattle.registers.specs.declared.Fields.{Fields}
use Rattle.registers.proofs.Stored.{source-over, first-can, other-can}
use Rattle.registers.proofs.can_store.Goals as goal
use Rattle.registers.proofs.can_store.Goals.{After-from-fields}

source_is : (c : After-from-fields) → c.from-fields.result.source ≡ source_of c.args.value
source_is c = ap (λ (f : Fields). f.source) c.from-fields.ensures

pub returns-then-fields-gt-SOURCE_LIMIT : goal.returns-then-fields-gt-SOURCE_LIMIT
returns-then-fields-gt-SOURCE_LIMIT c = let a = c.args in sym (source-over a.n a.value (omega (arith, source_is c.before.before)))

pub returns-then-n-eq0 : goal.returns-then-n-eq0
returns-then-n-eq0 c =
    let a = c.args in
    let e : a.n ≡ 0 = c.if-n-eq0.true in
    let fields = ap (λ (f : Fields). leb f.ncad 0xA && (leb f.navg 0xA && leb f.bins 2)) c.from-fields.ensures in
    rw e (c.high_within.ensures ∙ fields ∙ sym (first-can a.value (omega (arith, source_is c.before.before.before.before))))

pub returns-else-n-eq0 : goal.returns-else-n-eq0
returns-else-n-eq0 c =
    let a = c.args in
    sym (other-can a.n a.value c.if-n-eq0.false (omega (arith, source_is c.before.before.before)))
