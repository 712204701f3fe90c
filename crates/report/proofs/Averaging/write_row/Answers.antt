-- `report::Averaging::write_row` meets its contract. Assumes nothing.
use Rattle.std.proofs.Common.{◌≡◌, ◌∙◌, ◌+◌, ◌-◌, ◌*◌, ◌/◌, ℕ, [], ◌∷◌, length, refl, ap, ap₂, arith, rules}
use borrow.Rule.Slice.PartMut.{same_len_mid}
use Rattle.registers.specs.Store.{band_count}
use Rattle.lists.specs.Tables.{concat_to, overwrite}
use Rattle.lists.proofs.Overwriting.{parts_none, parts_more, overwrite-all}
use Rattle.model.specs.Report.{spec_word}
use Rattle.model.proofs.Reports.{length-words}
use Rattle.report.specs.Private.{row_mean, row_bytes}
use Rattle.report.proofs.Averaging.write_row.Goals as goal

pub loop-j-init : goal.loop-j-init
loop-j-init c = (search rules, refl, parts_none _ _)

pub loop-j-preserved : goal.loop-j-preserved
loop-j-preserved c =
    let a = c.args in
    let l = c.loop-j in
    let w = c.copy_from_slice in
    let m = row_mean a.self.setting a.self.exponent a.row.now in (
      search rules,
      same_len_mid (3 * l.j) (3 * l.j + 3 - 3 * l.j) l.out w.new.self (search rules) ∙ l.invariant.1,
      parts_more (spec_word m) a.out.now l.j (3 * l.j) (3 * l.j + 3 - 3 * l.j) l.out w.new.self l.invariant.2
          (length-words m l.j ∙ omega arith)
          (w.ensures.after ∙ ap₂ (λ (u v : ℕ). 0x4E ∷ u ∷ v ∷ []) c.band_code-upper.ensures c.band_code-lower.ensures)
          (ap length w.ensures.after ∙ omega arith),
    )

pub returns : goal.returns
unfolding row_bytes
returns c =
    let a = c.args in
    let l = c.loop-j in
    let m = row_mean a.self.setting a.self.exponent a.row.now in
    let e : l.j ≡ band_count a.self.setting / 2 = omega (arith, a.self.half) in
    l.invariant.2
    ∙ ap (λ (k : ℕ). overwrite (concat_to k (spec_word m)) a.out.now) e
    ∙ overwrite-all (concat_to (band_count a.self.setting / 2) (spec_word m)) a.out.now (length-words m (band_count a.self.setting / 2) ∙ omega (arith, a.self.half))
