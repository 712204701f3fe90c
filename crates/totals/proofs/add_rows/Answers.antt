-- `totals::add_rows` meets its contract. The loop: the rows before row n have their powers. Assumes nothing.
use Rattle.std.proofs.Common.{◌≡◌, ℕ, ◌+◌, ◌-◌, ◌*◌, ◌≤◌, Bool, cond, sym, ◌∙◌, subst, ap₂, arith, rules}
use borrow.Rule.Slice.PartMut.{same_len_mid}
use Rattle.settings.proofs.Settings.{setting-le}
use Rattle.totals.specs.Private.{added_row}
use Rattle.totals.proofs.Rows.{row_step, rows_all}
use Rattle.lists.proofs.Overwriting.{part, length_part, parts_none}
use Rattle.totals.proofs.add_rows.Goals as goal

pub loop-n-init : goal.loop-n-init
loop-n-init c = (search rules, search rules, parts_none _ _)

pub add_if_enabled-requires : goal.add_if_enabled-requires
add_if_enabled-requires c =
    let a = c.args in
    let l = c.loop-n in
    record {
      setting_bound = subst (λ (x : ℕ). x ≤ 2) (sym c.bin_setting-setting.ensures) (setting-le a.registers);
      row_len = length_part l.totals (l.n * 112) 112 (omega arith);
      powers_len = length_part a.powers.now (l.n * 1024) 1024 (omega arith);
    }

pub loop-n-preserved : goal.loop-n-preserved
loop-n-preserved c =
    let a = c.args in
    let l = c.loop-n in
    let w = c.add_if_enabled in (
      search rules,
      same_len_mid (l.n * 112) (l.n * 112 + 112 - l.n * 112) l.totals w.new.row w.auto.row ∙ l.invariant.1,
      row_step a.registers a.totals.now a.powers.now c.requires.totals_len l.n l.totals _ (search rules) l.invariant.2
          (w.ensures
          ∙ ap₂ (λ (t : Bool) (s : ℕ). cond t (added_row s (part l.totals (l.n * 112) 112) (part a.powers.now (l.n * 1024) 1024)) (part l.totals (l.n * 112) 112))
          c.enabled.ensures c.bin_setting-setting.ensures),
    )

pub shape_of-totals : goal.shape_of-totals
shape_of-totals c = c.loop-n.invariant.1 ∙ sym c.requires.totals_len

pub returns : goal.returns
returns c =
    let a = c.args in
    let e : c.loop-n.n ≡ 7 = omega arith in
    rows_all a.registers a.totals.now a.powers.now c.requires.totals_len _ (rw e at c.loop-n.invariant.2)
