-- `settings::period_ticks` meets its contract: the NCAD that 0x30 stores is at most 0xA. Assumes nothing.
use Rattle.std.proofs.Common.{◌≡◌, ◌^◌, ◌∙◌, ℕ, ap, arith}
use Rattle.registers.specs.Access.{register}
use Rattle.registers.specs.Store.{ncad_of}
use Rattle.registers.specs.declared.Fields.{Fields}
use Rattle.registers.proofs.Laws.{one_shl}
use Rattle.registers.proofs.Stored.{first-stored}
use Rattle.settings.specs.Settings.{first_stored, period_ticks}
use Rattle.settings.proofs.period_ticks.Goals as goal

pub overflow_shl-result : goal.overflow_shl-result
overflow_shl-result c =
    let is : c.first_fields.result.ncad ≡ ncad_of (first_stored c.args.registers) = ap (λ (f : Fields). f.ncad) c.first_fields.ensures in
    omega (arith, is, (first-stored (register c.args.registers 0)).ncad)

pub returns : goal.returns
unfolding period_ticks
returns c =
    let is : c.first_fields.result.ncad ≡ ncad_of (first_stored c.args.registers) = ap (λ (f : Fields). f.ncad) c.first_fields.ensures in
    one_shl c.first_fields.result.ncad 16 (omega (arith, is, (first-stored (register c.args.registers 0)).ncad)) ∙ ap (λ (x : ℕ). 2 ^ x) is
