-- `settings::averaged_spectra` meets its contract: the NAVG that 0x30 stores is at most 0xA. Assumes nothing.
use Rattle.std.proofs.Common.{◌≡◌, ◌^◌, ◌∙◌, ℕ, ap, arith}
use Rattle.registers.specs.Access.{register}
use Rattle.registers.specs.Store.{navg_of}
use Rattle.registers.specs.declared.Fields.{Fields}
use Rattle.registers.proofs.Laws.{one_shl}
use Rattle.registers.proofs.Stored.{first-stored}
use Rattle.settings.specs.Settings.{first_stored, averaged_spectra}
use Rattle.settings.proofs.averaged_spectra.Goals as goal

pub returns : goal.returns
unfolding averaged_spectra
returns c =
    let is : c.first_fields.result.navg ≡ navg_of (first_stored c.args.registers) = ap (λ (f : Fields). f.navg) c.first_fields.ensures in
    one_shl c.first_fields.result.navg 16 (omega (arith, is, (first-stored (register c.args.registers 0)).navg)) ∙ ap (λ (x : ℕ). 2 ^ x) is
