-- What is proved of the settings (01, "Registers 0x30 to 0x36"): proofs/Theorems.antt has it.
use Rattle.std.specs.Prelude.{◌^◌, ◌≡◌, true}
use Rattle.registers.specs.Store.{bins_of, navg_of, ncad_of}
use Rattle.registers.specs.Access.{register, registers_sound}
use Rattle.registers.specs.declared.Registers.{Registers}
use Rattle.settings.specs.Settings.{setting_of, averaged_spectra, period_ticks}

-- of sound registers the bin setting is the bins field that 0x30 holds, N is 2 to its NAVG, and C is 2 to its NCAD
pub record AsHeld (r : Registers) : Type 0 where
  pub bins : setting_of r ≡ bins_of (register r 0)
  pub navg : averaged_spectra r ≡ 2 ^ navg_of (register r 0)
  pub ncad : period_ticks r ≡ 2 ^ ncad_of (register r 0)

abbrev pub SoundSettings : Type 0
SoundSettings = (r : Registers) → registers_sound r ≡ true → AsHeld r
