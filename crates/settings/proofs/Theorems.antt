-- The settings of sound registers. Assumes nothing.
use Prim.Native.Nat.{ℕ, ◌^◌}
use mathlib.Core.Path.{◌≡◌, ap}
use lib.Dec.{lit<}
use Rattle.registers.specs.Store.{stored_at, bins_of, navg_of, ncad_of}
use Rattle.registers.specs.Access.{register}
use Rattle.registers.proofs.Theorems.{sound-at}
use Rattle.settings.specs.Settings.{setting_of, averaged_spectra, period_ticks}
use Rattle.settings.specs.Claims.{SoundSettings}

pub sound-settings : SoundSettings
unfolding setting_of averaged_spectra period_ticks
sound-settings r h =
    let e : stored_at 0 (register r 0) ≡ register r 0 = sound-at r h 0 (lit< tt) in
    record { bins = ap bins_of e; navg = ap (λ (v : ℕ). 2 ^ navg_of v) e; ncad = ap (λ (v : ℕ). 2 ^ ncad_of v) e }
