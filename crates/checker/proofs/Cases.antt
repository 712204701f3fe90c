-- The two lists of specs/Claims.antt, by computation. Assumes nothing.
use mathlib.Core.Path.{refl}
use Rattle.lists.specs.Sums.{sum_to}
use Rattle.registers.specs.Store.{high_stored, low_stored, stored_at}
use Rattle.settings.specs.Settings.{averaged_spectra, period_ticks, enabled_of}
use Rattle.board_log.specs.Format.{decode}
use Rattle.board_log.specs.Cursor.{read_at}
use Rattle.checker.specs.Check.{within_period, check_steps, check_from, commands_checked}
use Rattle.checker.specs.Claims.{MendedCase, EndCase}

pub mended-case : MendedCase
unfolding commands_checked check_from check_steps read_at decode high_stored low_stored stored_at within_period averaged_spectra period_ticks enabled_of sum_to
mended-case = refl

pub end-case : EndCase
unfolding commands_checked check_from check_steps read_at decode high_stored low_stored stored_at within_period averaged_spectra period_ticks enabled_of sum_to
end-case = refl
