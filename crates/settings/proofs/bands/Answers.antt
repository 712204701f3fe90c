-- `settings::bands` meets its contract: the setting is at most 2, and the constant has the count of each such setting. Assumes nothing.
use Rattle.std.proofs.Common.{◌∙◌, ap, arith}
use Rattle.registers.specs.Store.{band_count}
use Rattle.registers.proofs.Counts.{count_at}
use Rattle.settings.proofs.Settings.{setting-le}
use Rattle.settings.proofs.bands.Goals as goal

pub returns : goal.returns
returns c =
    count_at c.bin_setting.result (omega (arith, c.bin_setting.ensures, setting-le c.args.registers)) ∙ ap band_count c.bin_setting.ensures
