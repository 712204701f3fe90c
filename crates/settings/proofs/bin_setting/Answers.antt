-- `settings::bin_setting` meets its contract: the bins that 0x30 stores are at most 2. Assumes nothing.
use Rattle.std.proofs.Common.{ap}
use Rattle.registers.specs.declared.Fields.{Fields}
use Rattle.settings.specs.Settings.{setting_of}
use Rattle.settings.proofs.bin_setting.Goals as goal

pub returns : goal.returns
unfolding setting_of
returns c = ap (λ (f : Fields). f.bins) c.first_fields.ensures
