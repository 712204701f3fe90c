-- `settings::enabled` meets its contract. Assumes nothing.
use Rattle.std.proofs.Common.{rules}
use Rattle.settings.specs.Settings.{enabled_of}
use Rattle.settings.proofs.enabled.Goals as goal

pub returns-in-Some : goal.returns-in-Some
unfolding enabled_of
returns-in-Some c = search rules

pub returns-in-None : goal.returns-in-None
unfolding enabled_of
returns-in-None c = search rules
