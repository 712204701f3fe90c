-- `settings::running` meets its contract. Assumes nothing.
use Rattle.std.proofs.Common.{◌≡◌, ◌<◌, arith}
use borrow.Author.Tests.{lt-ltb}
use Rattle.settings.specs.Settings.{enabled_count, running_of}
use Rattle.settings.proofs.running.Goals as goal

pub returns-then-enabled_count-ne0 : goal.returns-then-enabled_count-ne0
unfolding running_of
returns-then-enabled_count-ne0 c =
    let a = c.args.registers in
    let some : 0 < enabled_count a = omega (arith, c.enabled_count.ensures) in
    rw (lt-ltb 0 (enabled_count a) some, c.averaged_spectra.ensures, c.period_ticks.ensures)

pub returns-else-enabled_count-ne0 : goal.returns-else-enabled_count-ne0
unfolding running_of
returns-else-enabled_count-ne0 c =
    let none : enabled_count c.args.registers ≡ 0 = omega (arith, c.enabled_count.ensures) in
    rw (c.enabled_count.ensures, none)
