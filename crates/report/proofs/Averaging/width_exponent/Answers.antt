-- `report::Averaging::width_exponent` meets its contract. Assumes nothing.
use Rattle.std.proofs.Common.{◌+◌, arith}
use lib.Pow.{shr_le}
use Rattle.bands.specs.Band.{width_exponent}
use Rattle.registers.proofs.Counts.{setting-le, bands-count}
use Rattle.report.proofs.Averaging.width_exponent.Goals as goal

pub overflow_add-octave : goal.overflow_add-octave
overflow_add-octave c = omega (arith, setting-le c.args.self.setting c.args.b c.requires)

pub overflow_shr-octave : goal.overflow_shr-octave
overflow_shr-octave c = omega (arith, setting-le c.args.self.setting c.args.b c.requires)

pub overflow_cast-result : goal.overflow_cast-result
overflow_cast-result c = omega (arith, shr_le c.args.b (c.args.self.setting + 2), (bands-count c.args.self.setting).at_most)

pub returns-then-octave-eq0 : goal.returns-then-octave-eq0
unfolding width_exponent
returns-then-octave-eq0 c = omega arith

pub returns-else-octave-eq0 : goal.returns-else-octave-eq0
unfolding width_exponent
returns-else-octave-eq0 c = omega arith
