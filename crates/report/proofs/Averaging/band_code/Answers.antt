-- `report::Averaging::band_code` meets its contract. Assumes nothing.
use Rattle.std.proofs.Common.{arith}
use Rattle.registers.proofs.Counts.{bands-count}
use Rattle.report.proofs.Averaging.band_code.Goals as goal

pub offset_bounds-row-b : goal.offset_bounds-row-b
offset_bounds-row-b c = omega (arith, (bands-count c.args.self.setting).at_most)

pub bounds-row-b : goal.bounds-row-b
bounds-row-b c = omega (arith, (bands-count c.args.self.setting).at_most)
