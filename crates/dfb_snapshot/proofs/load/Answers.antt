-- `dfb_snapshot::load` meets its contract: ten numbers that are taken fit their fields. Assumes nothing.
use Rattle.std.proofs.Common.{arith}
use Rattle.dfb_snapshot.proofs.Headers.{taken}
use Rattle.dfb_snapshot.proofs.load.Goals as goal

pub bounds-header-0 : goal.bounds-header-0
bounds-header-0 c = omega (arith, (taken c.args.header.now c.requires).long)

pub overflow_cast-result : goal.overflow_cast-result
overflow_cast-result c = omega (arith, (taken c.args.header.now c.requires).coarse)

pub bounds-header-1 : goal.bounds-header-1
bounds-header-1 c = omega (arith, (taken c.args.header.now c.requires).long)

pub overflow_cast-result-2 : goal.overflow_cast-result-2
overflow_cast-result-2 c = omega (arith, (taken c.args.header.now c.requires).fine)

pub bounds-header-2 : goal.bounds-header-2
bounds-header-2 c = omega (arith, (taken c.args.header.now c.requires).long)

pub overflow_cast-result-3 : goal.overflow_cast-result-3
overflow_cast-result-3 c = omega (arith, (taken c.args.header.now c.requires).sequence)

pub bounds-header-3 : goal.bounds-header-3
bounds-header-3 c = omega (arith, (taken c.args.header.now c.requires).long)

pub bounds-header-4 : goal.bounds-header-4
bounds-header-4 c = omega (arith, (taken c.args.header.now c.requires).long)

pub overflow_cast-result-4 : goal.overflow_cast-result-4
overflow_cast-result-4 c = omega (arith, (taken c.args.header.now c.requires).switches12)

pub bounds-header-5 : goal.bounds-header-5
bounds-header-5 c = omega (arith, (taken c.args.header.now c.requires).long)

pub overflow_cast-result-5 : goal.overflow_cast-result-5
overflow_cast-result-5 c = omega (arith, (taken c.args.header.now c.requires).mask)

pub bounds-header-6 : goal.bounds-header-6
bounds-header-6 c = omega (arith, (taken c.args.header.now c.requires).long)

pub overflow_cast-result-6 : goal.overflow_cast-result-6
overflow_cast-result-6 c = omega (arith, (taken c.args.header.now c.requires).total)

pub bounds-header-7 : goal.bounds-header-7
bounds-header-7 c = omega (arith, (taken c.args.header.now c.requires).long)

pub overflow_cast-result-7 : goal.overflow_cast-result-7
overflow_cast-result-7 c = omega (arith, (taken c.args.header.now c.requires).artefacts)

pub bounds-header-8 : goal.bounds-header-8
bounds-header-8 c = omega (arith, (taken c.args.header.now c.requires).long)

pub overflow_cast-result-8 : goal.overflow_cast-result-8
overflow_cast-result-8 c = omega (arith, (taken c.args.header.now c.requires).snapshot)

pub bounds-header-9 : goal.bounds-header-9
bounds-header-9 c = omega (arith, (taken c.args.header.now c.requires).long)

pub overflow_cast-result-9 : goal.overflow_cast-result-9
overflow_cast-result-9 c = omega (arith, (taken c.args.header.now c.requires).number)
