-- `snapshot::sample_count` meets its contract: the count of ones is the number of components. Assumes nothing.
use Prim.Native.Nat.{ℕ, ◌*◌}
use mathlib.Core.Path.{ap}
use native.Mathlib.Omega.{arith}
use lib.Count.{ones-le}
use Rattle.snapshot.proofs.Packets.{components-ones}
use Rattle.snapshot.proofs.sample_count.Goals as goal

pub overflow_cast-result : goal.overflow_cast-result
overflow_cast-result c = omega (arith, ones-le 8 c.args.mask c.ranges.mask.fits)

pub overflow_mul-result : goal.overflow_mul-result
overflow_mul-result c = omega (arith, ones-le 8 c.args.mask c.ranges.mask.fits)

pub returns : goal.returns
returns c = ap (λ (n : ℕ). 128 * n) (components-ones c.args.mask c.ranges.mask.fits)
