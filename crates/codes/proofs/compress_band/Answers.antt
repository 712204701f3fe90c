-- `codes::compress_band` meets its contract: the exponent is the least one, so the mantissa fits, and half steps round it to the nearest.
-- Assumes nothing.
use Prim.Native.Nat.{◌+◌, ◌*◌, ◌/◌, ◌^◌, ◌≤◌}
use borrow.Author.Rules.{rules}
use native.Mathlib.Omega.{arith}
use Rattle.codes.proofs.LeastExponent.{exponent-le}
use Rattle.codes.proofs.BandCode.{Rounded, rounded}
use Rattle.codes.proofs.compress_band.Goals as goal

done : (c : goal.After-exponent-e) → Rounded c.args.v c.exponent-e.result ((c.args.v * 2 / 2 ^ c.exponent-e.result + 1) / 2)
done c = rounded c.args.v c.exponent-e.result c.exponent-e.ensures

at_most : (c : goal.After-exponent-e) → c.exponent-e.result ≤ 29
at_most c = omega (arith, c.exponent-e.ensures, exponent-le 3 32 c.args.v c.ranges.v.fits)

pub exponent-e-requires : goal.exponent-e-requires
exponent-e-requires c = search rules

pub overflow_mul-halves : goal.overflow_mul-halves
overflow_mul-halves c = search rules

pub overflow_cast-halves-2 : goal.overflow_cast-halves-2
overflow_cast-halves-2 c = search rules

pub overflow_shr-halves : goal.overflow_shr-halves
overflow_shr-halves c = omega (arith, at_most c)

pub overflow_add-m : goal.overflow_add-m
overflow_add-m c = omega (arith, (done c).small)

pub overflow_cast-result : goal.overflow_cast-result
overflow_cast-result c = search rules

pub overflow_mul-result : goal.overflow_mul-result
overflow_mul-result c = search rules

pub overflow_add-result : goal.overflow_add-result
overflow_add-result c = omega (arith, at_most c, (done c).small)

pub overflow_mul-result-2 : goal.overflow_mul-result-2
overflow_mul-result-2 c = omega (arith, (done c).small)

pub overflow_add-result-2 : goal.overflow_add-result-2
overflow_add-result-2 c = omega (arith, at_most c, (done c).small)

pub overflow_cast-result-2 : goal.overflow_cast-result-2
overflow_cast-result-2 c = omega (arith, at_most c, (done c).small)

pub returns : goal.returns
returns c = omega (arith, done c)
