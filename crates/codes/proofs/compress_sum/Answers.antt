-- `codes::compress_sum` meets its contract: the exponent is the least one, so the mantissa fits. Assumes nothing.
use mathlib.Core.Path.{◌≡◌}
use Prim.Native.Nat.{ℕ, ◌+◌, ◌-◌}
use native.Mathlib.Omega.{arith}
use lib.Bits.{bit_or}
use lib.Count.{count_leading_zeros}
use Rattle.codes.specs.Code.{exponent, sum_code}
use Rattle.codes.proofs.LeastExponent.{Compressed, compressed, exponent-or}
use Rattle.codes.proofs.compress_sum.Goals as goal

abbrev zeros : goal.Start → ℕ
zeros c = count_leading_zeros 64 (bit_or c.args.v 1023)

by-zeros : (c : goal.Start) → exponent 10 c.args.v + 10 + zeros c ≡ 64
by-zeros c = exponent-or 10 64 c.args.v c.ranges.v.fits (omega arith)

done : (c : goal.Start) → Compressed 10 c.args.v (54 - zeros c)
done c = compressed 10 c.args.v (54 - zeros c) (omega (arith, by-zeros c))

pub returns : goal.returns
unfolding sum_code
returns c = (done c).is

pub overflow_sub-e : goal.overflow_sub-e
overflow_sub-e c = omega (arith, by-zeros c)

pub overflow_add-result : goal.overflow_add-result
overflow_add-result c = omega (arith, done c)

pub overflow_cast-result-2 : goal.overflow_cast-result-2
overflow_cast-result-2 c = omega (arith, done c)
