-- `codes::exponent` meets its contract, at every width: the binary digits beyond the width are the least exponent. Assumes nothing.
use mathlib.Core.Path.{◌≡◌}
use Prim.Native.Nat.{◌-◌}
use native.Mathlib.Omega.{arith}
use lib.Count.{count_leading_zeros, leading_le}
use Rattle.codes.specs.Code.{exponent}
use Rattle.codes.proofs.LeastExponent.{exponent-leading}
use Rattle.codes.proofs.exponent.Goals as goal

by-zeros : (c : goal.Start) → exponent c.args.width c.args.v ≡ 64 - count_leading_zeros 64 c.args.v - c.args.width
by-zeros c = exponent-leading c.args.width 64 c.args.v c.ranges.v.fits

pub overflow_sub-digits : goal.overflow_sub-digits
overflow_sub-digits c = omega (arith, leading_le 64 c.args.v)

pub overflow_sub-result : goal.overflow_sub-result
overflow_sub-result c = omega arith

pub returns-then-digits-width : goal.returns-then-digits-width
returns-then-digits-width c = omega (arith, by-zeros c.before)

pub returns-else-digits-width : goal.returns-else-digits-width
returns-else-digits-width c = omega (arith, by-zeros c.before)
