-- `codes::expand_sum` meets its contract: m is at most (2 ^ 64 - 1) / 2 ^ e exactly where m · 2 ^ e is below 2 ^ 64. Assumes nothing.
use Prim.Native.Nat.{ℕ, ◌*◌, ◌/◌, ◌%◌, ◌^◌, ◌-◌, ◌≤◌, ◌<◌, suc-le-suc}
use native.Mathlib.Nat.{le-div_iff_mul-le, div-lt_iff_lt-mul, mod-eq_of_lt}
use native.Mathlib.Omega.{arith}
use lib.Pow.{pow_pos}
use borrow.Author.Rules.{rules}
use borrow.Author.Tests.{lt-ltb, le-ltb}
use Rattle.codes.specs.Code.{value_of, sum_value}
use Rattle.codes.proofs.expand_sum.Goals as goal

fits : (m e : ℕ) → m ≤ (2 ^ 64 - 1) / 2 ^ e → m * 2 ^ e < 2 ^ 64
fits m e h = suc-le-suc ((le-div_iff_mul-le (pow_pos e)).0 h)

over : (m e : ℕ) → (2 ^ 64 - 1) / 2 ^ e < m → 2 ^ 64 ≤ m * 2 ^ e
over m e h = (div-lt_iff_lt-mul (pow_pos e)).0 h

pub overflow_cast-m : goal.overflow_cast-m
overflow_cast-m c = search rules

pub overflow_cast-e : goal.overflow_cast-e
overflow_cast-e c = search rules

pub overflow_shr-e : goal.overflow_shr-e
overflow_shr-e c = search rules

pub overflow_cast-result : goal.overflow_cast-result
overflow_cast-result c = search rules

pub overflow_shl-result : goal.overflow_shl-result
overflow_shl-result c = search rules

pub returns-then-m-e : goal.returns-then-m-e
unfolding sum_value value_of
returns-then-m-e c =
    let e : ℕ = c.args.code / 1024 in
    let m : ℕ = c.args.code % 1024 in
    let h : m * 2 ^ e < 2 ^ 64 = fits m e (omega arith) in
    simp (lt-ltb _ _ h, mod-eq_of_lt h)

pub returns-else-m-e : goal.returns-else-m-e
unfolding sum_value value_of
returns-else-m-e c =
    let e : ℕ = c.args.code / 1024 in
    let m : ℕ = c.args.code % 1024 in
    simp (le-ltb _ _ (over m e (omega arith)))
