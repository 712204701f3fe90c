-- `codes::expand_band` meets its contract: each return by the tests that led there. Assumes nothing.
use mathlib.Core.Bool.{and-false}
use mathlib.Core.Path.{ap}
use Prim.Native.Nat.{ℕ, ◌/◌, ◌%◌}
use native.Mathlib.Nat.{mul-one}
use native.Mathlib.Omega.{arith}
use lib.Pow.{shl_exact}
use borrow.Author.Tests.{lt-leb, ne_eqb}
use Rattle.refusal.specs.Outcome.{given}
use Rattle.codes.specs.Code.{value_of, band_value, band_legal}
use Rattle.codes.proofs.Neighbours.{legal-if}
use Rattle.codes.proofs.expand_band.Goals as goal

pub returns-then-e-eq0 : goal.returns-then-e-eq0
unfolding band_legal band_value value_of
returns-then-e-eq0 c = simp (c.if-e-eq0.true, mul-one)

pub returns-then-code-gt244 : goal.returns-then-code-gt244
unfolding band_legal
returns-then-code-gt244 c =
    let code : ℕ = c.args.code in
    simp (ne_eqb (code / 8) 0 c.if-e-eq0.false, lt-leb (code / 8) 29 (omega arith), ne_eqb code 0xF4 (λ h. omega arith))

pub returns-then-m-lt4 : goal.returns-then-m-lt4
unfolding band_legal
returns-then-m-lt4 c =
    let code : ℕ = c.args.code in
    simp (ne_eqb (code / 8) 0 c.if-e-eq0.false, lt-leb 4 (code % 8) (omega arith), and-false, ne_eqb code 0xF4 (λ h. omega arith))

pub returns : goal.returns
unfolding band_value value_of
returns c =
    let code : ℕ = c.args.code in
    simp (legal-if code (omega arith) (λ h. omega arith)) (ap given (shl_exact 3 (code / 8) 64 (omega arith) (omega arith)))
