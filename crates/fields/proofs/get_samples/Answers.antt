-- `fields::get_samples` meets its contract: the tests pick the case of the rule. Assumes nothing.
use Prim.Native.Nat.{◌/◌, ◌%◌}
use mathlib.Core.Path.{◌≡◌, ap}
use mathlib.Core.Bool.{true, false}
use mathlib.Core.List.{List}
use native.Mathlib.Omega.{arith}
use borrow.Author.Tests.{eq-eqb, ne_eqb, le-leb, lt-leb}
use lib.Dec.{eqb, leb}
use lib.IntN.{ℤ}
use lib.ListN.{length}
use Rattle.refusal.specs.Outcome.{given}
use Rattle.fields.specs.Samples.{get_outcome}
use Rattle.fields.proofs.get_samples.Goals as goal

pub returns-then-bytes-ne0 : goal.returns-then-bytes-ne0
unfolding get_outcome
returns-then-bytes-ne0 c =
    let a = c.args in
    let odd : eqb (length a.bytes.now % 2) 0 ≡ false = ne_eqb (length a.bytes.now % 2) 0 (λ e. c.if-bytes-ne0.true (omega (arith, e))) in
    simp odd

pub returns-then-samples-n : goal.returns-then-samples-n
unfolding get_outcome
returns-then-samples-n c =
    let a = c.args in
    let even : eqb (length a.bytes.now % 2) 0 ≡ true = eq-eqb (length a.bytes.now % 2) 0 (omega arith) in
    let short : leb (length a.bytes.now / 2) (length a.samples.now) ≡ false = lt-leb (length a.bytes.now / 2) (length a.samples.now) (omega arith) in
    simp (even, short)

pub returns : goal.returns
unfolding get_outcome
returns c =
    let a = c.args in
    let n = length a.bytes.now / 2 in
    let even : eqb (length a.bytes.now % 2) 0 ≡ true = eq-eqb (length a.bytes.now % 2) 0 (omega arith) in
    let room : leb (length a.bytes.now / 2) (length a.samples.now) ≡ true = le-leb (length a.bytes.now / 2) (length a.samples.now) (omega arith) in
    simp (even, room) (ap (λ (l : List ℤ). record { answer = given n; buffer = l }) c.get_each.ensures)

pub get_each-requires : goal.get_each-requires
get_each-requires c = (omega arith, omega arith)
