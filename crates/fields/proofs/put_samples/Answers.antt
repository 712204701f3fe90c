-- `fields::put_samples` meets its contract: the test picks the case of the rule. Assumes nothing.
use Prim.Native.Nat.{ℕ, ◌*◌}
use mathlib.Core.Path.{◌≡◌, ap}
use mathlib.Core.Bool.{true, false}
use mathlib.Core.List.{List}
use native.Mathlib.Omega.{arith}
use borrow.Author.Tests.{le-leb, lt-leb}
use lib.Dec.{leb}
use lib.ListN.{length}
use Rattle.refusal.specs.Outcome.{given}
use Rattle.fields.specs.Samples.{put_outcome}
use Rattle.fields.proofs.put_samples.Goals as goal

pub returns-then-out-samples : goal.returns-then-out-samples
unfolding put_outcome
returns-then-out-samples c =
    let a = c.args in
    let short : leb (2 * length a.samples.now) (length a.out.now) ≡ false = lt-leb (2 * length a.samples.now) (length a.out.now) (omega arith) in
    simp short

pub returns : goal.returns
unfolding put_outcome
returns c =
    let a = c.args in
    let room : leb (2 * length a.samples.now) (length a.out.now) ≡ true = le-leb (2 * length a.samples.now) (length a.out.now) (omega arith) in
    simp room (ap (λ (l : List ℕ). record { answer = given (2 * length a.samples.now); buffer = l }) c.put_each.ensures)
