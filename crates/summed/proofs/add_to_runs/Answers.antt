-- `summed::add_to_runs` meets its contract: the first 1,024 totals are the first mask's run, and the others the second's. Assumes nothing.
use Rattle.std.proofs.Common.{◌≡◌, ℕ, ◌+◌, Bool, true, false, cond, List, ◌++◌, take, drop, ℤ, sym, ap, ◌∙◌, arith, length-drop, take-append-drop, length-take-le, get_or-drop, get_or-take}
use Rattle.summed.specs.declared.SumState.{SumState}
use Rattle.summed.specs.Component.{has_component}
use Rattle.summed.specs.Totals.{added_run}
use Rattle.summed.specs.Call.{totals_with}
use Rattle.summed.specs.Private.{AddedTo, Ready}
use Rattle.summed.proofs.Laws.{from_on, behind-put}
use Rattle.summed.proofs.add_to_runs.Goals as goal

first-ready : (s : SumState) (totals : List ℕ) (pairs : List ℤ) → Ready s totals pairs → AddedTo (take 1024 totals) pairs
first-ready s totals pairs r =
    record {
      run_length = length-take-le 1024 totals (omega (arith, r.totals-length));
      pairs-length = r.pairs-length;
      small = λ k h. omega (arith, get_or-take 1024 totals k 0 h, r.small k (omega arith));
    }

second-ready : (s : SumState) (totals : List ℕ) (pairs : List ℤ) → Ready s totals pairs → AddedTo (drop 1024 totals) pairs
second-ready s totals pairs r =
    record {
      run_length = omega (arith, length-drop 1024 totals, r.totals-length);
      pairs-length = r.pairs-length;
      small = λ k h. omega (arith, get_or-drop 1024 totals k 0, r.small (1024 + k) (omega arith));
    }

-- the totals that are due, by what the tests of the two masks gave
due : (s : SumState) (totals : List ℕ) (pairs : List ℤ) (x y : Bool) → has_component s.first s.next ≡ x → has_component s.second s.next ≡ y →
    totals_with s pairs totals ≡ cond x (added_run (take 1024 totals) pairs) (take 1024 totals) ++ cond y (added_run (drop 1024 totals) pairs) (drop 1024 totals)
unfolding totals_with
due s totals pairs x y one two = rw (one, two)

pub add_to_both-requires : goal.add_to_both-requires
add_to_both-requires c =
    let start = c in
    let a = start.args in
    record {
      added_to = first-ready a.state a.totals.now a.pairs.now start.requires;
      added_to_2 = second-ready a.state a.totals.now a.pairs.now start.requires;
    }

pub slice_bounds-add_powers-end-else-is_second : goal.slice_bounds-add_powers-end-else-is_second
slice_bounds-add_powers-end-else-is_second c = sym (length-take-le 1024 c.args.totals.now (omega arith))

pub add_powers-requires : goal.add_powers-requires
add_powers-requires c =
    let start = c in
    let a = start.args in
    first-ready a.state a.totals.now a.pairs.now start.requires

pub add_powers-requires-then-is_second-2 : goal.add_powers-requires-then-is_second-2
add_powers-requires-then-is_second-2 c =
    let start = c in
    let a = start.args in
    rw (from_on 1024 a.totals.now) (second-ready a.state a.totals.now a.pairs.now start.requires)

pub returns-then-is_second : goal.returns-then-is_second
returns-then-is_second c =
    let a = c.args in
    c.add_to_both.ensures ∙ sym (due a.state a.totals.now a.pairs.now true true (sym c.has_component.ensures ∙ c.if-has_component.true) (sym c.has_component-is_second.ensures ∙ c.if-is_second.true))

pub returns-else-is_second : goal.returns-else-is_second
returns-else-is_second c =
    let a = c.args in
    let l = a.totals.now in
    ap (λ (run : List ℕ). run ++ drop 1024 l) c.add_powers.ensures
    ∙ sym (due a.state a.totals.now a.pairs.now true false (sym c.has_component.ensures ∙ c.if-has_component.true) (sym c.has_component-is_second.ensures ∙ c.if-is_second.false))

pub returns-then-is_second-2 : goal.returns-then-is_second-2
returns-then-is_second-2 c =
    let a = c.args in
    let l = a.totals.now in
    let second : c.add_powers-then-is_second-2.new.run ≡ added_run (drop 1024 l) a.pairs.now = rw (from_on 1024 l) at c.add_powers-then-is_second-2.ensures in
    behind-put 1024 c.add_powers-then-is_second-2.new.run l ∙ ap (λ (run : List ℕ). take 1024 l ++ run) second
    ∙ sym (due a.state a.totals.now a.pairs.now false true (sym c.has_component.ensures ∙ c.if-has_component.false) (sym c.has_component-is_second.ensures ∙ c.if-is_second-2.true))

pub returns-else-is_second-2 : goal.returns-else-is_second-2
returns-else-is_second-2 c =
    let a = c.args in
    sym (due a.state a.totals.now a.pairs.now false false (sym c.has_component.ensures ∙ c.if-has_component.false) (sym c.has_component-is_second.ensures ∙ c.if-is_second-2.false) ∙ take-append-drop 1024 a.totals.now)
