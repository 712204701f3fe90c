-- `summed::sum_component` meets its contract: the tests pick the case of the rule. Assumes nothing.
use Rattle.std.proofs.Common.{◌≡◌, true, false, eqb, length, sym, ap, ◌∙◌, subst, arith, eq-eqb, ne_eqb}
use Rattle.summed.specs.declared.SumState.{SumState}
use Rattle.summed.specs.declared.Summed.{Summed}
use Rattle.summed.specs.Call.{are_lengths, sound, sum_left, component_summed}
use Rattle.summed.specs.Private.{Ready}
use Rattle.summed.proofs.Ready.{lengths-right, sound-ready, force-ready}
use Rattle.summed.proofs.sum_component.Goals as goal

pub returns-then-not-are_lengths : goal.returns-then-not-are_lengths
unfolding component_summed
returns-then-not-are_lengths c =
    let a = c.args in
    let wrong : are_lengths (length a.totals.now) (length a.pairs.now) (length a.out.now) ≡ false =
    sym c.are_lengths.ensures ∙ c.if-not-are_lengths.true in
    simp wrong (ap (λ (s : Summed). sum_left s a.totals.now a.out.now) c.refused.ensures)

pub is_sound-requires : goal.is_sound-requires
is_sound-requires c =
    let a = c.args in
    (lengths-right a.totals.now a.pairs.now a.out.now (sym c.are_lengths.ensures ∙ c.if-not-are_lengths.false)).totals-length

pub returns-then-not-is_sound : goal.returns-then-not-is_sound
unfolding component_summed
returns-then-not-is_sound c =
    let a = c.args in
    let right : are_lengths (length a.totals.now) (length a.pairs.now) (length a.out.now) ≡ true = sym c.are_lengths.ensures ∙ c.if-not-are_lengths.false in
    let unsound : sound a.state a.totals.now ≡ false = sym c.is_sound.ensures ∙ c.if-not-is_sound.true in
    simp (right, unsound) (ap (λ (s : Summed). sum_left s a.totals.now a.out.now) c.refused-then-not-is_sound.ensures)

pub returns-then-component-state : goal.returns-then-component-state
unfolding component_summed
returns-then-component-state c =
    let a = c.args in
    let right : are_lengths (length a.totals.now) (length a.pairs.now) (length a.out.now) ≡ true = sym c.are_lengths.ensures ∙ c.if-not-are_lengths.false in
    let is : sound a.state a.totals.now ≡ true = sym c.is_sound.ensures ∙ c.if-not-is_sound.false in
    let other : eqb a.component a.state.next ≡ false = ne_eqb a.component a.state.next (λ e. omega arith) in
    simp (right, is, other) (ap (λ (s : Summed). sum_left s a.totals.now a.out.now) c.refused-then-component-state.ensures)

pub accept-requires-clause-ready : goal.accept-requires-clause-ready
accept-requires-clause-ready c =
    let a = c.args in
    let right : are_lengths (length a.totals.now) (length a.pairs.now) (length a.out.now) ≡ true = sym c.are_lengths.ensures ∙ c.if-not-are_lengths.false in
    let is : sound a.state a.totals.now ≡ true = sym c.is_sound.ensures ∙ c.if-not-is_sound.false in
    let lengths = lengths-right a.totals.now a.pairs.now a.out.now right in
    let ready = sound-ready a.state a.totals.now a.pairs.now is lengths.totals-length lengths.pairs-length in
    subst (λ (s : SumState). Ready s a.totals.now a.pairs.now) (sym c.in_force.ensures)
    (force-ready a.state a.totals.now a.pairs.now a.component a.first a.second ready)

pub returns : goal.returns
unfolding component_summed
returns c =
    let a = c.args in
    let right : are_lengths (length a.totals.now) (length a.pairs.now) (length a.out.now) ≡ true = sym c.are_lengths.ensures ∙ c.if-not-are_lengths.false in
    let is : sound a.state a.totals.now ≡ true = sym c.is_sound.ensures ∙ c.if-not-is_sound.false in
    let same : eqb a.component a.state.next ≡ true = eq-eqb a.component a.state.next (omega arith) in
    simp (right, is, same) (rw c.in_force.ensures at c.accept.ensures)
