-- `dfb_summed::dfb_sum_component` meets its contract: the test picks the case of the rule, and the state is loaded and stored. Assumes nothing.
use Prim.Native.Nat.{ℕ, ◌<◌}
use mathlib.Core.Path.{◌≡◌, sym, ap, subst, ◌∙◌}
use mathlib.Core.List.{List}
use native.Mathlib.Omega.{arith}
use lib.IntN.{ℤ}
use Rattle.std.specs.Prelude.{Result}
use Rattle.refusal.specs.declared.Refusal.{Refusal}
use Rattle.refusal.specs.Outcome.{answer_outcome}
use Rattle.summed.specs.declared.SumState.{SumState}
use Rattle.summed.specs.Call.{SumLeft, component_summed}
use Rattle.dfb_refusals.specs.Numbers.{above16, outcome_number}
use Rattle.dfb_summed.specs.Calls.{state_of, sum_call_left}
use Rattle.dfb_summed.proofs.Calls.{call-other, call-three, call-done}
use Rattle.dfb_summed.proofs.Theorems.{Fits, left-fits}
use Rattle.dfb_summed.proofs.dfb_sum_component.Goals as goal

pub returns-then-state-ne-STATE : goal.returns-then-state-ne-STATE
returns-then-state-ne-STATE c =
    let a = c.args in
    ap (λ (n : ℕ). sum_call_left n a.state.now a.totals.now a.out.now) c.above_16.ensures
    ∙ sym (call-other a.state.now a.totals.now a.component a.first_mask a.second_mask a.pairs.now a.out.now (λ e. omega (arith, e)))

-- the library was called with the state of the three numbers
summed : (loaded : SumState) (state totals : List ℕ) (n first second : ℕ) (pairs : List ℤ) (out : List ℕ) {left : SumLeft} →
    left ≡ component_summed loaded totals n first second pairs out → loaded ≡ state_of state → left ≡ component_summed (state_of state) totals n first second pairs out
summed loaded state totals n first second pairs out done load = done ∙ ap (λ (s : SumState). component_summed s totals n first second pairs out) load

abbrev number : Result ℕ Refusal → ℕ
number answer = outcome_number above16 (answer_outcome answer)

pub overflow_cast-result : goal.overflow_cast-result
overflow_cast-result c =
    let a = c.args in
    let few : c.in-Ok.n < above16 =
    subst (λ (r : Result ℕ Refusal). Fits (answer_outcome r)) c.in-Ok.is
    (subst Fits (sym (ap (λ (o : SumLeft). o.answer) (summed _ a.state.now a.totals.now a.component a.first_mask a.second_mask a.pairs.now a.out.now c.sum_component-done.ensures c.load.ensures)))
    (left-fits (state_of a.state.now) a.totals.now a.component a.first_mask a.second_mask a.pairs.now a.out.now)) in
    omega (arith, few)

pub returns-in-Ok : goal.returns-in-Ok
returns-in-Ok c =
    let a = c.args in
    call-done c.sum_component-done.result _ _ _ _ _ (ap number (sym c.in-Ok.is)) c.store.ensures (summed _ a.state.now a.totals.now a.component a.first_mask a.second_mask a.pairs.now a.out.now c.sum_component-done.ensures c.load.ensures)
    ∙ sym (call-three a.state.now a.totals.now a.component a.first_mask a.second_mask a.pairs.now a.out.now (omega arith))

pub returns-in-Err : goal.returns-in-Err
returns-in-Err c =
    let a = c.args in
    call-done c.sum_component-done.result _ _ _ _ _ (c.above_16-in-Err.ensures ∙ ap number (sym c.in-Err.is)) c.store.ensures (summed _ a.state.now a.totals.now a.component a.first_mask a.second_mask a.pairs.now a.out.now c.sum_component-done.ensures c.load.ensures)
    ∙ sym (call-three a.state.now a.totals.now a.component a.first_mask a.second_mask a.pairs.now a.out.now (omega arith))
