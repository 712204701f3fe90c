-- Each arm is a case of the outcome's number.
use Rattle.std.proofs.Common.{arith, ℕ, Result, sym, ap, ◌∙◌}
use Rattle.refusal.specs.declared.Refusal.{Refusal}
use Rattle.refusal.specs.Outcome.{Filled, answer_outcome}
use Rattle.dfb_refusals.specs.Numbers.{above16, outcome_number}
use Rattle.dfb_refusals.proofs.Numbers.{refused-number, numbered}
use Rattle.dfb_coarse.proofs.Apart.{coarse-below}
use Rattle.dfb_coarse.proofs.dfb_coarse_totals.Goals as goal

pub overflow_cast-result : goal.overflow_cast-result
overflow_cast-result c =
    omega (arith, (coarse-below _ _ _).value _ (sym (ap (λ (f : Filled ℕ). f.answer) c.coarse_totals.ensures) ∙ ap answer_outcome c.in-Ok.is))

pub returns-in-Ok : goal.returns-in-Ok
returns-in-Ok c =
    numbered above16 _ (sym (ap (λ (w : Result ℕ Refusal). outcome_number above16 (answer_outcome w)) c.in-Ok.is)) c.coarse_totals.ensures

pub returns-in-Err : goal.returns-in-Err
returns-in-Err c =
    numbered above16 _ (refused-number above16 c.in-Err.refusal c.above_16.ensures (ap answer_outcome (sym c.in-Err.is))) c.coarse_totals.ensures
