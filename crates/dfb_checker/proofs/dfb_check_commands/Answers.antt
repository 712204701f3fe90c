-- `dfb_checker::dfb_check_commands` meets its contract: each return is a case of the rule. Assumes nothing.
use Prim.Native.Nat.{ℕ, ◌%◌, ◌+◌, ◌^◌}
use mathlib.Core.Path.{◌≡◌, sym, ap, ◌∙◌}
use native.Mathlib.Omega.{arith}
use Rattle.refusal.specs.Number.{number_of}
use Rattle.registers.specs.declared.Registers.{Registers}
use Rattle.checker.specs.Check.{accepted, refused_at, judgement_outcome, Checked}
use Rattle.checker.proofs.Theorems.{check-refusals}
use Rattle.dfb_refusals.specs.Numbers.{above63, with_offset, filled_number}
use Rattle.dfb_refusals.proofs.Numbers.{numbered}
use Rattle.dfb_checker.specs.Answer.{judged_answer}
use Rattle.dfb_checker.proofs.Theorems.{too_long, verdict-answered}
use Rattle.dfb_checker.proofs.dfb_check_commands.Goals as goal

pub returns-then-log-ge-TOO_LONG : goal.returns-then-log-ge-TOO_LONG
returns-then-log-ge-TOO_LONG c =
    let a = c.args in
    numbered above63 _ c.above_63.ensures (too_long a.log.now a.registers.now (omega arith))

pub returns-in-Ok : goal.returns-in-Ok
returns-in-Ok c =
    let a = c.args in
    let v = c.check-verdict.ensures in
    let e = sym (ap (λ (x : Checked). x.judged) v) ∙ ap judgement_outcome c.in-Ok.is in
    c.put_registers.ensures
    ∙ ap (λ (r : Registers). filled_number above63 (judged_answer accepted r a.registers.now)) (ap (λ (x : Checked). x.registers) v)
    ∙ sym (ap (filled_number above63) (verdict-answered a.log.now a.registers.now accepted (omega arith) e))

pub returns-in-Err : goal.returns-in-Err
returns-in-Err c =
    let a = c.args in
    let n = number_of c.in-Err.fault.refusal in
    let offset = c.in-Err.fault.offset in
    let e = sym (ap (λ (x : Checked). x.judged) c.check-verdict.ensures) ∙ ap judgement_outcome c.in-Err.is in
    let whole : offset % 2 ^ 55 ≡ offset = omega (arith, (check-refusals a.log.now n offset e).inside) in
    numbered above63 _ (c.above_63_at.ensures ∙ ap (λ (k : ℕ). above63 + with_offset n k) whole)
    (sym (verdict-answered a.log.now a.registers.now (refused_at n offset) (omega arith) e))
