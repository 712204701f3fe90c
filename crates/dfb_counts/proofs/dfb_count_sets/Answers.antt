-- `dfb_counts::dfb_count_sets` meets its contract: each return is a case of the rule. Assumes nothing.
use Prim.Native.Nat.{ℕ, ◌+◌, ◌%◌, ◌^◌}
use mathlib.Core.Path.{◌≡◌, ap, sym, ◌∙◌}
use native.Mathlib.Omega.{arith}
use Rattle.refusal.specs.Number.{number_of}
use Rattle.walk.specs.Outcomes.{end, refused_at}
use Rattle.walk.proofs.Claims.{walk-offsets}
use Rattle.counts.specs.declared.Tally.{Tally}
use Rattle.counts.specs.Counts.{ending_outcome, SetsCounted, sets_counted}
use Rattle.dfb_refusals.specs.Numbers.{above63, with_offset}
use Rattle.dfb_counts.specs.Calls.{lists_left, tally_put, count_number}
use Rattle.dfb_counts.proofs.Calls.{too_long, ending-answered}
use Rattle.dfb_counts.proofs.dfb_count_sets.Goals as goal

pub returns-then-log-ge-TOO_LONG : goal.returns-then-log-ge-TOO_LONG
returns-then-log-ge-TOO_LONG c =
    let a = c.args in
    ap (λ (n : ℕ). lists_left n a.counts.now a.registers.now) c.above_63.ensures
    ∙ ap count_number (too_long a.log.now a.counts.now a.registers.now (omega arith))

pub returns-in-Ok : goal.returns-in-Ok
returns-in-Ok c =
    let a = c.args in
    let s = c.count_sets-count.ensures in
    let e = sym (ap (λ (x : SetsCounted). x.ending) s) ∙ ap ending_outcome c.in-Ok.is in
    c.put_counted.ensures
    ∙ ap (λ (t : Tally). count_number (tally_put t a.counts.now a.registers.now)) (ap (λ (x : SetsCounted). x.tally) s)
    ∙ sym (ap count_number (ending-answered a.log.now a.counts.now a.registers.now (end _) (omega arith) e))

pub returns-in-Err : goal.returns-in-Err
unfolding sets_counted
returns-in-Err c =
    let a = c.args in
    let n = number_of c.in-Err.fault.refusal in
    let offset = c.in-Err.fault.offset in
    let e = sym (ap (λ (x : SetsCounted). x.ending) c.count_sets-count.ensures) ∙ ap ending_outcome c.in-Err.is in
    let whole : offset % 2 ^ 55 ≡ offset = omega (arith, walk-offsets a.log.now n offset e) in
    ap (λ (k : ℕ). lists_left k a.counts.now a.registers.now) (c.above_63_at.ensures ∙ ap (λ (k : ℕ). above63 + with_offset n k) whole)
    ∙ sym (ap count_number (ending-answered a.log.now a.counts.now a.registers.now (refused_at n offset) (omega arith) e))
