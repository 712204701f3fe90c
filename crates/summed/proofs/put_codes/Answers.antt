-- `summed::put_codes` meets its contract. The loop: the output begins with the codes of the totals so far, and is as it was after them. Assumes
-- nothing.
use Rattle.std.proofs.Common.{◌≡◌, ℕ, ◌*◌, ◌/◌, ◌%◌, ◌+◌, ◌++◌, length, get_or, set, drop, sym, refl, ap, ap₂, ◌∙◌, arith, length-set}
use Rattle.lists.specs.Tables.{concat_to}
use Rattle.words.specs.Words.{pair_bytes}
use Rattle.summed.specs.Totals.{code_bytes}
use Rattle.fields.proofs.Pairs.{pairs-length, pairs-more}
use Rattle.summed.proofs.Codes.{code_at}
use Rattle.summed.proofs.put_codes.Goals as goal

pub loop-i-init : goal.loop-i-init
unfolding concat_to
loop-i-init c = (omega arith, refl, c.requires, refl, refl)

pub loop-i-preserved : goal.loop-i-preserved
loop-i-preserved c =
    let a = c.args in
    let l = c.loop-i in
    let code = c.compress_sum.result in
    let high : get_or c.to_be_bytes.result 0 0 ≡ code / 256 = rw c.to_be_bytes.ensures (omega (arith, c.compress_sum.type_inv)) in
    let low : get_or c.to_be_bytes.result 1 0 ≡ code % 256 = rw c.to_be_bytes.ensures refl in (
      omega arith,
      l.invariant.1,
      l.invariant.2,
      simp length-set l.invariant.3,
      ap₂ (λ (x y : ℕ). set (set l.out (2 * l.i) x) (2 * l.i + 1) y) high low
          ∙ pairs-more (code_at a.totals.now) a.out.now l.out l.i code (omega arith) l.invariant.4 c.compress_sum.ensures,
    )

pub returns : goal.returns
unfolding code_bytes
returns c =
    let a = c.args in
    let l = c.loop-i in
    let n = length a.totals.now in
    let e : l.i ≡ n = omega arith in
    l.invariant.4 ∙ ap (λ (m : ℕ). concat_to m (λ j. pair_bytes (code_at a.totals.now j)) ++ drop (2 * m) a.out.now) e
    ∙ ap (λ (m : ℕ). concat_to n (λ j. pair_bytes (code_at a.totals.now j)) ++ drop m a.out.now) (sym (pairs-length (code_at a.totals.now) n))
