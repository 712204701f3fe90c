use Rattle.std.proofs.Common.{rules, arith, ◌≡◌, Err, sym, ap, ◌∙◌}
use Rattle.refusal.specs.declared.Refusal.{Refusal}
use Rattle.refusal.specs.Outcome.{answer_outcome}
use Rattle.interval.proofs.Start.{start_none, start-some, ok_or-none, ok_or-some, start_is}
use Rattle.interval.proofs.Rules.{too_long, no-limit, nothing, chosen}
use Rattle.interval.proofs.choose_interval.Goals as goal

pub returns-then-index-gt-MOST_BLOCKS : goal.returns-then-index-gt-MOST_BLOCKS
returns-then-index-gt-MOST_BLOCKS c =
    let a = c.args in
    sym (too_long a.index.now a.bonus a.limit c.if-index-gt-MOST_BLOCKS.true)

pub returns-then-limit-eq0 : goal.returns-then-limit-eq0
returns-then-limit-eq0 c =
    let a = c.args in
    sym (no-limit a.index.now a.bonus a.limit c.if-index-gt-MOST_BLOCKS.false c.if-limit-eq0.true)

pub returns-in_err-start : goal.returns-in_err-start
returns-in_err-start c =
    let a = c.args in
    let e : c.from_residual.result ≡ Err Refusal.NothingToSend = search rules in
    let none = ok_or-none _ c.greatest.result (sym c.ok_or.ensures.value ∙ c.in_err-start.was) in
    let zero = start_none a.index.now (sym c.greatest.ensures ∙ none) in
    ap answer_outcome e ∙ sym (nothing a.index.now a.bonus a.limit c.if-index-gt-MOST_BLOCKS.false c.if-limit-eq0.false zero)

pub invariant_of-course : goal.invariant_of-course
invariant_of-course c =
    let a = c.args in
    let some = ok_or-some _ c.greatest.result (sym c.ok_or.ensures.value ∙ c.in_ok-start.was) in
    let s = start-some a.index.now c.in_ok-start.start (sym c.greatest.ensures ∙ some) in
    record { start_in_bounds = omega (arith, s.1, (start_is a.index.now s.0).inside); index_len_bound = c.if-index-gt-MOST_BLOCKS.false }

pub returns : goal.returns
returns c =
    let a = c.args in
    let some = ok_or-some _ c.greatest.result (sym c.ok_or.ensures.value ∙ c.in_ok-start.was) in
    let s = start-some a.index.now c.in_ok-start.start (sym c.greatest.ensures ∙ some) in
    chosen a.index.now a.bonus a.limit c.if-index-gt-MOST_BLOCKS.false c.if-limit-eq0.false s.0 c.in_ok-start.start s.1 c.grow-g.result c.grow-g.ensures
