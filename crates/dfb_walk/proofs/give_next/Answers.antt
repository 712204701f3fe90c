-- `dfb_walk::give_next` meets its contract: each return is a case of the rule. Assumes nothing.
use Rattle.std.proofs.Common.{ℕ, List, refl, ap, sym, ◌∙◌, arith, Ok}
use Rattle.std.proofs.lemmas.Result.{err_from_is_err_and}
use Rattle.refusal.specs.Number.{number_of}
use Rattle.refusal.specs.Outcome.{given}
use Rattle.walk.specs.Items.{bytes_of}
use Rattle.walk.proofs.Laws.{item-passes}
use Rattle.dfb_refusals.specs.Numbers.{values_put}
use Rattle.dfb_walk.specs.Next.{place_of, kind_of, a_of, b_of, walk_numbers}
use Rattle.dfb_walk.specs.Private.{narrowed_walk}
use Rattle.dfb_walk.proofs.Rule.{put_given, put_refused, put_same, inside_of, outside-refused-by, narrowed-answered, offset-lt, stepped}
use Rattle.dfb_walk.proofs.give_next.Goals as goal

pub returns-then-is_outside-clause-given : goal.returns-then-is_outside-clause-given
returns-then-is_outside-clause-given c =
    let x = c.args in
    outside-refused-by x.log.now x.walk.now x.item.now (sym c.is_outside.ensures ∙ c.if-is_outside.true)

pub returns-in_err-found-clause-given : goal.returns-in_err-found-clause-given
returns-in_err-found-clause-given c =
    let x = c.args in
    let p = err_from_is_err_and c.from_residual.result c.from_residual.ensures.1 in
    let e = stepped x.log.now x.walk.now c.load.result c.next-advance.result _ c.load.ensures c.next-advance.ensures c.in_err-found.was in
    rw (p.1, p.2) (narrowed-answered x.log.now x.walk.now x.item.now _ (sym c.is_outside.ensures ∙ c.if-is_outside.false) e)

pub returns-in_err-found-clause-near : goal.returns-in_err-found-clause-near
returns-in_err-found-clause-near c =
    let x = c.args in
    let p = err_from_is_err_and c.from_residual.result c.from_residual.ensures.1 in
    let f = c.in_err-found.field-0.0 in
    let inside = inside_of x.log.now x.walk.now (sym c.is_outside.ensures ∙ c.if-is_outside.false) in
    let e = stepped x.log.now x.walk.now c.load.result c.next-advance.result _ c.load.ensures c.next-advance.ensures c.in_err-found.was in
    rw (p.1, p.2) (offset-lt x.log.now (narrowed_walk x.walk.now) c.next-advance.result.walk (number_of f.refusal) f.offset inside.short inside.near e)

pub overflow_sub-bytes : goal.overflow_sub-bytes
overflow_sub-bytes c =
    let x = c.args in
    let e = stepped x.log.now x.walk.now c.load.result c.next-advance.result _ c.load.ensures c.next-advance.ensures (c.in_ok-found.was ∙ ap Ok c.in-Item.is) in
    omega (arith, (item-passes x.log.now (narrowed_walk x.walk.now) c.in-Item.found c.next-advance.result.walk e).place)

pub item_numbers-requires : goal.item_numbers-requires
item_numbers-requires c =
    let x = c.args in
    let e = stepped x.log.now x.walk.now c.load.result c.next-advance.result _ c.load.ensures c.next-advance.ensures (c.in_ok-found.was ∙ ap Ok c.in-Item.is) in
    omega (arith, (item-passes x.log.now (narrowed_walk x.walk.now) c.in-Item.found c.next-advance.result.walk e).place)

pub returns-in_err-put_numbers-in-Item-clause-given : goal.returns-in_err-put_numbers-in-Item-clause-given
returns-in_err-put_numbers-in-Item-clause-given c =
    let x = c.args in
    let i = c.in-Item.found in
    let p = err_from_is_err_and c.from_residual-in_err-put_numbers-in-Item.result c.from_residual-in_err-put_numbers-in-Item.ensures.1 in
    let e = stepped x.log.now x.walk.now c.load.result c.next-advance.result _ c.load.ensures c.next-advance.ensures (c.in_ok-found.was ∙ ap Ok c.in-Item.is) in
    rw (p.1, p.2)
    (put_refused (kind_of i) (place_of x.walk.now) (bytes_of i) (a_of i) (b_of i) x.walk.now x.item.now _ _
    (c.in_err-put_numbers-in-Item.ensures.put ∙ ap (λ (l : List ℕ). values_put (record { number = 0; values = l }) x.item.now) c.item_numbers.ensures)
    (walk_numbers c.next-advance.result.walk) _ refl
    ∙ narrowed-answered x.log.now x.walk.now x.item.now _ (sym c.is_outside.ensures ∙ c.if-is_outside.false) e)

pub returns-in_ok-put_numbers-in-Item-clause-given : goal.returns-in_ok-put_numbers-in-Item-clause-given
returns-in_ok-put_numbers-in-Item-clause-given c =
    let x = c.args in
    let i = c.in-Item.found in
    let e = stepped x.log.now x.walk.now c.load.result c.next-advance.result _ c.load.ensures c.next-advance.ensures (c.in_ok-found.was ∙ ap Ok c.in-Item.is) in
    ap (λ (l : List ℕ). record { answer = given 0; walk = l; item = c.put_numbers.new.list }) c.store.ensures
    ∙ put_given (kind_of i) (place_of x.walk.now) (bytes_of i) (a_of i) (b_of i) x.walk.now x.item.now _ _
    (c.in_ok-put_numbers-in-Item.ensures.put ∙ ap (λ (l : List ℕ). values_put (record { number = 0; values = l }) x.item.now) c.item_numbers.ensures)
    (walk_numbers c.next-advance.result.walk) refl
    ∙ narrowed-answered x.log.now x.walk.now x.item.now _ (sym c.is_outside.ensures ∙ c.if-is_outside.false) e

pub returns-in-End-clause-given : goal.returns-in-End-clause-given
returns-in-End-clause-given c =
    let x = c.args in
    let e = stepped x.log.now x.walk.now c.load.result c.next-advance.result _ c.load.ensures c.next-advance.ensures (c.in_ok-found.was ∙ ap Ok c.in-End.is) in
    put_same 0 (place_of x.walk.now) 0 c.in-End.records 0 x.walk.now x.item.now _ _ c.put_numbers-in-End.ensures.put
    ∙ narrowed-answered x.log.now x.walk.now x.item.now _ (sym c.is_outside.ensures ∙ c.if-is_outside.false) e
