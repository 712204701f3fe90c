use Rattle.std.proofs.Common.{arith, rules, tests, ◌≡◌, leb, ◌∙◌, sym, length}
use borrow.Author.Tests.{le-leb}
use Rattle.std.specs.List.{list_all}
use Rattle.std.proofs.lemmas.Iterator.{YieldsList-from_slice}
use Rattle.std.proofs.lemmas.Iterator.Search.{all_from_yields_List}
use Rattle.dfb_bursts.proofs.are_slots.Goals as goal

pub returns-then-status-le-MOST_SLOTS : goal.returns-then-status-le-MOST_SLOTS
returns-then-status-le-MOST_SLOTS c =
    let status = c.args.status.now in
    let e : c.all.result ≡ list_all (λ entry. leb entry 2) status =
    all_from_yields_List (λ entry. leb entry 2) _ _ c.all.result c.all.ensures.ran (YieldsList-from_slice status cc) (λ x b q k. search (rules, tests)) in
    e ∙ sym (simp (le-leb (length status) 32 (omega arith)))
