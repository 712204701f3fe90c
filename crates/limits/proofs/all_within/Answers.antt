-- `limits::all_within` meets its contract: each entry stands beside its limit. Assumes nothing.
use Rattle.std.proofs.Common.{◌∙◌, ℕ, ◌&&◌, Bool, true, rules}
use borrow.Author.Tests.{tests}
use Rattle.std.proofs.lemmas.Iterator.{YieldsList-from_slice, YieldsList-from_zip}
use Rattle.std.proofs.lemmas.Iterator.Consumers.{fold_from_yields_List}
use Rattle.limits.proofs.Folds.{pair, pairs-within}
use Rattle.limits.proofs.all_within.Goals as goal

both-within : Bool → ℕ × ℕ → Bool
both-within t q = t && pair q

pub returns : goal.returns
unfolding both-within
returns c =
    fold_from_yields_List _ both-within true c.fold.result c.fold.ensures.ran
    (YieldsList-from_zip (YieldsList-from_slice c.args.totals.now (cc)) (YieldsList-from_slice c.args.limits.now (cc))) (λ t x r q k. search (rules, tests))
    ∙ pairs-within c.args.totals.now c.args.limits.now c.requires
