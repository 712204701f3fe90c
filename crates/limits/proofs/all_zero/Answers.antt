-- `limits::all_zero` meets its contract: the bits of all entries joined are 0 exactly if each entry is. Assumes nothing.
use Rattle.std.proofs.Common.{◌≡◌, ◌∙◌, ap, eqb, ℕ, bit_or, rules}
use Rattle.std.proofs.iter.runs.Made.{chains}
use Rattle.std.specs.List.{fold}
use Rattle.limits.proofs.Folds.{joined-zero}
use Rattle.limits.proofs.all_zero.Goals as goal

pub returns : goal.returns
returns c =
    let joined : c.fold.result ≡ fold bit_or 0 c.args.totals.now = search (rules, chains) in
    ap (λ (n : ℕ). eqb n 0) joined ∙ joined-zero c.args.totals.now
