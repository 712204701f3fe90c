use Rattle.std.proofs.Common.{rules, tests, ◌∙◌, leb, ◌^◌}
use Rattle.std.proofs.lemmas.Iterator.{YieldsList-from_slice}
use Rattle.std.proofs.lemmas.Iterator.Search.{all_from_yields_List}
use Rattle.coarse.proofs.Taken.{taken-listed}
use Rattle.coarse.proofs.are_taken.Goals as goal

pub returns : goal.returns
returns c =
    let fine = c.args.fine.now in
    all_from_yields_List (λ total. leb total (2 ^ 49)) _ _ c.all.result c.all.ensures.ran (YieldsList-from_slice fine cc) (λ x b q k. search (rules, tests))
    ∙ taken-listed fine
