use Rattle.std.proofs.Common.{rules, ◌≡◌, sum, ◌∙◌}
use Rattle.coarse.proofs.Taken.{sum-listed, sum-small}
use Rattle.coarse.proofs.run_sum.Goals as goal

pub sum-requires : goal.sum-requires
sum-requires c =
    let small = sum-small c.args.run.now c.requires.run_len_bound c.requires.run_value in
    search rules

pub returns : goal.returns
returns c =
    let e : c.sum.result ≡ sum c.args.run.now = search rules in
    e ∙ sum-listed c.args.run.now
