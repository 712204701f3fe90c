use Rattle.interval.proofs.Course.passes.Goals as goal

pub returns : goal.returns
returns c = cc
