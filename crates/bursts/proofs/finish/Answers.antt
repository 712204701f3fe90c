use Rattle.std.proofs.Common.{ap, ◌∙◌}
use Rattle.bursts.specs.declared.SlotState.TheVariants.{Free}
use Rattle.bursts.specs.Searches.{settled}
use Rattle.bursts.proofs.Leaving.{settles-within, finish-settles}
use Rattle.bursts.proofs.finish.Goals as goal

pub settle-requires : goal.settle-requires
settle-requires c = settles-within c.finish_answer.result (finish-settles c.args.slots) c.finish_answer.ensures

pub returns : goal.returns
returns c = c.settle.ensures ∙ ap (λ a. settled c.args.slots a Free) c.finish_answer.ensures ∙ (finish-settles c.args.slots).left
