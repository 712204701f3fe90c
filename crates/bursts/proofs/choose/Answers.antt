use Rattle.std.proofs.Common.{ap, ◌∙◌}
use Rattle.bursts.specs.declared.SlotState.TheVariants.{Sending}
use Rattle.bursts.specs.Searches.{settled}
use Rattle.bursts.proofs.Leaving.{settles-within, choose-settles}
use Rattle.bursts.proofs.choose.Goals as goal

pub settle-requires : goal.settle-requires
settle-requires c = settles-within c.choose_answer.result (choose-settles c.args.slots) c.choose_answer.ensures

pub returns : goal.returns
returns c = c.settle.ensures ∙ ap (λ a. settled c.args.slots a Sending) c.choose_answer.ensures ∙ (choose-settles c.args.slots).left
