-- `space_packets::take_header` meets its contract: the tests pick the case of the rule. Assumes nothing.
use mathlib.Core.Path.{refl, sym, ◌∙◌}
use Rattle.space_packets.specs.Calls.{header_taken}
use Rattle.space_packets.proofs.take_header.Goals as goal

pub returns-then-not-is_stated : goal.returns-then-not-is_stated
unfolding header_taken
returns-then-not-is_stated c = simp (sym c.is_stated.ensures ∙ c.if-not-is_stated.true) refl

pub returns-then-not-is_whole : goal.returns-then-not-is_whole
unfolding header_taken
returns-then-not-is_whole c = simp (sym c.is_stated.ensures ∙ c.if-not-is_stated.false, sym c.is_whole.ensures ∙ c.if-not-is_whole.true) refl

pub returns-else-not-is_whole : goal.returns-else-not-is_whole
unfolding header_taken
returns-else-not-is_whole c = simp (sym c.is_stated.ensures ∙ c.if-not-is_stated.false, sym c.is_whole.ensures ∙ c.if-not-is_whole.false) refl
