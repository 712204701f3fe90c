-- `Registers::is_sound` meets its contract. Assumes nothing.
use Rattle.std.proofs.Common.{◌≡◌, sym, ◌∙◌, arith}
use Rattle.lists.proofs.Sums.{all_to-none, all_to-more, all_to-false}
use Rattle.registers.specs.Access.{registers_sound}
use Rattle.registers.proofs.Registers.is_sound.Goals as goal

pub loop-n-init : goal.loop-n-init
loop-n-init c = all_to-none _

pub loop-n-preserved : goal.loop-n-preserved
loop-n-preserved c = all_to-more _ _ c.loop-n.invariant (sym c.can_store.ensures ∙ c.if-not-can_store.false)

pub returns-then-not-can_store : goal.returns-then-not-can_store
unfolding registers_sound
returns-then-not-can_store c = sym (all_to-false _ 7 c.loop-n.n (omega arith) (sym c.can_store.ensures ∙ c.if-not-can_store.true))

pub returns : goal.returns
unfolding registers_sound
returns c = let e : c.loop-n.n ≡ 7 = omega arith in rw e at (sym c.loop-n.invariant)
