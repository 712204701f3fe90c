-- The loop of `Registers::is_sound`: each register passed is one that a write can store.
use Rattle.std.specs.Prelude.{◌≡◌, true}
use Rattle.lists.specs.Sums.{all_to}
use Rattle.registers.specs.Access.{storable}
use Rattle.registers.proofs.Registers.is_sound.Given as goal

abbrev pub invariant-loop-n : goal.invariant-loop-n
invariant-loop-n l = all_to l.n (storable l.self) ≡ true
