-- `model::State::reset` meets its contract. Assumes nothing.
use Rattle.registers.specs.declared.Registers.{Registers}
use mathlib.Core.Path.{ap}
use Rattle.model.proofs.State.reset.Goals as goal

pub returns : goal.returns
returns c = ap (λ (r : Registers). record { registers = r; phase = 0; reports = 0 }) c.reset.ensures
