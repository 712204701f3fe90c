-- From a sound state no report meets a band mean over 2 ^ 32 - 1. Assumes nothing.
use borrow.Author.Tests.{eq-eqb}
use Rattle.model.specs.Claims.{MeansWithin}
use Rattle.model.proofs.Phases.{held-reporting}
use Rattle.model.proofs.Sound.{sound-parts}
use Rattle.model.proofs.Ticks.{slot-le}

pub means-within : MeansWithin
means-within s totals ps h k run last n b u =
    rw (held-reporting s.registers run s.phase (eq-eqb _ _ last)) at (slot-le s totals ps (sound-parts s totals h) k n b u)
