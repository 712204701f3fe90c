-- `dfb_log::dfb_unpack` meets its contract: the answer is small. Assumes nothing.
use Rattle.std.proofs.Common.{sym, subst}
use Rattle.dfb_log.proofs.Small.{Small, unpack-small}
use Rattle.dfb_log.proofs.dfb_unpack.Goals as goal

pub written_16-requires : goal.written_16-requires
written_16-requires c = (subst Small (sym c.unpack.ensures) (unpack-small _ _ _)).fits
