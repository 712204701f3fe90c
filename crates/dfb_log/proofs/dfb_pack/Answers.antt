-- `dfb_log::dfb_pack` meets its contract: the answer is small. Assumes nothing.
use Rattle.std.proofs.Common.{sym, subst}
use Rattle.dfb_log.proofs.Small.{Small, pack-small}
use Rattle.dfb_log.proofs.dfb_pack.Goals as goal

pub written_16-requires : goal.written_16-requires
written_16-requires c = (subst Small (sym c.pack.ensures) (pack-small _ _ _)).fits
