-- `setlist::list`: what was written lies within the output.
use Rattle.std.proofs.Common.{sym}
use Rattle.std.proofs.lemmas.List.{length-take-le}
use Rattle.listing.proofs.Whole.{written-within}
use Rattle.setlist.proofs.list.Goals as goal

pub slice_bounds-write_all-end : goal.slice_bounds-write_all-end
slice_bounds-write_all-end g c = written-within _ _ _ c.listing.ensures c.in-Ok-listing.is

pub slice_bounds-write_all-end-2 : goal.slice_bounds-write_all-end-2
slice_bounds-write_all-end-2 g c = sym (length-take-le _ _ (written-within _ _ _ c.listing.ensures c.in-Ok-listing.is))
