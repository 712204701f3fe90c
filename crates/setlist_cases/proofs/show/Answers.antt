-- `setlist_cases::show`: what was written lies within the output.
use Rattle.std.proofs.Common.{sym}
use Rattle.std.proofs.lemmas.List.{length-take-le}
use Rattle.listing.proofs.Whole.{written-within}
use Rattle.setlist_cases.proofs.show.Goals as goal

pub slice_bounds-print-end : goal.slice_bounds-print-end
slice_bounds-print-end g c = written-within _ _ _ c.listing.ensures c.in-Ok.is

pub slice_bounds-print-end-in-Ok : goal.slice_bounds-print-end-in-Ok
slice_bounds-print-end-in-Ok g c = sym (length-take-le _ _ (written-within _ _ _ c.listing.ensures c.in-Ok.is))
