-- `checklist_cases::show`: what was written lies within the output.
use Rattle.std.proofs.Common.{sym}
use Rattle.std.proofs.lemmas.List.{length-take-le}
use Rattle.listing.proofs.Verdicts.{line-within}
use Rattle.checklist_cases.proofs.show.Goals as goal

pub slice_bounds-write_all-end : goal.slice_bounds-write_all-end
slice_bounds-write_all-end g c = line-within _ _ _ c.verdict_line.ensures c.in-Ok.is

pub slice_bounds-write_all-end-in-Ok : goal.slice_bounds-write_all-end-in-Ok
slice_bounds-write_all-end-in-Ok g c = sym (length-take-le _ _ (line-within _ _ _ c.verdict_line.ensures c.in-Ok.is))
