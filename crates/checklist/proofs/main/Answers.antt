-- `checklist::main`: the length of the longer array by a law, which costs less than counting it.
use Rattle.std.proofs.Common.{sym}
use Rattle.std.specs.Prelude.{ℕ}
use Rattle.std.proofs.lemmas.List.{length-replicate}
use Rattle.checklist.proofs.main.Goals as goal

pub slice_bounds-check-end : goal.slice_bounds-check-end
slice_bounds-check-end c = sym (length-replicate {A = ℕ} 1048577 0)
