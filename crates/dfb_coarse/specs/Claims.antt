-- How a caller tells the answers of coarse_totals apart from refusals. Assumes nothing.
use Rattle.std.specs.Prelude.{ℕ, List}
use Rattle.coarse.specs.Coarse.{coarse_outcome}
use Rattle.dfb_refusals.specs.Numbers.{above16, ToldApart}

abbrev pub CoarseTotalsApart : Type 0
CoarseTotalsApart = (setting : ℕ) (fine out : List ℕ) → ToldApart above16 (coarse_outcome setting fine out).answer
