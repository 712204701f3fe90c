-- For contracts of private functions only.
use Rattle.std.specs.Prelude.{ℕ, cond, List, Option, Some, None}
use Rattle.counts.specs.declared.Tally.{Tally}
use Rattle.dfb_counts.specs.Calls.{tally_lists, are_seven}

-- counts and registers of lists of seven
abbrev pub tally_loaded : List ℕ → List ℕ → Option Tally
tally_loaded counts registers = cond (are_seven counts registers) (Some (tally_lists counts registers)) None
