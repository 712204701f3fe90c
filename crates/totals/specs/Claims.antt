-- 01, "Periods": adding in 64-bit arithmetic is the rule's adding. Assumes nothing.
use Rattle.std.specs.Prelude.{◌≡◌, ℕ, ◌^◌, ◌<◌, ◌≤◌, List, length, slice_index}
use Rattle.refusal.specs.Outcome.{given}
use Rattle.registers.specs.declared.Registers.{Registers}
use Rattle.model.specs.Totals.{added}
use Rattle.model.specs.Calls.{Powers}
use Rattle.totals.specs.Adding.{totals_left, add_outcome}

-- Where no total is over 2 ^ 62, no sum comes to 2 ^ 64. Sound totals are not over 2 ^ 58 (`SoundTotals` of crate `limits`).
abbrev pub AddedPlain : Type 0
AddedPlain =
    (r : Registers) (totals powers : List ℕ) → ((i : ℕ) → i < 784 → slice_index totals i ≤ 2 ^ 62) → Powers powers →
    length totals ≡ 784 → length powers ≡ 7168 → add_outcome r totals powers ≡ totals_left (given tt) (added r totals powers)
