-- 01, "Periods": the totals after a tick's powers are added, in 64-bit arithmetic. Wherever no total is over 2 ^ 62, they are `added` of
-- crate `model` (`AddedPlain` of Claims.antt).
use Rattle.std.specs.Prelude.{ℕ, ◌+◌, ◌%◌, ◌^◌, cond, not, ◌&&◌, List, length, ◌==◌}
use Rattle.lists.specs.Tables.{grid}
use Rattle.refusal.specs.Outcome.{Outcome, given, refused}
use Rattle.registers.specs.declared.Registers.{Registers}
use Rattle.model.specs.Totals.{in_use, band_power, slot}

-- the total of processor n and band b: if in use, with the band's power added modulo 2 ^ 64
abbrev pub added_slot : Registers → List ℕ → List ℕ → ℕ → ℕ → ℕ
added_slot r totals powers n b = cond (in_use r n b) ((slot totals n b + band_power r powers n b) % 2 ^ 64) (slot totals n b)

-- what adding leaves: done or refused, and the totals
pub record TotalsLeft : Type 0 where
  pub answer : Outcome (Unit {0})
  pub totals : List ℕ

abbrev pub totals_left : Outcome (Unit {0}) → List ℕ → TotalsLeft
totals_left answer totals = record { answer = answer; totals = totals }

-- 7,168 powers added to 784 totals; 2 for lists of other lengths
unfoldable pub add_outcome : Registers → List ℕ → List ℕ → TotalsLeft
add_outcome r totals powers =
    cond (not (length totals == 784 && length powers == 7168)) (totals_left (refused 2) totals)
    (totals_left (given tt) (grid 7 112 (added_slot r totals powers)))
