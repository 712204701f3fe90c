-- 01, "Periods": how great a sound state's totals are. Assumes nothing.
use Rattle.std.specs.Prelude.{ℕ, ◌^◌, ◌≤◌, ◌<◌, List, get_or}
use Rattle.registers.specs.declared.Registers.{Registers}
use Rattle.model.specs.Totals.{slot}
use Rattle.model.specs.Board.{slot_limit}

-- totals that m spectra give, m below 2 ^ 16, are at most 2 ^ 58
abbrev pub SoundTotals : Type 0
SoundTotals =
    (r : Registers) (m : ℕ) (totals : List ℕ) → m < 2 ^ 16 → ((n b : ℕ) → n < 7 → b < 112 → slot totals n b ≤ slot_limit r m n b) →
    (i : ℕ) → i < 784 → get_or totals i 0 ≤ 2 ^ 58
