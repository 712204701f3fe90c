-- 01, "Words and sets" (SPEC): what writing a report leaves. Wherever no mean is over 2 ^ 32 - 1, the words are `report_bytes` of the totals,
-- as crate `model` has it (`WrittenPlain` of Claims.antt).
use Rattle.std.specs.Prelude.{ℕ, ◌*◌, ◌%◌, ◌^◌, cond, not, ◌&&◌, List, length, leb, eqb}
use Rattle.lists.specs.Tables.{overwrite}
use Rattle.settings.specs.Settings.{spec_words}
use Rattle.refusal.specs.Outcome.{Outcome, given, refused}
use Rattle.registers.specs.declared.Registers.{Registers}
use Rattle.model.specs.Totals.{slot}
use Rattle.model.specs.Report.{divisor, report_bytes}

-- the part of a total whose mean has 32 bits: the mean of it is the total's mean modulo 2 ^ 32
abbrev pub mean_bits : Registers → List ℕ → ℕ → ℕ → ℕ
mean_bits r totals n b = slot totals n b % (2 ^ 32 * divisor r b)

-- what writing a report leaves: how many words or the refusal, and the output
pub record ReportLeft : Type 0 where
  pub words : Outcome ℕ
  pub out : List ℕ

abbrev pub report_left : Outcome ℕ → List ℕ → ReportLeft
report_left words out = record { words = words; out = out }

-- the words of 784 totals over the start of the output; 2 where a list is not of its length
unfoldable pub report_written : Registers → List ℕ → List ℕ → ReportLeft
report_written r totals out =
    cond (not (eqb (length totals) 784 && leb 1176 (length out))) (report_left (refused 2) out)
    (report_left (given (spec_words r)) (overwrite (report_bytes r (mean_bits r totals)) out))
