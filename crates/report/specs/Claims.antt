-- 01, "Words and sets" (SPEC): the words of 32-bit means are the rule's words. Assumes nothing.
use Rattle.std.specs.Prelude.{ℕ, ◌≤◌, ◌≡◌, List, length}
use Rattle.lists.specs.Tables.{overwrite}
use Rattle.settings.specs.Settings.{spec_words}
use Rattle.refusal.specs.Outcome.{given}
use Rattle.registers.specs.declared.Registers.{Registers}
use Rattle.model.specs.Totals.{slot}
use Rattle.model.specs.Report.{report_bytes}
use Rattle.model.specs.Claims.{NoMeanOver}
use Rattle.report.specs.Writing.{report_left, report_written}

-- Where no mean is over 2 ^ 32 - 1, the words are those of the totals. From a sound state none is (`MeansWithin` of crate `model`).
abbrev pub WrittenPlain : Type 0
WrittenPlain =
    (r : Registers) (totals : List ℕ) → NoMeanOver r (slot totals) → (out : List ℕ) → length totals ≡ 784 → 1176 ≤ length out →
    report_written r totals out ≡ report_left (given (spec_words r)) (overwrite (report_bytes r (slot totals)) out)
