-- The loop of `write_row`: the words before word j are written.
use Rattle.std.proofs.Common.{◌≡◌, ◌≤◌, length}
use Rattle.lists.specs.Tables.{concat_to, overwrite}
use Rattle.model.specs.Report.{spec_word}
use Rattle.report.specs.Private.{row_mean}
use Rattle.report.proofs.Averaging.write_row.Given as goal

abbrev pub invariant-loop-j : goal.invariant-loop-j
invariant-loop-j l = (l.j ≤ l.self.words) × (length l.out ≡ length l.initial.out) × (l.out ≡ overwrite (concat_to l.j (spec_word (row_mean l.self.setting l.self.exponent l.row))) l.initial.out)
