-- The loop of `write_rows`: the words of the processors before n are written.
use Rattle.std.proofs.Common.{◌≡◌, ◌*◌, ◌/◌, ◌≤◌, length}
use Rattle.lists.specs.Tables.{concat_to, overwrite}
use Rattle.settings.specs.Settings.{bands_of, enabled_before}
use Rattle.model.specs.Report.{processor_bytes}
use Rattle.report.specs.Writing.{mean_bits}
use Rattle.report.proofs.write_rows.Given as goal

abbrev pub invariant-loop-n : goal.invariant-loop-n
invariant-loop-n l = (l.written ≡ enabled_before l.registers l.n * (bands_of l.registers / 2)) × (l.n ≤ 7) × (l.written ≤ l.n * 56) × (length l.out ≡ length l.initial.out) × (l.out ≡ overwrite (concat_to l.n (processor_bytes l.registers (mean_bits l.registers l.totals))) l.initial.out)
