-- The loop of `add_rows`: the rows before row n have their powers.
use Rattle.std.specs.Prelude.{◌≡◌, ◌≤◌, length}
use Rattle.lists.specs.Tables.{concat_to, overwrite}
use Rattle.totals.proofs.Rows.{summed_row}
use Rattle.totals.proofs.add_rows.Given as goal

abbrev pub invariant-loop-n : goal.invariant-loop-n
invariant-loop-n l = (l.n ≤ 7) × (length l.totals ≡ 784) × (l.totals ≡ overwrite (concat_to l.n (summed_row l.registers l.initial.totals l.powers)) l.initial.totals)
