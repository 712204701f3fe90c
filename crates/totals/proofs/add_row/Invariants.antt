-- The loop of `add_row`: the bands before `band` have their powers.
use Rattle.std.specs.Prelude.{◌≡◌, ◌+◌, ◌-◌, ◌*◌, ◌^◌, ◌≤◌, length}
use Rattle.lists.specs.Tables.{tabulate, overwrite}
use Rattle.totals.proofs.Rows.{octave_slot}
use Rattle.totals.proofs.add_row.Given as goal

abbrev pub invariant-loop-octave : goal.invariant-loop-octave
invariant-loop-octave l =
    (l.octave ≤ l.octave-end) × (l.octave-end ≡ 7 - l.setting) × (l.band ≡ l.size * (l.octave + 1 + 1)) × (2 * l.size ≤ l.band) × (l.width ≡ 2 ^ l.octave) × (length l.row ≡ 112)
    × (l.row ≡ overwrite (tabulate l.band (octave_slot l.setting l.size l.initial.row l.powers)) l.initial.row)
