-- The check of a command list, answered as a number (include/dfb.h).
use Rattle.std.specs.Prelude.{ℕ, ◌^◌, cond, List, leb, length}
use Rattle.lists.specs.Tables.{tabulate}
use Rattle.refusal.specs.Outcome.{Filled, unfilled}
use Rattle.registers.specs.declared.Registers.{Registers}
use Rattle.registers.specs.Access.{register}
use Rattle.checker.specs.Check.{Judged, accepted, refused_at, Checked, commands_checked}
use Rattle.dfb_refusals.specs.Numbers.{with_offset, values_put}

-- 0 and the seven registers at the front of the list, or 2 where it is under 7; a refusal has its offset
abbrev pub judged_answer : Judged → Registers → List ℕ → Filled ℕ
judged_answer accepted r list = values_put (record { number = 0; values = tabulate 7 (register r) }) list
judged_answer (refused_at number offset) r list = unfilled (with_offset number offset) list

abbrev pub verdict_answer : Checked → List ℕ → Filled ℕ
verdict_answer v list = judged_answer v.judged v.registers list

-- refused by 2 for a log of 2 ^ 55 bytes or more, then as the check refuses
unfoldable pub check_answer : List ℕ → List ℕ → Filled ℕ
check_answer log list = cond (leb (2 ^ 55) (length log)) (unfilled 2 list) (verdict_answer (commands_checked log) list)
