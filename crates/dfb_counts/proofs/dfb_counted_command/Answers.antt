-- `dfb_counts::dfb_counted_command` meets its contract: the lists are loaded, and the call is the writer's. Assumes nothing.
use Rattle.std.proofs.Common.{◌≡◌, ℕ, ap, ◌∙◌, arith, length, rules}
use Rattle.counting.specs.Writer.{command}
use Rattle.dfb_counts.specs.Calls.{lists_left, call_left}
use Rattle.dfb_counts.proofs.Calls.{sevens, was_loaded, all_put, call-other, call-done, not_loaded, counts-kept, command-counts}
use Rattle.dfb_counts.proofs.dfb_counted_command.Goals as goal

pub returns-in_default : goal.returns-in_default
returns-in_default c =
    let a = c.args in
    ap (λ (n : ℕ). call_left a.log.now (lists_left n a.counts.now a.registers.now)) c.above_63.ensures
    ∙ call-other a.log.now a.used a.counts.now a.registers.now (command a.id a.information) (not_loaded a.counts.now a.registers.now c.in_default.ensures)

pub put_registers-requires : goal.put_registers-requires
put_registers-requires c =
    let a = c.args in
    omega (arith, (sevens a.counts.now a.registers.now (was_loaded a.counts.now a.registers.now c.in-Some.tally c.in-Some.ensures).0).1)

pub returns : goal.returns
returns c =
    let a = c.args in
    let seven = sevens a.counts.now a.registers.now (was_loaded a.counts.now a.registers.now c.in-Some.tally c.in-Some.ensures).0 in
    let long : length c.command-done.result.tally.registers.value ≡ 7 = search rules in
    call-done a.log.now a.used a.counts.now a.registers.now (command a.id a.information) c.in-Some.tally c.command-done.result c.command-done.new.log c.in-Some.ensures c.command-done.ensures _ _ _ c.written_63.ensures
    (counts-kept a.log.now a.used a.counts.now a.registers.now (command a.id a.information) c.in-Some.tally c.command-done.result c.command-done.new.log c.in-Some.ensures c.command-done.ensures (command-counts a.id a.information))
    (all_put c.command-done.result.tally.registers.value a.registers.now _ long seven.1 c.put_registers.ensures)
