-- `dfb_counts::dfb_counted_set` meets its contract: the lists are loaded, and the call is the writer's. Assumes nothing.
use Rattle.std.proofs.Common.{◌≡◌, ℕ, ap, ◌∙◌, arith, length, rules}
use Rattle.counting.specs.Writer.{set}
use Rattle.dfb_counts.specs.Calls.{lists_left, call_left}
use Rattle.dfb_counts.proofs.Calls.{sevens, was_loaded, all_put, call-other, call-done, not_loaded, registers-kept, set-registers}
use Rattle.dfb_counts.proofs.dfb_counted_set.Goals as goal

pub returns-in_default : goal.returns-in_default
returns-in_default c =
    let a = c.args in
    ap (λ (n : ℕ). call_left a.log.now (lists_left n a.counts.now a.registers.now)) c.above_63.ensures
    ∙ call-other a.log.now a.used a.counts.now a.registers.now (set a.apid a.samples.now) (not_loaded a.counts.now a.registers.now c.in_default.ensures)

pub put_counts-requires : goal.put_counts-requires
put_counts-requires c =
    let a = c.args in
    omega (arith, (sevens a.counts.now a.registers.now (was_loaded a.counts.now a.registers.now c.in-Some.tally c.in-Some.ensures).0).0)

pub returns : goal.returns
returns c =
    let a = c.args in
    let seven = sevens a.counts.now a.registers.now (was_loaded a.counts.now a.registers.now c.in-Some.tally c.in-Some.ensures).0 in
    let long : length c.set-done.result.tally.counts.value ≡ 7 = search rules in
    call-done a.log.now a.used a.counts.now a.registers.now (set a.apid a.samples.now) c.in-Some.tally c.set-done.result c.set-done.new.log c.in-Some.ensures c.set-done.ensures _ _ _ c.written_63.ensures
    (all_put c.set-done.result.tally.counts.value a.counts.now _ long seven.0 c.put_counts.ensures)
    (registers-kept a.log.now a.used a.counts.now a.registers.now (set a.apid a.samples.now) c.in-Some.tally c.set-done.result c.set-done.new.log c.in-Some.ensures c.set-done.ensures (set-registers a.apid a.samples.now))
