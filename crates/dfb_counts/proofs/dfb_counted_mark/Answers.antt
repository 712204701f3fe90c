-- `dfb_counts::dfb_counted_mark` meets its contract: the lists are loaded, and the call is the writer's. Assumes nothing.
use Rattle.std.proofs.Common.{ℕ, ap, ◌∙◌}
use Rattle.counting.specs.Writer.{mark}
use Rattle.dfb_counts.specs.Calls.{lists_left, call_left}
use Rattle.dfb_counts.proofs.Calls.{call-other, call-done, not_loaded, counts-kept, mark-counts, registers-kept, mark-registers}
use Rattle.dfb_counts.proofs.dfb_counted_mark.Goals as goal

pub returns-in_default : goal.returns-in_default
returns-in_default c =
    let a = c.args in
    ap (λ (n : ℕ). call_left a.log.now (lists_left n a.counts.now a.registers.now)) c.above_63.ensures
    ∙ call-other a.log.now a.used a.counts.now a.registers.now (mark a.seconds) (not_loaded a.counts.now a.registers.now c.in_default.ensures)

pub returns : goal.returns
returns c =
    let a = c.args in
    call-done a.log.now a.used a.counts.now a.registers.now (mark a.seconds) c.in-Some.tally c.mark-done.result c.mark-done.new.log c.in-Some.ensures c.mark-done.ensures _ _ _ c.written_63.ensures
    (counts-kept a.log.now a.used a.counts.now a.registers.now (mark a.seconds) c.in-Some.tally c.mark-done.result c.mark-done.new.log c.in-Some.ensures c.mark-done.ensures (mark-counts a.seconds))
    (registers-kept a.log.now a.used a.counts.now a.registers.now (mark a.seconds) c.in-Some.tally c.mark-done.result c.mark-done.new.log c.in-Some.ensures c.mark-done.ensures (mark-registers a.seconds))
