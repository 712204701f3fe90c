-- `checker::check` meets its contract: each record is taken as the rule takes it. Assumes nothing.
use Rattle.std.proofs.Common.{rules, ◌≡◌, ℕ, ap, sym, ◌∙◌, arith}
use Rattle.refusal.specs.Number.{number_of}
use Rattle.refusal.specs.Outcome.{Outcome, given, refused}
use Rattle.board_log.specs.declared.Record.{Record}
use Rattle.board_log.specs.Cursor.{Found, found, end, read_outcome, read_at}
use Rattle.board_log.proofs.Moves.{found-parts}
use Rattle.board_log.proofs.Tags.{NoRecord}
use Rattle.checker.specs.declared.Standing.{Standing}
use Rattle.checker.specs.Check.{Judged, refused_at, after_record, read_step, check_from, commands_checked}
use Rattle.checker.proofs.Steps.{step-without, step-refused, step_kept, kept-refused, kept-given, from_next, from_last}
use Rattle.checker.proofs.check.Goals.{in_default-via-in-Ok+in_default, in_default-via-in_default}
use Rattle.checker.proofs.check.Goals as goal

pub loop-entry-init : goal.loop-entry-init
unfolding commands_checked
loop-entry-init c = ap (check_from c.args.log.now 0) c.start-standing.ensures

-- the end is no record, and neither is a refusal
no_end : (r : Record) (next : ℕ) → given end ≡ given (found r next) → ⊥
no_end r next e = let z : ◌≡◌ {A = ℕ} 0 1 = cc in omega arith

no_refusal : (n : ℕ) (r : Record) (next : ℕ) → refused n ≡ given (found r next) → ⊥
no_refusal n r next e = let z : ◌≡◌ {A = ℕ} 0 1 = cc in omega arith

pub returns-in_default : goal.returns-in_default
returns-in_default c =
    let log = c.args.log.now in
    let l = c.loop-entry in
    let q = c.read_at-read in
    let none : NoRecord q.result = elim c.in_default.branch [
      | in_default-via-in-Ok+in_default w ↦ let e : read_outcome q.result ≡ given end = search rules in λ r next h. no_end r next (sym e ∙ h)
      | in_default-via-in_default w ↦ let e : read_outcome q.result ≡ refused (number_of w.in_default.field-0) = search rules in λ r next h. no_refusal (number_of w.in_default.field-0) r next (sym e ∙ h)
    ] in
    ap (λ (j : Judged). record { judged = j; registers = l.standing.registers }) c.judge_without_record.ensures
    ∙ sym (from_last log l.at l.standing _ (ap (λ (o : Outcome Found). read_step o l.at l.standing) (sym q.ensures) ∙ step-without l.at l.standing q.result none))
    ∙ l.invariant

pub keep-requires : goal.keep-requires
keep-requires c =
    let e : read_at c.args.log.now c.loop-entry.at ≡ given (found c.in-Ok-Some.entry.record c.in-Ok-Some.entry.next) = search rules in
    (found-parts c.args.log.now c.loop-entry.at c.in-Ok-Some.entry.record c.in-Ok-Some.entry.next e).known

pub returns-in-Err : goal.returns-in-Err
returns-in-Err c =
    let log = c.args.log.now in
    let l = c.loop-entry in
    let x = c.in-Ok-Some.entry in
    let e : read_at c.args.log.now c.loop-entry.at ≡ given (found c.in-Ok-Some.entry.record c.in-Ok-Some.entry.next) = search rules in
    let k = kept-refused l.standing x.record c.keep.result c.keep.new.self _ c.keep.ensures c.in-Err.is in
    ap (λ (s : Standing). record { judged = refused_at (number_of c.in-Err.refusal) l.at; registers = s.registers }) k.1
    ∙ sym (from_last log l.at l.standing _ (step-refused log l.at l.standing x.record x.next e _ k.0))
    ∙ l.invariant

pub loop-entry-smaller : goal.loop-entry-smaller
loop-entry-smaller c =
    let e : read_at c.args.log.now c.loop-entry.at ≡ given (found c.in-Ok-Some.entry.record c.in-Ok-Some.entry.next) = search rules in
    let f = found-parts c.args.log.now c.loop-entry.at c.in-Ok-Some.entry.record c.in-Ok-Some.entry.next e in
    omega (arith, f.forward, f.within)

pub loop-entry-preserved : goal.loop-entry-preserved
loop-entry-preserved c =
    let log = c.args.log.now in
    let l = c.loop-entry in
    let x = c.in-Ok-Some.entry in
    let e : read_at c.args.log.now c.loop-entry.at ≡ given (found c.in-Ok-Some.entry.record c.in-Ok-Some.entry.next) = search rules in
    let k = kept-given l.standing x.record c.keep.result c.keep.new.self _ c.keep.ensures c.in_default-keep.is in
    ap (check_from log x.next) k.1
    ∙ sym (from_next log l.at l.standing x.next (after_record l.standing x.record) (step_kept log l.at l.standing x.record x.next e k.0))
    ∙ l.invariant
