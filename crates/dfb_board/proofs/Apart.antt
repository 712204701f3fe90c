-- The answers of a command, a read and a tick are told apart from refusals, and a report's words and number from its answer. Assumes nothing.
use mathlib.Core.Path.{◌≡◌, refl, sym, subst}
use mathlib.Core.Bool.{Bool, true, false, cond, not, ◌&&◌, ◌||◌}
use mathlib.Core.List.{List}
use Prim.Native.Nat.{ℕ, ◌+◌, ◌-◌, ◌*◌, ◌≤◌, ◌<◌}
use native.Mathlib.Omega.{arith}
use borrow.Author.Tests.{lt-ltb, le-ltb, le-leb, lt-leb, not-false}
use lib.Dec.{ltb, eqb}
use lib.ListN.{length}
use Rattle.lists.proofs.Choices.{cond-at}
use Rattle.registers.specs.declared.Registers.{Registers}
use Rattle.registers.specs.Access.{is_id, register, registers_sound, register_read}
use Rattle.registers.proofs.Laws.{id_range}
use Rattle.registers.proofs.Stored.{stored-lt}
use Rattle.registers.proofs.Theorems.{sound-at}
use Rattle.model.specs.Reply.{Reply, refused, stores, idle, collected, waiting, reported}
use Rattle.model.specs.Board.{CommandOutcome, command_outcome, TickOutcome, tick_outcome}
use Rattle.refusal.specs.Outcome.{is_given}
use Rattle.dfb_refusals.specs.Numbers.{above16, outcome_number, ToldApart}
use Rattle.dfb_refusals.proofs.Apart.{Below, given_below, refused-below, told-apart}
use Rattle.dfb_board.specs.State.{state_of}
use Rattle.dfb_board.specs.Calls.{reply_number, command_left, command_call, TickCall, tick_left, tick_call, read_call}
use Rattle.dfb_board.specs.Private.{Fits}
use Rattle.dfb_board.specs.Claims.{is_refused, is_reported, CommandCallApart, TickCallApart, ReadCallApart, ReportAnswer, ReportParts}
use Rattle.dfb_board.specs.Claims as apart
use Rattle.dfb_board.proofs.Calls.{tick-state}
use Rattle.dfb_board.proofs.Fits.{command-fits, tick-fits}

abbrev RepliesApart : Reply ℕ → ℕ → Type 0
RepliesApart r reports = apart.ReplyToldApart (reply_number r reports) (is_refused r) (is_reported r)

-- numbers that fit their places are told apart
fits-apart : (r : Reply ℕ) (reports : ℕ) → Fits r reports → RepliesApart r reports
fits-apart (refused n) reports h =
    let number = reply_number (refused n) reports in
    record {
      accepted = le-ltb number above16 (omega arith);
      refused = simp (le-leb above16 number (omega arith), lt-ltb number 0x20000 (omega arith));
      reported = simp (lt-leb 0x80000000 number (omega arith));
    }
fits-apart (stores v) reports h =
    record { accepted = lt-ltb v above16 h; refused = simp (lt-leb above16 v h); reported = simp (lt-leb 0x80000000 v (omega arith)) }
fits-apart idle reports h = record { accepted = refl; refused = refl; reported = refl }
fits-apart collected reports h = record { accepted = refl; refused = refl; reported = refl }
fits-apart waiting reports h = record { accepted = refl; refused = refl; reported = refl }
fits-apart (reported words) reports h =
    let number = reply_number (reported words) reports in
    let over : 0x80000000 ≤ number = omega arith in
    let most : number ≤ 0x80000000 + 392 * 65536 + 65535 = omega (arith, h.0, h.1) in
    record {
      accepted = le-ltb number above16 (omega (arith, over));
      refused = simp (le-leb above16 number (omega (arith, over)), le-ltb number 0x20000 (omega (arith, over)));
      reported = simp (le-leb 0x80000000 number over, le-leb number (0x80000000 + 392 * 65536 + 65535) most);
    }

read-apart : (r : Registers) (id : ℕ) → ToldApart above16 (register_read r id)
unfolding register_read
read-apart r id =
    told-apart above16 (register_read r id)
    (cond-at (Below above16) (not (registers_sound r)) (λ _. refused-below above16 3)
    (λ e. cond-at (Below above16) (not (is_id id)) (λ _. refused-below above16 1)
    (λ f. given_below above16 (register r (id - 0x30))
    (let range = id_range id (not-false _ f) in
    subst (λ (n : ℕ). n < 0x10000) (sound-at r (not-false _ e) (id - 0x30) (omega (arith, range.0, range.1))) (stored-lt (id - 0x30) (register r (id - 0x30)))))))

-- ---- the calls

pub read-call-apart : ReadCallApart
unfolding read_call
read-call-apart state id = by (eqb (length state) 9)
  where
    by : (t : Bool) → ltb (cond (not t) (above16 + 2) (outcome_number above16 (register_read (state_of state).registers id))) above16 ≡ (t && is_given (register_read (state_of state).registers id))
    by true = read-apart (state_of state).registers id
    by false = refl

module _ (state totals : List ℕ) where
  command-cases : (t : Bool) (o : CommandOutcome) → RepliesApart o.answer o.state.reports →
      apart.ReplyToldApart (cond (not t) (record { answer = above16 + 2; state = state; totals = totals }) (command_left o)).answer (not t || is_refused o.answer) (t && is_reported o.answer)
  command-cases true o a = a
  command-cases false o a = record { accepted = refl; refused = refl; reported = refl }

  tick-cases : (out : List ℕ) (t : Bool) (o : TickOutcome) → RepliesApart o.answer o.state.reports →
      apart.ReplyToldApart (cond (not t) (record { answer = above16 + 2; state = state; totals = totals; out = out }) (tick_left o)).answer (not t || is_refused o.answer) (t && is_reported o.answer)
  tick-cases out true o a = a
  tick-cases out false o a = record { accepted = refl; refused = refl; reported = refl }

pub command-call-apart : CommandCallApart
unfolding command_call
command-call-apart state totals id v =
    let o = command_outcome (state_of state) totals id v in
    command-cases state totals (eqb (length state) 9) o (fits-apart o.answer o.state.reports (command-fits (state_of state) totals id v))

pub tick-call-apart : TickCallApart
unfolding tick_call
tick-call-apart state totals powers out =
    let o = tick_outcome (state_of state) totals powers out in
    tick-cases state totals out (eqb (length state) 9) o (fits-apart o.answer o.state.reports (tick-fits (state_of state) totals powers out))

-- ---- the parts of a report's answer

report-answer : (r : Reply ℕ) (words reports : ℕ) → Fits r reports → r ≡ reported words → ReportAnswer (reply_number r reports) words reports
report-answer r words reports h e =
    let fit : Fits (reported words) reports = subst (λ (q : Reply ℕ). Fits q reports) e h in
    subst (λ (q : Reply ℕ). ReportAnswer (reply_number q reports) words reports) (sym e)
    (record { words-part = omega (arith, fit.1); number-part = omega (arith, fit.1) })

pub report-parts : ReportParts
report-parts state totals powers out words nine e =
    let o = tick_outcome (state_of state) totals powers out in
    subst (λ (c : TickCall). ReportAnswer c.answer words o.state.reports) (tick-state state nine totals powers out)
    (report-answer o.answer words o.state.reports (tick-fits (state_of state) totals powers out) e)
