-- `board::tick_taken` meets its contract. Assumes nothing.
use Rattle.std.proofs.Common.{◌≡◌, ◌∙◌, ◌≤◌, ℕ, true, false, ◌&&◌, eqb, length, sym, rules}
use borrow.Author.Tests.{eqb-true, leb-true}
use Rattle.lists.proofs.Choices.{both}
use Rattle.refusal.specs.Number.{number_of}
use Rattle.settings.specs.Settings.{running_of}
use Rattle.model.specs.Reply.{refused}
use Rattle.model.specs.Board.{lengths_fit, without_report, tick_outcome}
use Rattle.board.specs.Private.{tick_left}
use Rattle.board.proofs.Soundness.{sound-given, tick-refused}
use Rattle.board.proofs.tick_taken.Goals as goal

-- past the test of the lengths
module _ (powers totals out : ℕ) (fit : lengths_fit powers totals out ≡ true) where
  powers-fit : powers ≡ 7168
  powers-fit = eqb-true _ _ (both _ _ (both _ _ fit).0).0

  room-fits : 1176 ≤ out
  room-fits = leb-true _ _ (both (eqb powers 7168 && eqb totals 784) _ fit).1

pub returns-then-not-are_lengths : goal.returns-then-not-are_lengths
unfolding tick_outcome
returns-then-not-are_lengths c =
    let a = c.args in
    let short : lengths_fit (length a.powers.now) (length a.totals.now) (length a.out.now) ≡ false = sym c.are_lengths.ensures ∙ c.if-not-are_lengths.true in
    rw short

pub returns-in_err-check_sound : goal.returns-in_err-check_sound
returns-in_err-check_sound c =
    let a = c.args in
    let fit : lengths_fit (length a.powers.now) (length a.totals.now) (length a.out.now) ≡ true = sym c.are_lengths.ensures ∙ c.if-not-are_lengths.false in
    let e : tick_left a.state c.from_residual.result a.totals.now a.out.now ≡ without_report (refused (number_of c.in_err-check_sound.field-0.0)) a.state a.totals.now a.out.now = search rules in
    e ∙ tick-refused a.state a.totals.now _ a.powers.now a.out.now fit c.in_err-check_sound.ensures

pub returns-then-not-is_running : goal.returns-then-not-is_running
unfolding tick_outcome
returns-then-not-is_running c =
    let a = c.args in
    let idle : running_of a.state.registers ≡ false = sym c.running-is_running.ensures ∙ c.if-not-is_running.true in
    rw (sym c.are_lengths.ensures ∙ c.if-not-are_lengths.false, (sound-given a.state a.totals.now c.in_ok-check_sound.ensures).1, idle)

pub running_tick-requires : goal.running_tick-requires
running_tick-requires c =
    let a = c.args in
    let fit : lengths_fit (length a.powers.now) (length a.totals.now) (length a.out.now) ≡ true = sym c.are_lengths.ensures ∙ c.if-not-are_lengths.false in
    let sound = sound-given a.state a.totals.now c.in_ok-check_sound.ensures in
    record {
      totals-length = eqb-true _ _ sound.0;
      powers-length = powers-fit (length a.powers.now) (length a.totals.now) (length a.out.now) fit;
      room = room-fits (length a.powers.now) (length a.totals.now) (length a.out.now) fit;
      sound-state = sound.1;
      is-running = sym c.running-is_running.ensures ∙ c.if-not-is_running.false;
    }

pub returns : goal.returns
unfolding tick_outcome
returns c =
    let a = c.args in
    let run : running_of a.state.registers ≡ true = sym c.running-is_running.ensures ∙ c.if-not-is_running.false in
    rw (sym c.are_lengths.ensures ∙ c.if-not-are_lengths.false, (sound-given a.state a.totals.now c.in_ok-check_sound.ensures).1, run) c.running_tick.ensures
