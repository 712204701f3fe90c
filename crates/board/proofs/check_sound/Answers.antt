-- `board::check_sound` meets its contract. Assumes nothing.
use Rattle.std.proofs.Common.{◌≡◌, ◌∙◌, rules, arith, length}
use borrow.Author.Tests.{eq-eqb, ne_eqb}
use Rattle.refusal.specs.Number.{number_of}
use Rattle.refusal.specs.Outcome.{refused, answer_outcome}
use Rattle.model.specs.Board.{state_sound}
use Rattle.board.specs.Private.{soundness}
use Rattle.board.proofs.Soundness.{length_refused, within-found}
use Rattle.board.proofs.check_sound.Goals.{else-is_sound-via-then-is_sound+then-is_period_sound+in_ok-totals_within+else-branch, else-is_sound-via-then-is_sound+else-is_period_sound, else-is_sound-via-else-is_sound}
use Rattle.board.proofs.check_sound.Goals as goal

pub returns-then-totals-ne-TOTALS : goal.returns-then-totals-ne-TOTALS
unfolding soundness
returns-then-totals-ne-TOTALS c = rw (ne_eqb (length c.args.totals.now) 784 (λ e. omega arith))

pub returns-in_err-totals_within : goal.returns-in_err-totals_within
returns-in_err-totals_within c =
    let e : answer_outcome c.from_residual.result ≡ refused (number_of c.in_err-totals_within.field-0.0) = search rules in
    e ∙ length_refused c.args.state c.args.totals.now _ _ c.in_err-totals_within.ensures

pub returns-then-branch : goal.returns-then-branch
unfolding soundness state_sound
returns-then-branch c =
    let f = within-found c.args.state c.args.totals.now _ _ c.in_ok-totals_within.ensures in
    rw (f.0, ← c.is_sound.ensures, c.if-is_sound.true, ← c.is_period_sound.ensures, c.if-is_period_sound.true, ← c.spectra_held-spectra.ensures, ← f.1, c.if-branch.true)

pub returns-else-is_sound : goal.returns-else-is_sound
unfolding soundness state_sound
returns-else-is_sound c =
    let long = eq-eqb (length c.args.totals.now) 784 (omega arith) in
    elim c.else-is_sound.branch [
      | else-is_sound-via-then-is_sound+then-is_period_sound+in_ok-totals_within+else-branch w ↦
          let f = within-found c.args.state c.args.totals.now _ _ w.in_ok-totals_within.ensures in
          rw (long, ← c.is_sound.ensures, w.if-is_sound.true, ← w.is_period_sound.ensures, w.if-is_period_sound.true, ← c.spectra_held-spectra.ensures, ← f.1, w.if-branch.false)
      | else-is_sound-via-then-is_sound+else-is_period_sound w ↦
          rw (long, ← c.is_sound.ensures, w.if-is_sound.true, ← w.is_period_sound.ensures, w.if-is_period_sound.false)
      | else-is_sound-via-else-is_sound w ↦ rw (long, ← c.is_sound.ensures, w.if-is_sound.false)
    ]
