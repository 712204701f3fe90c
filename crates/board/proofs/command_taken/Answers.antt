-- `board::command_taken` meets its contract. Assumes nothing.
use Rattle.std.proofs.Common.{◌≡◌, ◌∙◌, rules}
use Rattle.refusal.specs.Number.{number_of}
use Rattle.model.specs.Totals.{no_totals}
use Rattle.model.specs.Board.{command_refused, command_outcome}
use Rattle.model.proofs.Sound.{sound-parts}
use Rattle.board.specs.Private.{command_left}
use Rattle.board.proofs.Soundness.{sound-given, command-refused, write-refused, write-given}
use Rattle.board.proofs.command_taken.Goals as goal

pub returns-in_err-check_sound : goal.returns-in_err-check_sound
returns-in_err-check_sound c =
    let e : command_left c.args.state c.from_residual.result c.args.totals.now ≡ command_refused (number_of c.in_err-check_sound.field-0.0) c.args.state c.args.totals.now = search rules in
    e ∙ command-refused c.args.state c.args.totals.now _ c.args.id c.args.information c.in_err-check_sound.ensures

pub returns-in_err-stored : goal.returns-in_err-stored
unfolding command_outcome
returns-in_err-stored c =
    let s = c.args.state in
    let e : command_left s c.from_residual-in_err-stored.result c.args.totals.now ≡ command_refused (number_of c.in_err-stored.field-0.0) s c.args.totals.now = search rules in
    let f = sound-given s c.args.totals.now c.in_ok-check_sound.ensures in
    let w = write-refused s.registers c.args.id c.args.information (sound-parts s c.args.totals.now f.1).registers _ _ (rw c.in_err-stored.was at c.write-write.ensures) in
    e ∙ rw (f.0, f.1, w.1, w.0)

pub returns : goal.returns
unfolding command_outcome no_totals
returns c =
    let s = c.args.state in
    let f = sound-given s c.args.totals.now c.in_ok-check_sound.ensures in
    let w = write-given s.registers c.args.id c.args.information (sound-parts s c.args.totals.now f.1).registers _ _ (rw c.in_ok-stored.was at c.write-write.ensures) in
    let cleared : c.fill.new.self ≡ no_totals = search rules in
    rw (f.0, f.1, w.0, w.1, w.2, cleared)
