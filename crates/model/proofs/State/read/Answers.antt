-- `model::State::read` meets its contract: the tests pick the case of `register_read`. Assumes nothing.
use Rattle.registers.specs.Access.{is_id, registers_sound, register_read}
use mathlib.Core.Bool.{true, false}
use mathlib.Core.Path.{◌≡◌, sym, ◌∙◌}
use borrow.Author.Tests.{not-true, not-false}
use Rattle.registers.proofs.Laws.{id_range}
use native.Mathlib.Omega.{arith}
use Rattle.model.proofs.State.read.Goals as goal

pub returns-then-not-is_sound : goal.returns-then-not-is_sound
unfolding register_read
returns-then-not-is_sound c =
    let unsound : registers_sound c.args.self.registers ≡ false = sym c.is_sound.ensures ∙ not-true _ c.if-not-is_sound.true-raw in
    simp unsound

pub returns-then-not-is_id : goal.returns-then-not-is_id
unfolding register_read
returns-then-not-is_id c =
    let a = c.args in
    let ok : registers_sound a.self.registers ≡ true = sym c.is_sound.ensures ∙ not-false _ c.if-not-is_sound.false-raw in
    let unknown : is_id a.id ≡ false = sym c.is_id.ensures ∙ not-true _ c.if-not-is_id.true-raw in
    simp (ok, unknown)

pub overflow_sub-n : goal.overflow_sub-n
overflow_sub-n c = omega (arith, id_range c.args.id (sym c.is_id.ensures ∙ not-false _ c.if-not-is_id.false-raw))

pub bounds-registers-n : goal.bounds-registers-n
bounds-registers-n c = omega (arith, id_range c.args.id (sym c.is_id.ensures ∙ not-false _ c.if-not-is_id.false-raw))

pub returns : goal.returns
unfolding register_read
returns c =
    let a = c.args in
    let ok : registers_sound a.self.registers ≡ true = sym c.is_sound.ensures ∙ not-false _ c.if-not-is_sound.false-raw in
    let known : is_id a.id ≡ true = sym c.is_id.ensures ∙ not-false _ c.if-not-is_id.false-raw in
    simp (ok, known)
