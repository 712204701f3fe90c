-- `dfb_snapshot::dfb_snapshot_write` meets its contract: the test picks the case of the rule, and each arm is a case of the outcome's number.
-- Assumes nothing.
use Prim.Native.Nat.{ℕ}
use mathlib.Core.Path.{◌≡◌, sym, ap, ◌∙◌}
use mathlib.Core.Bool.{true, false}
use mathlib.Core.List.{List}
use lib.IntN.{ℤ}
use native.Mathlib.Omega.{arith}
use Rattle.std.specs.Prelude.{Result}
use Rattle.refusal.specs.declared.Refusal.{Refusal}
use Rattle.refusal.specs.Outcome.{Filled, filled, answer_outcome}
use Rattle.snapshot.specs.declared.Header.{Header}
use Rattle.snapshot.specs.Calls.{packet_written}
use Rattle.dfb_refusals.specs.Numbers.{above16, outcome_number}
use Rattle.dfb_refusals.proofs.Numbers.{refused-number, numbered}
use Rattle.dfb_snapshot.specs.Header.{header_of, header_taken}
use Rattle.dfb_snapshot.specs.Calls.{write_call}
use Rattle.dfb_snapshot.proofs.Calls.{written-few}
use Rattle.dfb_snapshot.proofs.dfb_snapshot_write.Goals as goal

pub returns-then-not-is_header : goal.returns-then-not-is_header
unfolding write_call
returns-then-not-is_header c =
    let a = c.args in
    let other : header_taken a.header.now ≡ false = sym c.is_header.ensures ∙ c.if-not-is_header.true in
    simp other (ap (λ (n : ℕ). record { answer = n; buffer = a.packet.now }) c.above_16.ensures)

-- the call wrote what the rule writes
written : (numbers : List ℕ) (samples : List ℤ) (packet last : List ℕ) (w : Result ℕ Refusal) (h : Header) → header_taken numbers ≡ true → h ≡ header_of numbers →
    filled w last ≡ packet_written h samples packet → filled w last ≡ write_call numbers samples packet
unfolding write_call
written numbers samples packet last w h ten load wrote = simp ten (wrote ∙ ap (λ (g : Header). packet_written g samples packet) load)

pub overflow_cast-result : goal.overflow_cast-result
overflow_cast-result c =
    let a = c.args in
    let few = written-few c.load.result a.samples.now a.packet.now _
    (sym (ap (λ (f : Filled ℕ). f.answer) c.write_packet.ensures) ∙ ap answer_outcome c.in-Ok.is) in
    omega (arith, few)

pub returns-in-Ok : goal.returns-in-Ok
returns-in-Ok c =
    let ten = sym c.is_header.ensures ∙ c.if-not-is_header.false in
    numbered above16 _ (sym (ap (λ (w : Result ℕ Refusal). outcome_number above16 (answer_outcome w)) c.in-Ok.is))
    (written c.args.header.now c.args.samples.now c.args.packet.now c.write_packet.new.packet c.write_packet.result c.load.result ten c.load.ensures c.write_packet.ensures)

pub returns-in-Err : goal.returns-in-Err
returns-in-Err c =
    let ten = sym c.is_header.ensures ∙ c.if-not-is_header.false in
    numbered above16 _
    (refused-number above16 c.in-Err.refusal c.above_16-in-Err.ensures (ap answer_outcome (sym c.in-Err.is)))
    (written c.args.header.now c.args.samples.now c.args.packet.now c.write_packet.new.packet c.write_packet.result c.load.result ten c.load.ensures c.write_packet.ensures)

pub load-requires : goal.load-requires
load-requires c = sym c.is_header.ensures ∙ c.if-not-is_header.false
