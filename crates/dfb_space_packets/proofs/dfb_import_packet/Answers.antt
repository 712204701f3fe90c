-- `dfb_space_packets::dfb_import_packet` meets its contract: the list for the header is too short, or each arm is a case of the import. Assumes
-- nothing.
use Prim.Native.Nat.{ℕ, ◌+◌}
use mathlib.Core.Path.{◌≡◌, sym, ap, ◌∙◌}
use mathlib.Core.List.{List}
use native.Mathlib.Omega.{arith}
use Rattle.std.specs.Prelude.{Option, Result}
use Rattle.std.specs.Option.{unwrap_or}
use Rattle.refusal.specs.declared.Refusal.{Refusal}
use Rattle.refusal.specs.declared.Refusal.TheVariants.{WrongLength}
use Rattle.refusal.specs.Number.{number_of}
use Rattle.refusal.specs.Outcome.{answer_outcome}
use Rattle.space_packets.specs.declared.Import.{Import}
use Rattle.space_packets.specs.Calls.{header_found, ImportLeft}
use Rattle.dfb_refusals.specs.Numbers.{above16}
use Rattle.dfb_space_packets.proofs.Imports.{refusal_or2, first-refusal, import-short, import_left, left_by, import-long, import-few}
use Rattle.dfb_space_packets.proofs.dfb_import_packet.Goals as goal

pub returns-then-header-lt-HEADER : goal.returns-then-header-lt-HEADER
returns-then-header-lt-HEADER c =
    let a = c.args in
    let first : number_of c.unwrap_or-refusal.result ≡ refusal_or2 (header_found a.packet.now) =
    ap number_of (c.unwrap_or-refusal.ensures ∙ ap (λ (o : Option Refusal). unwrap_or o WrongLength) c.err.ensures.value)
    ∙ first-refusal c.read_header.result ∙ ap refusal_or2 c.read_header.ensures in
    ap (λ (n : ℕ). record { answer = n; header = a.header.now; samples = a.samples.now }) (c.above_16.ensures ∙ ap (λ (n : ℕ). above16 + n) first)
    ∙ import-short a.packet.now a.header.now a.samples.now (omega arith)

pub overflow_cast-result : goal.overflow_cast-result
overflow_cast-result c =
    let a = c.args in
    omega (arith, import-few a.packet.now a.samples.now c.in-Ok.found (sym (ap (λ (l : ImportLeft). l.answer) c.import_packet.ensures) ∙ ap answer_outcome c.in-Ok.is))

pub returns-in-Ok : goal.returns-in-Ok
returns-in-Ok c =
    let a = c.args in
    let last = c.import_packet.new.samples in
    ap (λ (l : List ℕ). record { answer = c.in-Ok.found.samples; header = l; samples = last }) c.store.ensures
    ∙ ap (λ (r : Result Import Refusal). import_left a.header.now last (answer_outcome r)) (sym c.in-Ok.is)
    -- what importing the packet left is what the call leaves
    ∙ ap (left_by a.header.now) c.import_packet.ensures
    ∙ import-long a.packet.now a.header.now a.samples.now (omega arith)

pub returns-in-Err : goal.returns-in-Err
returns-in-Err c =
    let a = c.args in
    let last = c.import_packet.new.samples in
    ap (λ (n : ℕ). record { answer = n; header = a.header.now; samples = last }) c.above_16-in-Err.ensures
    ∙ ap (λ (r : Result Import Refusal). import_left a.header.now last (answer_outcome r)) (sym c.in-Err.is)
    -- what importing the packet left is what the call leaves
    ∙ ap (left_by a.header.now) c.import_packet.ensures
    ∙ import-long a.packet.now a.header.now a.samples.now (omega arith)
