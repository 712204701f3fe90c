-- `snapshot::read_packet` meets its contract: the header's case, and then that of the samples. Assumes nothing.
use Prim.Native.Nat.{ℕ, ◌-◌}
use mathlib.Core.Path.{◌≡◌, sym, ap, ◌∙◌}
use mathlib.Core.List.{List}
use native.Mathlib.Omega.{arith}
use lib.IntN.{ℤ}
use lib.ListN.{length, take, drop, length-drop}
use lib.Seq.{take_all}
use Rattle.std.proofs.lemmas.Result.{err_from_is_err_and}
use Rattle.refusal.specs.Outcome.{given, Filled}
use Rattle.fields.specs.Samples.{get_outcome}
use Rattle.snapshot.specs.Calls.{header_found, samples_read, packet_read}
use Rattle.snapshot.specs.declared.Header.{Header}
use Rattle.snapshot.proofs.Packets.{accepted}
use Rattle.snapshot.proofs.Buffers.{read_by, read-by}
use Rattle.snapshot.proofs.read_packet.Goals as goal

pub slice_bounds-get_samples-count : goal.slice_bounds-get_samples-count
slice_bounds-get_samples-count c = (accepted c.args.packet.now c.in_ok-header.header (sym c.in_ok-header.ensures)).long

pub slice_bounds-get_samples-start : goal.slice_bounds-get_samples-start
slice_bounds-get_samples-start c = (accepted c.args.packet.now c.in_ok-header.header (sym c.in_ok-header.ensures)).long

pub returns-in_err-header : goal.returns-in_err-header
unfolding packet_read
returns-in_err-header c =
    let p = err_from_is_err_and c.from_residual.result c.from_residual.ensures.1 in
    rw (p.1, p.2) (ap (samples_read c.args.packet.now c.args.samples.now) c.in_err-header.ensures)

-- what getting the samples left is what reading the packet leaves
got : (packet : List ℕ) (samples : List ℤ) (h : Header) {f : Filled ℤ} → given h ≡ header_found packet →
    f ≡ get_outcome (take (length packet - 20) (drop 20 packet)) samples → read_by h f ≡ packet_read packet samples
got packet samples h found e =
    let rest : take (length packet - 20) (drop 20 packet) ≡ drop 20 packet = take_all (length packet - 20) (drop 20 packet) (omega (arith, length-drop 20 packet)) in
    ap (read_by h) (e ∙ ap (λ (l : List ℕ). get_outcome l samples) rest) ∙ read-by packet samples h (sym found)

pub returns-in_err-count : goal.returns-in_err-count
returns-in_err-count c =
    let a = c.args in
    let p = err_from_is_err_and c.from_residual-in_err-count.result c.from_residual-in_err-count.ensures.1 in
    rw (p.1, p.2) (got a.packet.now a.samples.now c.in_ok-header.header c.in_ok-header.ensures c.in_err-count.ensures)

pub returns : goal.returns
returns c =
    let a = c.args in
    got a.packet.now a.samples.now c.in_ok-header.header c.in_ok-header.ensures c.in_ok-count.ensures
