-- `snapshot::read_header` meets its contract: the tests pick the case of the rule. Assumes nothing.
use Prim.Native.Nat.{ℕ, ◌+◌, ◌*◌, ◌≤◌}
use mathlib.Core.Path.{◌≡◌, sym, ap, ◌∙◌}
use mathlib.Core.Bool.{true, false}
use mathlib.Core.List.{List}
use native.Mathlib.Omega.{arith}
use borrow.Author.Tests.{lt-ltb, le-ltb, eq-eqb, ne_eqb, not-true, not-false}
use lib.Dec.{ltb, eqb}
use lib.ListN.{length}
use Rattle.refusal.specs.Outcome.{given}
use Rattle.snapshot.specs.declared.Header.{Header}
use Rattle.snapshot.specs.Packet.{header_in, sample_count, packet_length, is_snapshot, in_range}
use Rattle.snapshot.specs.Calls.{header_found}
use Rattle.snapshot.proofs.Packets.{components-le}
use Rattle.snapshot.proofs.read_header.Goals as goal

pub returns-then-packet-lt-HEADER : goal.returns-then-packet-lt-HEADER
unfolding header_found
returns-then-packet-lt-HEADER c = simp (lt-ltb (length c.args.packet.now) 20 (omega arith))

pub returns-then-not-is_snapshot : goal.returns-then-not-is_snapshot
unfolding header_found
returns-then-not-is_snapshot c =
    let packet = c.args.packet.now in
    let other : is_snapshot packet ≡ false = sym c.is_snapshot.ensures ∙ not-true _ c.if-not-is_snapshot.true-raw in
    simp (le-ltb (length packet) 20 (omega arith), other)

-- what is known where the header is read
record Known (packet : List ℕ) (h : Header) : Type 0 where
  long : ltb (length packet) 20 ≡ false
  is : is_snapshot packet ≡ true
  same : h ≡ header_in packet

known : (packet : List ℕ) (h : Header) → 20 ≤ length packet → is_snapshot packet ≡ true → h ≡ header_in packet → Known packet h
known packet h long is same = record { long = le-ltb (length packet) 20 long; is = is; same = same }

pub returns-then-not-is_in_range : goal.returns-then-not-is_in_range
unfolding header_found
returns-then-not-is_in_range c =
    let k = known c.args.packet.now c.header_in-header.result (omega arith) (sym c.is_snapshot.ensures ∙ not-false _ c.if-not-is_snapshot.false-raw) c.header_in-header.ensures in
    let packet = c.args.packet.now in
    let out : in_range (header_in packet) ≡ false = sym (ap in_range k.same) ∙ sym c.is_in_range.ensures ∙ not-true _ c.if-not-is_in_range.true-raw in
    simp (k.long, k.is, out)

pub overflow_mul-sample_count : goal.overflow_mul-sample_count
overflow_mul-sample_count c = omega (arith, c.sample_count.ensures, components-le c.header_in-header.result.mask)

pub overflow_add-sample_count : goal.overflow_add-sample_count
overflow_add-sample_count c = omega (arith, c.sample_count.ensures, components-le c.header_in-header.result.mask)

pub returns-then-packet-sample_count : goal.returns-then-packet-sample_count
unfolding header_found
returns-then-packet-sample_count c =
    let k = known c.args.packet.now c.header_in-header.result (omega arith) (sym c.is_snapshot.ensures ∙ not-false _ c.if-not-is_snapshot.false-raw) c.header_in-header.ensures in
    let packet = c.args.packet.now in
    let inside : in_range (header_in packet) ≡ true = sym (ap in_range k.same) ∙ sym c.is_in_range.ensures ∙ not-false _ c.if-not-is_in_range.false-raw in
    let counted : 20 + 2 * c.sample_count.result ≡ packet_length (header_in packet).mask =
    ap (λ (n : ℕ). 20 + 2 * n) (c.sample_count.ensures ∙ ap (λ (h : Header). sample_count h.mask) k.same) in
    let odd : eqb (length packet) (packet_length (header_in packet).mask) ≡ false =
    ne_eqb _ _ (λ e. c.if-packet-sample_count.true (e ∙ sym counted)) in
    simp (k.long, k.is, inside, odd)

pub returns : goal.returns
unfolding header_found
returns c =
    let k = known c.args.packet.now c.header_in-header.result (omega arith) (sym c.is_snapshot.ensures ∙ not-false _ c.if-not-is_snapshot.false-raw) c.header_in-header.ensures in
    let packet = c.args.packet.now in
    let inside : in_range (header_in packet) ≡ true = sym (ap in_range k.same) ∙ sym c.is_in_range.ensures ∙ not-false _ c.if-not-is_in_range.false-raw in
    let counted : 20 + 2 * c.sample_count.result ≡ packet_length (header_in packet).mask =
    ap (λ (n : ℕ). 20 + 2 * n) (c.sample_count.ensures ∙ ap (λ (h : Header). sample_count h.mask) k.same) in
    let whole : eqb (length packet) (packet_length (header_in packet).mask) ≡ true = eq-eqb _ _ (c.if-packet-sample_count.false ∙ counted) in
    simp (k.long, k.is, inside, whole) (ap given k.same)
