-- `snapshot::write_packet` meets its contract: the tests pick the case of the rule. Assumes nothing.
use Prim.Native.Nat.{ℕ, ◌+◌, ◌*◌, ◌-◌}
use mathlib.Core.Path.{◌≡◌, sym, ap, ap₂, ◌∙◌}
use mathlib.Core.Bool.{true, false}
use mathlib.Core.List.{List}
use native.Mathlib.Omega.{arith}
use borrow.Author.Tests.{lt-ltb, le-ltb, eq-eqb, ne_eqb}
use lib.Dec.{ltb, eqb}
use lib.ListN.{length, take, drop, length-take, length-drop}
use Rattle.lists.specs.Tables.{overwrite}
use Rattle.refusal.specs.Outcome.{given, Filled}
use Rattle.fields.proofs.Samples.{put-buffer}
use Rattle.fields.specs.Samples.{sample_bytes}
use Rattle.snapshot.specs.Packet.{sample_count, packet_length, in_range}
use Rattle.snapshot.specs.Calls.{packet_written}
use Rattle.snapshot.proofs.Packets.{components-le}
use Rattle.snapshot.proofs.Buffers.{packet-put}
use Rattle.snapshot.proofs.write_packet.Goals as goal

pub returns-then-not-is_in_range : goal.returns-then-not-is_in_range
unfolding packet_written
returns-then-not-is_in_range c =
    let out : in_range c.args.header ≡ false = sym c.is_in_range.ensures ∙ c.if-not-is_in_range.true in
    simp out

pub returns-then-samples-count : goal.returns-then-samples-count
unfolding packet_written
returns-then-samples-count c =
    let a = c.args in
    let range : in_range a.header ≡ true = sym c.is_in_range.ensures ∙ c.if-not-is_in_range.false in
    let other : eqb (length a.samples.now) (sample_count a.header.mask) ≡ false =
    ne_eqb _ _ (λ e. c.if-samples-count.true (e ∙ sym c.sample_count-count.ensures)) in
    simp (range, other)

pub returns-then-packet-length : goal.returns-then-packet-length
unfolding packet_written
returns-then-packet-length c =
    let a = c.args in
    let n = sample_count a.header.mask in
    let range : in_range a.header ≡ true = sym c.is_in_range.ensures ∙ c.if-not-is_in_range.false in
    let same : eqb (length a.samples.now) n ≡ true = eq-eqb _ _ (c.if-samples-count.false ∙ c.sample_count-count.ensures) in
    let short : ltb (length a.packet.now) (20 + 2 * n) ≡ true = lt-ltb (length a.packet.now) (20 + 2 * n) (omega (arith, c.sample_count-count.ensures)) in
    simp (range, same, short)

pub overflow_mul-length : goal.overflow_mul-length
overflow_mul-length c = omega (arith, c.sample_count-count.ensures, components-le c.args.header.mask)

pub overflow_add-length : goal.overflow_add-length
overflow_add-length c = omega (arith, c.sample_count-count.ensures, components-le c.args.header.mask)

pub returns-else-packet-length : goal.returns-else-packet-length
unfolding packet_written
returns-else-packet-length c =
    let a = c.args in
    let n = c.sample_count-count.result in
    let count = c.sample_count-count.ensures in
    let put = c.put_header in
    let with = put.new.packet in
    let range : in_range a.header ≡ true = sym c.is_in_range.ensures ∙ c.if-not-is_in_range.false in
    let many : length a.samples.now ≡ n = c.if-samples-count.false in
    let same : eqb (length a.samples.now) (sample_count a.header.mask) ≡ true = eq-eqb _ _ (many ∙ count) in
    let room : ltb (length a.packet.now) (packet_length a.header.mask) ≡ false =
    le-ltb (length a.packet.now) (packet_length a.header.mask) (omega (arith, count)) in
    let kept : length with ≡ length a.packet.now = put.auto.packet in
    let long : length (take (20 + 2 * n - 20) (drop 20 with)) ≡ 2 * n = omega (arith, length-take (20 + 2 * n - 20) (drop 20 with), length-drop 20 with, kept) in
    let part : c.put_samples.new.out ≡ overwrite (sample_bytes a.samples.now) (take (20 + 2 * n - 20) (drop 20 with)) =
    ap (λ (f : Filled ℕ). f.buffer) c.put_samples.ensures ∙ put-buffer a.samples.now _ (omega (arith, long, many)) in
    simp (range, same, room)
    (ap₂ (λ (bytes : ℕ) (l : List ℕ). record { answer = given bytes; buffer = l }) (ap (λ (m : ℕ). 20 + 2 * m) count)
    (packet-put a.header a.samples.now a.packet.now with _ (20 + 2 * n - 20) put.ensures (omega (arith, many)) (omega arith) part))
