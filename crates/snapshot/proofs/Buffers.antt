-- What reading and writing leave in their buffers. Assumes nothing.
use Prim.Native.Nat.{ℕ, ◌+◌, ◌*◌, ◌/◌, ◌%◌, ◌≤◌}
use mathlib.Core.Path.{◌≡◌, sym, ap, ◌∙◌}
use mathlib.Core.Bool.{true, false}
use mathlib.Core.List.{List, ◌++◌}
use native.Mathlib.Omega.{arith}
use borrow.Author.Tests.{ltb-true, ltb-false, le-leb, lt-leb, eq-eqb}
use lib.Dec.{leb, ltb, eqb}
use lib.IntN.{ℤ}
use lib.ListN.{length, take, drop, length-take, length-drop}
use Rattle.lists.specs.Tables.{overwrite}
use Rattle.lists.proofs.Choices.{by_cases}
use Rattle.lists.proofs.Overwriting.{length-overwrite, overwrite-all, overwrite-part}
use Rattle.refusal.specs.Outcome.{Outcome, given, refused, Filled}
use Rattle.fields.specs.Samples.{sample_bytes, get_outcome}
use Rattle.fields.proofs.Samples.{bytes-length, samples-drop}
use Rattle.snapshot.specs.declared.Header.{Header}
use Rattle.snapshot.specs.declared.Found.{Found}
use Rattle.snapshot.specs.Packet.{header_bytes, packet_bytes, sample_count}
use Rattle.snapshot.specs.Calls.{header_found, ReadLeft, packet_read}
use Rattle.snapshot.proofs.Packets.{header-length, accepted}

-- ---- reading

-- what getting the samples left, with the header
abbrev with_header : Header → Outcome ℕ → Outcome Found
with_header h (given n) = given (record { header = h; count = n })
with_header h (refused n) = refused n

abbrev pub read_by : Header → Filled ℤ → ReadLeft
read_by h f = record { answer = with_header h f.answer; samples = f.buffer }

pub read-by : (packet : List ℕ) (out : List ℤ) (h : Header) → header_found packet ≡ given h → read_by h (get_outcome (drop 20 packet) out) ≡ packet_read packet out
unfolding packet_read get_outcome
read-by packet out h e =
    let a = accepted packet h e in
    let n = sample_count h.mask in
    let long : length (drop 20 packet) ≡ 2 * n = length-drop 20 packet ∙ omega (arith, a.whole) in
    let half : length (drop 20 packet) / 2 ≡ n = omega (arith, long) in
    let even : eqb (length (drop 20 packet) % 2) 0 ≡ true = eq-eqb (length (drop 20 packet) % 2) 0 (omega (arith, long)) in
    by_cases (ltb (length out) n)
    (λ t. let short : leb n (length out) ≡ false = lt-leb n (length out) (ltb-true (length out) n t) in rw (e, even, half, short, t))
    (λ t. let room : leb n (length out) ≡ true = le-leb n (length out) (ltb-false (length out) n t) in
    rw (e, even, half, room, t, samples-drop n packet 20))

-- ---- writing

-- the header at the front of a packet, and the samples in the k bytes behind it
pub packet-put : (h : Header) (samples : List ℤ) (packet with part : List ℕ) (k : ℕ) → with ≡ overwrite (header_bytes h) packet →
    k ≡ 2 * length samples → 20 + k ≤ length packet → part ≡ overwrite (sample_bytes samples) (take k (drop 20 with)) →
    take 20 with ++ (part ++ drop k (drop 20 with)) ≡ overwrite (packet_bytes h samples) packet
unfolding packet_bytes
packet-put h samples packet with part k e q room p =
    let kept : length with ≡ length packet = ap (λ (l : List ℕ). length l) e ∙ length-overwrite (header_bytes h) packet (omega (arith, header-length h)) in
    let long : length (sample_bytes samples) ≡ length (take k (drop 20 with)) =
    bytes-length samples ∙ omega (arith, length-take k (drop 20 with), length-drop 20 with, kept) in
    ap (λ (l : List ℕ). take 20 with ++ (l ++ drop k (drop 20 with))) (p ∙ overwrite-all (sample_bytes samples) _ long)
    ∙ ap (λ (l : List ℕ). take 20 l ++ (sample_bytes samples ++ drop k (drop 20 l))) e
    ∙ overwrite-part (header_bytes h) (sample_bytes samples) packet 20 k (header-length h) (bytes-length samples ∙ sym q)
