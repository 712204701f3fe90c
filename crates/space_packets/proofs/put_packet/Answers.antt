-- `space_packets::put_packet` meets its contract: the header, and the samples behind it. Assumes nothing.
use Prim.Native.Nat.{ℕ, ◌+◌, ◌-◌, ◌*◌, ◌≤◌}
use mathlib.Core.Path.{◌≡◌, sym, ap, ◌∙◌}
use mathlib.Core.List.{List, ◌++◌}
use native.Mathlib.Omega.{arith}
use lib.IntN.{ℤ}
use lib.ListN.{length, take, drop, length-take, length-drop}
use Rattle.lists.specs.Tables.{overwrite}
use Rattle.lists.proofs.Overwriting.{length-overwrite, overwrite-all, overwrite-part}
use Rattle.fields.specs.Samples.{sample_bytes}
use Rattle.refusal.specs.Outcome.{Filled}
use Rattle.fields.proofs.Samples.{bytes-length, put-buffer}
use Rattle.space_packets.specs.Packet.{primary_bytes, stated, packet_bytes}
use Rattle.space_packets.proofs.Headers.{primary-length}
use Rattle.space_packets.proofs.Packets.{stated-fits}
use Rattle.space_packets.proofs.put_packet.Goals as goal

pub put_primary-requires : goal.put_primary-requires
put_primary-requires c =
    let a = c.args in
    (stated-fits a.apid a.count (2 * length a.samples.now) (omega arith) (omega arith) (omega arith), omega arith)

-- the header at the front of a packet, and the samples in the k bytes behind it
packet-put : (apid count : ℕ) (samples : List ℤ) (out with part : List ℕ) (k : ℕ) → with ≡ overwrite (primary_bytes (stated apid count (2 * length samples))) out →
    k ≡ 2 * length samples → 6 + k ≤ length out → part ≡ overwrite (sample_bytes samples) (take k (drop 6 with)) →
    take 6 with ++ (part ++ drop k (drop 6 with)) ≡ overwrite (packet_bytes apid count samples) out
unfolding packet_bytes
packet-put apid count samples out with part k e q room p =
    let bytes = primary_bytes (stated apid count (2 * length samples)) in
    let six : length bytes ≡ 6 = primary-length (stated apid count (2 * length samples)) in
    let kept : length with ≡ length out = ap (λ (l : List ℕ). length l) e ∙ length-overwrite bytes out (omega (arith, six)) in
    let long : length (sample_bytes samples) ≡ length (take k (drop 6 with)) =
    bytes-length samples ∙ omega (arith, length-take k (drop 6 with), length-drop 6 with, kept) in
    ap (λ (l : List ℕ). take 6 with ++ (l ++ drop k (drop 6 with))) (p ∙ overwrite-all (sample_bytes samples) _ long)
    ∙ ap (λ (l : List ℕ). take 6 l ++ (sample_bytes samples ++ drop k (drop 6 l))) e
    ∙ overwrite-part bytes (sample_bytes samples) out 6 k six (bytes-length samples ∙ sym q)

pub returns : goal.returns
returns c =
    let a = c.args in
    let n = length a.samples.now in
    let put = c.put_primary in
    let with = put.new.packet in
    let kept : length with ≡ length a.out.now = put.auto.packet in
    let long : length (take (6 + 2 * n - 6) (drop 6 with)) ≡ 2 * n = omega (arith, length-take (6 + 2 * n - 6) (drop 6 with), length-drop 6 with, kept) in
    let part : c.put_samples.new.out ≡ overwrite (sample_bytes a.samples.now) (take (6 + 2 * n - 6) (drop 6 with)) =
    ap (λ (f : Filled ℕ). f.buffer) c.put_samples.ensures ∙ put-buffer a.samples.now _ (omega (arith, long)) in
    packet-put a.apid a.count a.samples.now a.out.now with _ (6 + 2 * n - 6) put.ensures (omega arith) (omega arith) part
