-- `space_packets::put_packets` meets its contract. The loop: the output begins with the packets so far, and is as it was after them.
-- Assumes nothing.
use Prim.Native.Nat.{ℕ, ◌+◌, ◌-◌, ◌*◌, ◌≤◌, ◌<◌}
use mathlib.Core.Path.{◌≡◌, refl, sym, ap, ◌∙◌}
use mathlib.Core.List.{List}
use native.Mathlib.Nat.{le_of_lt}
use native.Mathlib.Omega.{arith}
use borrow.Rule.Slice.PartMut.{same_len_mid}
use lib.IntN.{ℤ}
use lib.ListN.{length, take, drop, length-take, length-drop}
use Rattle.lists.specs.Tables.{concat_to, overwrite}
use Rattle.lists.proofs.Overwriting.{parts_none}
use Rattle.space_packets.specs.Packet.{packet_bytes, packet_count, count_of, packets_bytes}
use Rattle.space_packets.proofs.Parts.{left-for, all_in, few}
use Rattle.space_packets.proofs.Packets.{packet_at, one-bytes, Place, place, range-samples, range_length, packets-more}
use Rattle.space_packets.proofs.put_packets.Goals as goal

-- samples of one packet are no more than the most
one-few : (n most : ℕ) → 0 < most → packet_count n most ≡ 1 → n ≤ most
one-few n most some one = let all : n ≤ 1 * most = rw one at (all_in n most some) in omega arith

pub put_packet-requires : goal.put_packet-requires
put_packet-requires c =
    let a = c.args in
    let n = length a.samples.now in
    let one : packet_count n a.most ≡ 1 = omega (arith, c.requires.3, c.if-packets-eq1.true) in
    let upto = one-few n a.most c.requires.1 one in
    (omega arith, omega (arith, few n a.most c.requires.1, one), omega arith, omega (arith, c.requires.4, one))

pub returns-then-packets-eq1 : goal.returns-then-packets-eq1
returns-then-packets-eq1 c =
    let a = c.args in
    let n = length a.samples.now in
    let only : 1 ≡ a.packets = omega (arith, c.if-packets-eq1.true) in
    let one : packet_count n a.most ≡ 1 = omega (arith, c.requires.3, only) in
    let upto = one-few n a.most c.requires.1 one in (
      c.count_after.ensures ∙ ap (count_of a.first) only,
      c.put_packet.ensures ∙ ap (λ (l : List ℕ). overwrite l a.out.now) (sym (one-bytes a.apid a.first a.most a.samples.now (omega arith) one upto)),
    )

pub loop-p-init : goal.loop-p-init
loop-p-init c =
    let a = c.args in
    (omega arith, refl, omega arith, parts_none (packet_at a.apid a.first a.most a.samples.now) a.out.now)

pub overflow_mul-from : goal.overflow_mul-from
overflow_mul-from c =
    let left = left-for (length c.args.samples.now) c.args.most c.requires.1 c.loop-p.p (omega arith) in
    record { fits = omega arith }

pub overflow_sub-samples : goal.overflow_sub-samples
overflow_sub-samples c = le_of_lt (left-for (length c.args.samples.now) c.args.most c.requires.1 c.loop-p.p (omega arith))

pub put_packet-requires-in-loop-p : goal.put_packet-requires-in-loop-p
put_packet-requires-in-loop-p c =
    let a = c.args in
    let l = c.loop-p in
    let m = c.min-n.result in
    let at : Place (length a.samples.now) a.most l.p m (length a.out.now) =
    place (length a.samples.now) a.most l.p m (length a.out.now) c.requires.1 (omega arith) c.requires.4 c.min-n.ensures in
    let part : length (take (l.p * a.most + m - l.p * a.most) (drop (l.p * a.most) a.samples.now)) ≡ m =
    ap (λ (x : List ℤ). length x) (range-samples a.most l.p m _ a.samples.now at) ∙ range_length a.most l.p m _ a.samples.now at in
    let s = 6 * l.p + 2 * (l.p * a.most) in
    let room : length (take (s + (6 + 2 * m) - s) (drop s l.out)) ≡ 6 + 2 * m =
    length-take (s + (6 + 2 * m) - s) (drop s l.out) ∙ omega (arith, length-drop s l.out, l.invariant.1, at.fits) in
    (omega (arith, l.invariant.2), omega (arith, part, at.some), omega (arith, part, at.upto, c.requires.2), omega (arith, part, room))

pub count_after-count-requires : goal.count_after-count-requires
count_after-count-requires c = omega (arith, c.loop-p.invariant.2)

pub loop-p-preserved : goal.loop-p-preserved
loop-p-preserved c =
    let a = c.args in
    let l = c.loop-p in
    let m = c.min-n.result in
    let at : Place (length a.samples.now) a.most l.p m (length a.out.now) =
    place (length a.samples.now) a.most l.p m (length a.out.now) c.requires.1 (omega arith) c.requires.4 c.min-n.ensures in
    let s = 6 * l.p + 2 * (l.p * a.most) in
    let part = take (l.p * a.most + m - l.p * a.most) (drop (l.p * a.most) a.samples.now) in
    let put = c.put_packet-in-loop-p.new.out in
    let counted : c.count_after-count.result ≡ count_of a.first (l.p + 1) = c.count_after-count.ensures ∙ omega (arith, l.invariant.2) in
    let written : put ≡ overwrite (packet_bytes a.apid (count_of a.first l.p) part) (take (s + (6 + 2 * m) - s) (drop s l.out)) =
    c.put_packet-in-loop-p.ensures ∙ ap (λ (n : ℕ). overwrite (packet_bytes a.apid n part) (take (s + (6 + 2 * m) - s) (drop s l.out))) l.invariant.2 in (
      omega arith,
      same_len_mid s (s + (6 + 2 * m) - s) l.out put c.put_packet-in-loop-p.auto.out ∙ l.invariant.1,
      counted,
      packets-more a.apid a.first a.most l.p m (s + (6 + 2 * m) - s) a.samples.now part a.out.now l.out put at l.invariant.1 l.invariant.3 (omega arith)
          (range-samples a.most l.p m (length a.out.now) a.samples.now at) written,
    )

pub returns : goal.returns
unfolding packets_bytes
returns c =
    let a = c.args in
    let l = c.loop-p in
    let done : l.p ≡ a.packets = omega arith in (
      l.invariant.2 ∙ ap (count_of a.first) done,
      l.invariant.3 ∙ ap (λ (n : ℕ). overwrite (concat_to n (packet_at a.apid a.first a.most a.samples.now)) a.out.now) (done ∙ c.requires.3),
    )
