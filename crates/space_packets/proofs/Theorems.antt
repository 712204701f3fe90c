-- The claims on space packets. Assumes nothing.
use Prim.Native.Nat.{ℕ, zero, suc, ◌+◌, ◌-◌, ◌*◌, ◌/◌, ◌%◌, ◌≤◌, ◌<◌}
use mathlib.Core.Path.{◌≡◌, refl, sym, ap, ap₂, subst, ◌∙◌}
use mathlib.Core.Bool.{true, false, not}
use mathlib.Core.Logic.{◌⊎◌, inl, inr, ⊎_elim}
use mathlib.Core.List.{List, [], ◌∷◌, ◌++◌, append-nil, append_assoc, map}
use native.Mathlib.Decide.{dec_lt}
use native.Mathlib.Nat.{mul_comm, mul_assoc, mul-add-mod_self_right, mul-mod_right, mul-le-mul_left, le-div_iff_mul-le, div-add-mod', mod-eq_of_lt}
use native.Mathlib.Omega.{arith}
use borrow.Author.Tests.{ltb-true, ltb-false, eqb-true, eqb-false, lt-ltb, le-ltb, eq-eqb}
use lib.Dec.{ltb, eqb}
use lib.IntN.{ℤ}
use lib.ListN.{length, take, drop, take-append-drop, length-take, length-drop}
use lib.Seq.{take_at}
use Rattle.lists.specs.Tables.{tabulate, concat_to, overwrite}
use Rattle.lists.proofs.Choices.{by_cases, cond-at, both}
use Rattle.lists.proofs.Overwriting.{same-front}
use Rattle.lists.proofs.Tables.{tabulate-ext}
use Rattle.lists.proofs.Maps.{map-tabulate}
use Rattle.refusal.specs.Outcome.{Outcome, given, refused, refusal_of}
use Rattle.refusal.proofs.Outcomes.{refused-given, given-refused, given-same}
use Rattle.words.specs.Sample.{Are16}
use Rattle.words.specs.Words.{AreBytes, set_size}
use Rattle.words.proofs.Laws.{size-refused}
use Rattle.fields.specs.Samples.{sample_bytes, samples_at}
use Rattle.fields.proofs.Samples.{samples-length, samples-16}
use Rattle.fields.proofs.Theorems.{samples-return, sample-bytes-return}
use Rattle.space_packets.specs.declared.Primary.{Primary}
use Rattle.space_packets.specs.declared.PacketHeader.{PacketHeader}
use Rattle.space_packets.specs.Packet.{primary_bytes, primary_in, stated, packet_bytes, is_stated, is_whole, most_samples, packet_count, samples_of, count_of, packets_bytes, packets_length}
use Rattle.space_packets.specs.declared.Import.{Import}
use Rattle.space_packets.specs.declared.Export.{Export}
use Rattle.space_packets.specs.Calls.{header_found, header_taken, header_of_sets, ImportLeft, sample_count, samples_imported, packet_imported, ExportLeft, are_sets, sets_exported, exported_sets, packets_exported}
use Rattle.space_packets.specs.Claims.{Makes, imported_as, ImportExactly, FullButLast, EachWhole, AllSamples, CountsRise, Sends, ExportExactly, packets_in, Got, got_by, got_from, ExportImported, ImportExported, RefusedImportUnchanged, RefusedExportUnchanged, ImportRoom, ExportRoom, ExportApidRefused, FirstCountRefused, SamplesRefused, ShortBytesRefused, ShortPacketRefused, ImportApidRefused, FieldRefused, DataRefused, ShortSamplesRefused, header_of, HeaderAlone, RestStays, before, samples_got, AllImported, Taken, TakenExactly}
use Rattle.space_packets.proofs.Headers.{primary-length, primary-fits, primary-bytes-return, set-sizes-fit, set-over, is-stated, Whole, is-whole, whole_is, whole-samples, Accepted, accepted, accepts}
use Rattle.space_packets.proofs.Parts.{left-for, full-before, one-packet, at_most, samples-all, part_length, part-some, part-most}
use Rattle.space_packets.proofs.Packets.{Most, most-of, packet-length, header-of-packet, packets-all, ends, packet_at, bytes-all, one-bytes}

-- ---- counts

pub counts-rise : CountsRise
counts-rise first p h =
    let start : (first + 0) % 16384 ≡ first = omega arith in (
      start,
      by_cases (eqb ((first + p) % 16384) 16383)
          (λ t. let e : (first + p) % 16384 ≡ 16383 = eqb-true _ _ t in rw t (omega arith))
          (λ t. let e = eqb-false ((first + p) % 16384) 16383 t in rw t (omega arith)),
    )

-- ---- the packets of samples, over the words of a set

pub all-samples : AllSamples
all-samples words samples some fits = samples-all (most_samples words) samples (most-of words some fits).some

pub full-but-last : FullButLast
full-but-last words apid first samples p some fits h =
    let m = most-of words some fits in
    let most = most_samples words in
    let full : length (samples_of most samples p) ≡ most = part_length most samples p (full-before (length samples) most m.some p h) in
    let long = packet-length apid (count_of first p) (samples_of most samples p) in
    record { fits = omega (arith, full, long, m.fits); no_more = omega (arith, full, long, m.no_more) }

pub each-whole : EachWhole
each-whole words samples p some fits whole h =
    let m = most-of words some fits in
    let most = most_samples words in
    let left = left-for (length samples) most m.some p h in
    record {
      some = part-some most samples p m.some left;
      whole = by_left m left (dec_lt (length samples) (p * most + most));
      fits = omega (arith, part-most most samples p, m.fits);
    }
  where
    by_left : Most words (most_samples words) → p * most_samples words < length samples → Dec (length samples < p * most_samples words + most_samples words) →
        length (samples_of (most_samples words) samples p) % words ≡ 0
    by_left m left (yes l) =
        let most = most_samples words in
        let part : length (samples_of most samples p) ≡ length samples - p * most = length-take most (drop (p * most) samples) ∙ omega (arith, length-drop (p * most) samples) in
        let split : p * most + length (samples_of most samples p) ≡ length samples = omega (arith, part) in
        sym (m.whole p (length (samples_of most samples p))) ∙ ap (λ (n : ℕ). n % words) split ∙ whole
    by_left m left (no l) =
        let most = most_samples words in
        let full : length (samples_of most samples p) ≡ most = part_length most samples p (omega arith) in
        let once : 1 * most + 0 ≡ most = omega arith in
        ap (λ (n : ℕ). n % words) (full ∙ sym once) ∙ m.whole 1 0 ∙ mod-eq_of_lt some

-- ---- exports that are accepted

-- what an accepted export leaves
sends-left : (apid first : ℕ) (samples : List ℤ) (out : List ℕ) (s : Export) (a : Sends apid first samples out s) →
    packets_exported apid first samples out ≡ record { answer = given s; out = overwrite (packets_bytes apid first (most_samples a.words) samples) out }
unfolding packets_exported sets_exported
sends-left apid first samples out s a =
    let most = most_samples a.words in
    let n = length samples in
    let count : ltb 16383 first ≡ false = le-ltb 16383 first a.counted in
    let some : ltb 0 n ≡ true = lt-ltb 0 n a.some in
    let whole : eqb (n % a.words) 0 ≡ true = eq-eqb (n % a.words) 0 a.whole in
    let room : ltb (length out) (packets_length n most) ≡ false = le-ltb (length out) (packets_length n most) a.room in
    rw (a.sets, count, some, whole, room)
    (ap₂ (λ (b m : ℕ). record { answer = given (record { bytes = b; next = m }); out = overwrite (packets_bytes apid first most samples) out }) (sym a.bytes) (sym a.next))

export-accepted : (apid first : ℕ) (samples : List ℤ) (out : List ℕ) (s : Export) → (packets_exported apid first samples out).answer ≡ given s → Sends apid first samples out s
unfolding packets_exported sets_exported
export-accepted apid first samples out s e = by-sets (set_size apid) refl e
  where
    by-sets : (o : Outcome ℕ) → set_size apid ≡ o → (exported_sets o apid first samples out).answer ≡ given s → Sends apid first samples out s
    by-sets (refused r) q e = absurd (refused-given r s e)
    by-sets (given words) q e =
        by_cases (ltb 16383 first) (λ t. absurd (refused-given 22 s (rw t at e)))
        (λ t. by_cases (are_sets words (length samples))
        (λ u. by_cases (ltb (length out) (packets_length (length samples) (most_samples words))) (λ v. absurd (refused-given 2 s (rw (t, u, v) at e)))
        (λ v. let same = given-same _ s (rw (t, u, v) at e) in
        let are = both (ltb 0 (length samples)) (eqb (length samples % words) 0) u in
        record {
          words = words;
          sets = q;
          counted = ltb-false 16383 first t;
          some = ltb-true 0 (length samples) are.0;
          whole = eqb-true (length samples % words) 0 are.1;
          room = ltb-false (length out) (packets_length (length samples) (most_samples words)) v;
          bytes = sym (ap (λ (x : Export). x.bytes) same);
          next = sym (ap (λ (x : Export). x.next) same);
        }))
        (λ u. absurd (refused-given 23 s (rw (t, u) at e))))

pub export-exactly : ExportExactly
export-exactly apid first samples out s = (export-accepted apid first samples out s, λ a. ap (λ (l : ExportLeft). l.answer) (sends-left apid first samples out s a))

-- ---- one packet

twice-mul : (q words : ℕ) → 2 * (q * words) ≡ q * (2 * words)
twice-mul q words = sym (mul_assoc 2 q words) ∙ ap (λ (n : ℕ). n * words) (mul_comm 2 q) ∙ mul_assoc q 2 words

set-apid : (apid words : ℕ) → set_size apid ≡ given words → apid < 2048
set-apid apid words e = by (dec_lt 255 apid)
  where
    by : Dec (255 < apid) → apid < 2048
    by (yes h) = absurd (refused-given 4 words (sym (set-over apid h) ∙ e))
    by (no h) = omega arith

module _ (apid count : ℕ) (samples : List ℤ) (m : Makes apid count samples) where
  abbrev made : PacketHeader
  made = record { apid = apid; count = count }

  -- its header, with nothing behind it
  made-primary : primary_in (packet_bytes apid count samples) ≡ stated apid count (2 * length samples)
  made-primary =
      ap primary_in (sym (append-nil (packet_bytes apid count samples)))
      ∙ header-of-packet apid count samples [] (set-apid apid m.words m.sets) m.counted (omega (arith, m.fits))

  made-size : length (packet_bytes apid count samples) - 6 ≡ 2 * length samples
  made-size = omega (arith, packet-length apid count samples)

  -- whole sets of samples are whole sets of bytes
  twice-whole : 2 * length samples % (2 * m.words) ≡ 0
  twice-whole =
      let q = length samples / m.words in
      let parts : q * m.words + length samples % m.words ≡ length samples = div-add-mod' (length samples) m.words in
      let same : 2 * length samples ≡ q * (2 * m.words) + 0 = omega (arith, parts, m.whole, twice-mul q m.words) in
      ap (λ (n : ℕ). n % (2 * m.words)) same ∙ mul-add-mod_self_right q (2 * m.words) 0 ∙ mod-eq_of_lt (omega (arith, set-sizes-fit apid m.words m.sets))

  made-accepted : Accepted (packet_bytes apid count samples) made
  made-accepted =
      record {
        words = m.words;
        set = ap (λ (p : Primary). set_size p.apid) made-primary ∙ m.sets;
        long = omega (arith, packet-length apid count samples);
        stated = ap is_stated made-primary;
        whole =
            whole_is m.words (primary_in (packet_bytes apid count samples)).length (length (packet_bytes apid count samples) - 6)
            (record {
              said = omega (arith, made-size, ap (λ (p : Primary). p.length) made-primary, m.some);
              most = omega (arith, made-size, m.fits);
              sets = ap (λ (n : ℕ). n % (2 * m.words)) made-size ∙ twice-whole;
              some = omega (arith, made-size, m.some);
            });
        header = ap (λ (p : Primary). record { apid = p.apid; count = p.count }) made-primary;
      }

  made-count : sample_count (packet_bytes apid count samples) ≡ length samples
  made-count = omega (arith, made-size)

  made-samples : samples_at (length samples) (packet_bytes apid count samples) 6 ≡ samples
  unfolding packet_bytes
  made-samples =
      let bytes = primary_bytes (stated apid count (2 * length samples)) in
      ap (samples_at (length samples) (bytes ++ sample_bytes samples)) (sym (primary-length (stated apid count (2 * length samples))))
      ∙ samples-return samples bytes m.are16

  made-imported : (out : List ℤ) → length samples ≤ length out → packet_imported (packet_bytes apid count samples) out ≡ imported_as made samples out
  unfolding packet_imported
  made-imported out room =
      let fits : ltb (length out) (length samples) ≡ false = le-ltb (length out) (length samples) room in
      rw (accepts (packet_bytes apid count samples) made made-accepted, made-count, fits, made-samples)

-- ---- a packet that is accepted

module _ (packet : List ℕ) (h : PacketHeader) (are : AreBytes packet) (a : Accepted packet h) where
  found-whole : Whole a.words (primary_in packet).length (length packet - 6)
  found-whole = is-whole a.words (primary_in packet).length (length packet - 6) a.whole

  -- two bytes for each sample, and whole sets of samples
  found-count : sample_count packet ≡ a.words * ((length packet - 6) / (2 * a.words))
  found-count = omega (arith, whole-samples a.words (length packet - 6) found-whole.sets)

  found-twice : length packet ≡ 6 + 2 * sample_count packet
  found-twice = omega (arith, found-count, whole-samples a.words (length packet - 6) found-whole.sets, a.long)

  found-length : length (samples_at (sample_count packet) packet 6) ≡ sample_count packet
  found-length = samples-length (sample_count packet) packet 6

  accepted-makes : Makes h.apid h.count (samples_at (sample_count packet) packet 6)
  accepted-makes =
      record {
        words = a.words;
        sets = ap (λ (g : PacketHeader). set_size g.apid) (sym a.header) ∙ a.set;
        counted = omega (arith, (primary-fits packet).1.1.1.1.1.0, ap (λ (g : PacketHeader). g.count) a.header);
        some = omega (arith, found-length, found-twice, found-whole.some);
        whole = ap (λ (n : ℕ). n % a.words) (found-length ∙ found-count) ∙ mul-mod_right a.words _;
        fits = omega (arith, found-length, found-twice, found-whole.most);
        are16 = samples-16 (sample_count packet) packet 6 are;
      }

  accepted-primary : primary_in packet ≡ stated h.apid h.count (2 * length (samples_at (sample_count packet) packet 6))
  accepted-primary =
      let field : (primary_in packet).length + 1 ≡ 2 * length (samples_at (sample_count packet) packet 6) = omega (arith, found-length, found-twice, found-whole.said) in
      is-stated (primary_in packet) a.stated
      ∙ ap₂ (λ (g : PacketHeader) (n : ℕ). stated g.apid g.count n) a.header field

  accepted-bytes : packet ≡ packet_bytes h.apid h.count (samples_at (sample_count packet) packet 6)
  unfolding packet_bytes
  accepted-bytes =
      sym (take-append-drop 6 packet)
      ∙ ap₂ (λ (x y : List ℕ). x ++ y) (sym (primary-bytes-return packet are a.long) ∙ ap primary_bytes accepted-primary)
      (sym (sample-bytes-return (sample_count packet) packet 6 are found-twice))

-- what an accepted import has found and leaves
record ImportAccepted (packet : List ℕ) (out : List ℤ) (found : Import) : Type 0 where
  header : header_found packet ≡ given found.header
  count : found.samples ≡ sample_count packet
  samples : (packet_imported packet out).samples ≡ overwrite (samples_at (sample_count packet) packet 6) out

import-accepted : (packet : List ℕ) (out : List ℤ) (found : Import) → (packet_imported packet out).answer ≡ given found → ImportAccepted packet out found
unfolding packet_imported
import-accepted packet out found e = by (header_found packet) refl e
  where
    by : (o : Outcome PacketHeader) → header_found packet ≡ o → (samples_imported packet out o).answer ≡ given found → ImportAccepted packet out found
    by (refused n) s t = absurd (refused-given n found t)
    by (given h) s t =
        by_cases (ltb (length out) (sample_count packet)) (λ q. absurd (refused-given 2 found (rw q at t)))
        (λ q. let same : record { header = h; samples = sample_count packet } ≡ found = given-same _ found (rw q at t) in
        record {
          header = s ∙ ap (λ (f : Import). given f.header) same;
          count = sym (ap (λ (f : Import). f.samples) same);
          samples = rw (s, q);
        })

pub import-exactly : ImportExactly
import-exactly packet h samples out are room = (forth, back)
  where
    forth : packet_imported packet out ≡ imported_as h samples out → Makes h.apid h.count samples × (packet ≡ packet_bytes h.apid h.count samples)
    forth e =
        let r = import-accepted packet out (record { header = h; samples = length samples }) (ap (λ (l : ImportLeft). l.answer) e) in
        let a = accepted packet h r.header in
        let same : samples_at (sample_count packet) packet 6 ≡ samples =
        same-front _ samples out (samples-length (sample_count packet) packet 6 ∙ sym r.count) (sym r.samples ∙ ap (λ (l : ImportLeft). l.samples) e) in
        (subst (Makes h.apid h.count) same (accepted-makes packet h are a), accepted-bytes packet h are a ∙ ap (packet_bytes h.apid h.count) same)

    back : Makes h.apid h.count samples × (packet ≡ packet_bytes h.apid h.count samples) → packet_imported packet out ≡ imported_as h samples out
    back m = ap (λ (l : List ℕ). packet_imported l out) m.1 ∙ made-imported h.apid h.count samples m.0 out room

-- ---- import after export

are-take : (n : ℕ) (samples : List ℤ) → Are16 samples → Are16 (take n samples)
are-take zero samples are = tt
are-take (suc n) [] are = tt
are-take (suc n) (z ∷ samples) are = (are.0, are-take n samples are.1)

are-drop : (n : ℕ) (samples : List ℤ) → Are16 samples → Are16 (drop n samples)
are-drop zero samples are = are
are-drop (suc n) [] are = tt
are-drop (suc n) (z ∷ samples) are = are-drop n samples are.1

-- a packet that is made gives its APID, count and samples
made_got : (apid count : ℕ) (samples back : List ℤ) → Makes apid count samples → length samples ≤ length back →
    got_from back (packet_bytes apid count samples) ≡ given (record { apid = apid; count = count; samples = samples })
made_got apid count samples back m room =
    ap (λ (l : ImportLeft). got_by l.answer l.samples) (made-imported apid count samples m back room)
    ∙ ap (λ (l : List ℤ). given (record { apid = apid; count = count; samples = l })) (take_at samples _ (length samples) refl)

-- each packet of an accepted export
sent-makes : (apid first : ℕ) (samples : List ℤ) (out : List ℕ) (s : Export) (a : Sends apid first samples out s) → Are16 samples →
    (p : ℕ) → p < packet_count (length samples) (most_samples a.words) → Makes apid (count_of first p) (samples_of (most_samples a.words) samples p)
sent-makes apid first samples out s a are p h =
    let fit = set-sizes-fit apid a.words a.sets in
    let w = each-whole a.words samples p fit.0 fit.1 a.whole h in
    record {
      words = a.words;
      sets = a.sets;
      counted = omega arith;
      some = w.some;
      whole = w.whole;
      fits = w.fits;
      are16 = are-take (most_samples a.words) (drop (p * most_samples a.words) samples) (are-drop (p * most_samples a.words) samples are);
    }

pub export-imported : ExportImported
unfolding packets_bytes
export-imported apid first words samples out s back sets are ok room =
    let a = export-accepted apid first samples out s ok in
    let same : a.words ≡ words = given-same a.words words (sym a.sets ∙ sets) in
    subst (λ (w : ℕ). most_samples w ≤ length back →
    map (got_from back) (packets_in s.bytes (take s.bytes (packets_exported apid first samples out).out))
    ≡ tabulate (packet_count (length samples) (most_samples w)) (λ p. given (record { apid = apid; count = (first + p) % 16384; samples = samples_of (most_samples w) samples p })))
    same (by a) room
  where
    by : (a : Sends apid first samples out s) → most_samples a.words ≤ length back →
        map (got_from back) (packets_in s.bytes (take s.bytes (packets_exported apid first samples out).out))
        ≡ tabulate (packet_count (length samples) (most_samples a.words))
        (λ p. given (record { apid = apid; count = (first + p) % 16384; samples = samples_of (most_samples a.words) samples p }))
    by a room =
        let most = most_samples a.words in
        let k = packet_count (length samples) most in
        let fit = set-sizes-fit apid a.words a.sets in
        let long : length (packets_bytes apid first most samples) ≡ s.bytes = bytes-all apid first most samples (most-of a.words fit.0 fit.1).some ∙ sym a.bytes in
        let makes = sent-makes apid first samples out s a are in
        let bytes : take s.bytes (packets_exported apid first samples out).out ≡ packets_bytes apid first most samples =
        ap (λ (l : ExportLeft). take s.bytes l.out) (sends-left apid first samples out s a) ∙ take_at (packets_bytes apid first most samples) _ s.bytes long in
        let cut : packets_in s.bytes (packets_bytes apid first most samples) ≡ tabulate k (packet_at apid first most samples) =
        packets-all k s.bytes (packet_at apid first most samples) (omega (arith, a.bytes))
        (λ p h. let m = makes p h in ends apid (count_of first p) (samples_of most samples p) (set-apid apid m.words m.sets) m.counted m.some (omega (arith, m.fits))) in
        ap (λ (l : List ℕ). map (got_from back) (packets_in s.bytes l)) bytes
        ∙ ap (map (got_from back)) cut
        ∙ map-tabulate (got_from back) k (packet_at apid first most samples)
        ∙ tabulate-ext k _ _ (λ p h. made_got apid (count_of first p) (samples_of most samples p) back (makes p h) (omega (arith, part-most most samples p)))

-- ---- export after import

-- whole sets that fit into a packet are no more than the most
whole-few : (words n : ℕ) → 0 < words → n % words ≡ 0 → 6 + 2 * n ≤ 4096 → n ≤ most_samples words
unfolding most_samples
whole-few words n some whole fits =
    let q = n / words in
    let parts : q * words + n % words ≡ n = div-add-mod' n words in
    let twice : 0 < 2 * words = omega arith in
    let few : q ≤ 4090 / (2 * words) = (le-div_iff_mul-le twice).1 (omega (arith, parts, whole, twice-mul q words)) in
    let more : words * q ≤ words * (4090 / (2 * words)) = mul-le-mul_left words few in
    omega (arith, parts, whole, more, mul_comm words q)

pub import-exported : ImportExported
import-exported packet out found back are ok room =
    let h = found.header in
    let r = import-accepted packet out found ok in
    let a = accepted packet h r.header in
    let zs = samples_at (sample_count packet) packet 6 in
    let m = accepted-makes packet h are a in
    let most = most_samples m.words in
    let fit = set-sizes-fit h.apid m.words m.sets in
    let taken : take found.samples (packet_imported packet out).samples ≡ zs =
    ap₂ (λ (n : ℕ) (l : List ℤ). take n l) r.count r.samples ∙ take_at zs _ (sample_count packet) (samples-length (sample_count packet) packet 6) in
    let few : length zs ≤ most = whole-few m.words (length zs) fit.0 m.whole m.fits in
    let one : packet_count (length zs) most ≡ 1 = one-packet (length zs) most (most-of m.words fit.0 fit.1).some m.some few in
    let bytes : packets_length (length zs) most ≡ length packet = omega (arith, one, found-twice packet h are a, found-length packet h are a) in
    let sends : Sends h.apid h.count zs back (record { bytes = length packet; next = count_of h.count 1 }) =
    record {
      words = m.words;
      sets = m.sets;
      counted = m.counted;
      some = m.some;
      whole = m.whole;
      room = omega (arith, bytes);
      bytes = sym bytes;
      next = ap (count_of h.count) (sym one);
    } in
    ap (λ (l : List ℤ). packets_exported h.apid h.count l back) taken
    ∙ sends-left h.apid h.count zs back (record { bytes = length packet; next = count_of h.count 1 }) sends
    ∙ ap (λ (l : List ℕ). record { answer = given (record { bytes = length packet; next = count_of h.count 1 }); out = overwrite l back })
    (one-bytes h.apid h.count most zs m.counted one few ∙ sym (accepted-bytes packet h are a))

-- ---- refusals

pub refused-import-unchanged : RefusedImportUnchanged
unfolding packet_imported
refused-import-unchanged packet out n = by (header_found packet)
  where
    by : (o : Outcome PacketHeader) → (samples_imported packet out o).answer ≡ refused n → (samples_imported packet out o).samples ≡ out
    by (refused m) = λ e. refl
    by (given h) =
        cond-at (λ (l : ImportLeft). l.answer ≡ refused n → l.samples ≡ out) (ltb (length out) (sample_count packet)) (λ t e. refl)
        (λ t e. absurd (given-refused _ n e))

pub refused-export-unchanged : RefusedExportUnchanged
unfolding packets_exported sets_exported
refused-export-unchanged apid first samples out n = by (set_size apid)
  where
    Kept : ExportLeft → Type 0
    Kept l = l.answer ≡ refused n → l.out ≡ out

    by : (o : Outcome ℕ) → (exported_sets o apid first samples out).answer ≡ refused n → (exported_sets o apid first samples out).out ≡ out
    by (refused m) = λ e. refl
    by (given words) =
        cond-at Kept (ltb 16383 first) (λ t e. refl)
        (λ t. cond-at Kept (not (are_sets words (length samples))) (λ u e. refl)
        (λ u. cond-at Kept (ltb (length out) (packets_length (length samples) (most_samples words))) (λ v e. refl) (λ v e. absurd (given-refused _ n e))))

-- ---- outputs that are long enough

-- a set has three words or seven
sizes : (apid words : ℕ) → set_size apid ≡ given words → (words ≡ 3) ⊎ (words ≡ 7)
unfolding set_size
sizes apid words e = subst Sizes e (all apid)
  where
    Sizes : Outcome ℕ → Type 0
    Sizes (given n) = (n ≡ 3) ⊎ (n ≡ 7)
    Sizes (refused n) = Unit {0}

    all : (apid : ℕ) → Sizes (set_size apid)
    all apid =
        cond-at Sizes (eqb apid 0x43) (λ t. inl refl)
        (λ t. cond-at Sizes (eqb apid 0x44) (λ u. inr refl)
        (λ u. cond-at Sizes (eqb apid 0x45) (λ v. inl refl)
        (λ v. cond-at Sizes (eqb apid 0x46) (λ w. inl refl)
        (λ w. cond-at Sizes (eqb apid 0x47) (λ x. inr refl) (λ x. cond-at Sizes (eqb apid 0x48) (λ y. inl refl) (λ y. tt))))))

-- a refusal that is not by 2
Not2 : {A : Type 0} → Outcome A → Type 0
Not2 (given a) = Unit {0}
Not2 (refused n) = ¬ (n ≡ 2)

header-not-2 : (packet : List ℕ) → Not2 (header_found packet)
unfolding header_found header_taken Not2
header-not-2 packet = cond-at Not2 (ltb (length packet) 6) (λ t e. omega arith) (λ t. by (set_size (primary_in packet).apid) refl)
  where
    by : (o : Outcome ℕ) → set_size (primary_in packet).apid ≡ o → Not2 (header_of_sets o (primary_in packet) (length packet - 6))
    by (refused n) e = λ q. omega (arith, size-refused (primary_in packet).apid n e)
    by (given words) e =
        cond-at Not2 (not (is_stated (primary_in packet))) (λ t q. omega arith)
        (λ t. cond-at Not2 (not (is_whole words (primary_in packet).length (length packet - 6))) (λ u q. omega arith) (λ u. tt))

pub import-room : ImportRoom
unfolding packet_imported Not2
import-room packet out room = by (header_found packet) refl (header-not-2 packet)
  where
    by : (o : Outcome PacketHeader) → header_found packet ≡ o → Not2 o → ¬ ((samples_imported packet out o).answer ≡ refused 2)
    by (refused n) s other t = other (ap refusal_of t)
    by (given h) s other t =
        let a = accepted packet h s in
        let w = is-whole a.words (primary_in packet).length (length packet - 6) a.whole in
        let few : sample_count packet ≤ 2044 =
        ⊎_elim (λ e. let sets : (length packet - 6) % 6 ≡ 0 = rw e at w.sets in omega (arith, w.most, sets))
        (λ e. let sets : (length packet - 6) % 14 ≡ 0 = rw e at w.sets in omega (arith, w.most, sets)) (sizes (primary_in packet).apid a.words a.set) in
        given-refused _ 2 (rw (le-ltb (length out) (sample_count packet) (omega (arith, few))) at t)

pub export-room : ExportRoom
unfolding packets_exported sets_exported most_samples
export-room apid first samples out room = by (set_size apid) refl
  where
    Other : ExportLeft → Type 0
    Other l = ¬ (l.answer ≡ refused 2)

    by : (o : Outcome ℕ) → set_size apid ≡ o → ¬ ((exported_sets o apid first samples out).answer ≡ refused 2)
    by (refused n) e = λ t. let two : n ≡ 2 = ap refusal_of t in omega (arith, size-refused apid n e)
    by (given words) e =
        let n = length samples in
        let fit = set-sizes-fit apid words e in
        let most : 2043 ≤ most_samples words = ⊎_elim (λ q. rw q (omega arith)) (λ q. rw q (omega arith)) (sizes apid words e) in
        let few = at_most n (most_samples words) (omega arith) 2043 (omega arith) most in
        let enough : ltb (length out) (packets_length n (most_samples words)) ≡ false = le-ltb (length out) (packets_length n (most_samples words)) (omega (arith, few)) in
        cond-at Other (ltb 16383 first) (λ t q. let two : 22 ≡ 2 = ap refusal_of q in omega arith)
        (λ t. cond-at Other (not (are_sets words n)) (λ u q. let two : 23 ≡ 2 = ap refusal_of q in omega arith)
        (λ u. rw enough (λ q. given-refused _ 2 q)))

-- ---- the refusals in order

pub export-apid-refused : ExportApidRefused
unfolding packets_exported
export-apid-refused apid first n samples out e = rw e (ap refused (size-refused apid n e))

pub first-count-refused : FirstCountRefused
unfolding packets_exported sets_exported
first-count-refused apid first words samples out e h = rw (e, lt-ltb 16383 first h) refl

pub samples-refused : SamplesRefused
unfolding packets_exported sets_exported
samples-refused apid first words samples out e h other =
    by_cases (are_sets words (length samples))
    (λ u. let are = both (ltb 0 (length samples)) (eqb (length samples % words) 0) u in
    absurd (other (ltb-true 0 (length samples) are.0, eqb-true (length samples % words) 0 are.1)))
    (λ u. rw (e, le-ltb 16383 first h, u) refl)

pub short-bytes-refused : ShortBytesRefused
unfolding packets_exported sets_exported
short-bytes-refused apid first words samples out e h some whole short =
    rw (e, le-ltb 16383 first h, lt-ltb 0 (length samples) some, eq-eqb (length samples % words) 0 whole, lt-ltb (length out) (packets_length (length samples) (most_samples words)) short) refl

-- a header that is refused refuses the packet
header_refused : (packet : List ℕ) (out : List ℤ) (n : ℕ) → header_found packet ≡ refused n → (packet_imported packet out).answer ≡ refused n
unfolding packet_imported
header_refused packet out n e = rw e refl

pub short-packet-refused : ShortPacketRefused
unfolding header_found
short-packet-refused packet out h = header_refused packet out 23 (rw (lt-ltb (length packet) 6 h) refl)

pub import-apid-refused : ImportApidRefused
unfolding header_found
import-apid-refused packet out n h e = header_refused packet out 4 (rw (le-ltb (length packet) 6 h, e) (ap refused (size-refused (primary_in packet).apid n e)))

pub field-refused : FieldRefused
unfolding header_found header_taken
field-refused packet out words h e other =
    by_cases (is_stated (primary_in packet)) (λ t. absurd (other (is-stated (primary_in packet) t)))
    (λ t. header_refused packet out 22 (rw (le-ltb (length packet) 6 h, e, t) refl))

pub data-refused : DataRefused
unfolding header_found header_taken
data-refused packet out words h e is other =
    by_cases (is_whole words (primary_in packet).length (length packet - 6))
    (λ t. let w = is-whole words (primary_in packet).length (length packet - 6) t in
    absurd (other (omega (arith, w.said), omega (arith, w.most), w.sets)))
    (λ t. header_refused packet out 23 (rw (le-ltb (length packet) 6 h, e, ap is_stated is, t) refl))

pub short-samples-refused : ShortSamplesRefused
unfolding packet_imported
short-samples-refused packet out h e short =
    let a = accepted packet h e in
    let w = whole-samples a.words (length packet - 6) (is-whole a.words (primary_in packet).length (length packet - 6) a.whole).sets in
    rw (e, lt-ltb (length out) (sample_count packet) (omega (arith, w))) refl

pub header-alone : HeaderAlone
unfolding packet_imported
header-alone packet out room = by (header_found packet) (import-room packet out room)
  where
    by : (o : Outcome PacketHeader) → ¬ ((samples_imported packet out o).answer ≡ refused 2) → o ≡ header_of (samples_imported packet out o).answer
    by (refused n) other = refl
    by (given h) other = by_cases (ltb (length out) (sample_count packet)) (λ t. absurd (other (rw t refl))) (λ t. rw t refl)

pub rest-stays : RestStays
rest-stays apid first samples out s ok =
    let a = export-accepted apid first samples out s ok in
    let most = most_samples a.words in
    let fit = set-sizes-fit apid a.words a.sets in
    let long : length (packets_bytes apid first most samples) ≡ s.bytes = bytes-all apid first most samples (most-of a.words fit.0 fit.1).some ∙ sym a.bytes in
    let left : (packets_exported apid first samples out).out ≡ overwrite (packets_bytes apid first most samples) out = ap (λ (l : ExportLeft). l.out) (sends-left apid first samples out s a) in
    left ∙ ap (λ (l : List ℕ). overwrite l out) (sym (ap (take s.bytes) left ∙ take_at (packets_bytes apid first most samples) _ s.bytes long))

got-snoc : (gots : List (Outcome Got)) (l : List ℤ) (g : Got) → samples_got gots ≡ given l → samples_got (gots ++ (given g ∷ [])) ≡ given (l ++ g.samples)
got-snoc [] l g e = ap given (append-nil g.samples ∙ ap (λ (k : List ℤ). k ++ g.samples) (given-same [] l e))
got-snoc (refused n ∷ gots) l g e = absurd (refused-given n l e)
got-snoc (given f ∷ gots) l g e = by (samples_got gots) refl (λ rest q. got-snoc gots rest g q) e
  where
    by : (o : Outcome (List ℤ)) → samples_got gots ≡ o →
        ((rest : List ℤ) → samples_got gots ≡ given rest → samples_got (gots ++ (given g ∷ [])) ≡ given (rest ++ g.samples)) → before f.samples o ≡ given l →
        before f.samples (samples_got (gots ++ (given g ∷ []))) ≡ given (l ++ g.samples)
    by (refused n) q more t = absurd (refused-given n l t)
    by (given rest) q more t =
        ap (before f.samples) (more rest q)
        ∙ ap given (sym (append_assoc f.samples rest g.samples) ∙ ap (λ (k : List ℤ). k ++ g.samples) (given-same _ l t))

got-all : (k : ℕ) (f : ℕ → Got) → samples_got (tabulate k (λ p. given (f p))) ≡ given (concat_to k (λ p. (f p).samples))
unfolding tabulate concat_to
got-all zero f = refl
got-all (suc k) f = got-snoc (tabulate k (λ p. given (f p))) (concat_to k (λ p. (f p).samples)) (f k) (got-all k f)

most-2044 : (apid words : ℕ) → set_size apid ≡ given words → most_samples words ≤ 2044
unfolding most_samples
most-2044 apid words e = ⊎_elim (λ q. rw q (omega arith)) (λ q. rw q (omega arith)) (sizes apid words e)

pub all-imported : AllImported
all-imported apid first samples out s back are ok room =
    let a = export-accepted apid first samples out s ok in
    let fit = set-sizes-fit apid a.words a.sets in
    let most = most_samples a.words in
    ap samples_got (export-imported apid first a.words samples out s back a.sets are ok (omega (arith, most-2044 apid a.words a.sets)))
    ∙ got-all (packet_count (length samples) most) (λ p. record { apid = apid; count = (first + p) % 16384; samples = samples_of most samples p })
    ∙ ap given (all-samples a.words samples fit.0 fit.1)

pub taken-exactly : TakenExactly
unfolding header_taken
taken-exactly words p size h = (forth, back)
  where
    forth : header_taken words p size ≡ given h → Taken words p size h
    forth e =
        by_cases (is_stated p)
        (λ s. by_cases (is_whole words p.length size)
        (λ w. let whole = is-whole words p.length size w in
        let same : record { apid = p.apid; count = p.count } ≡ h = given-same _ h (rw (s, w) at e) in
        record {
          stated-is = is-stated p s ∙ ap₂ (λ (g : PacketHeader) (n : ℕ). stated g.apid g.count n) same whole.said;
          some = whole.some;
          fits = omega (arith, whole.most);
          whole = whole.sets;
        })
        (λ w. absurd (refused-given 23 h (rw (s, w) at e))))
        (λ s. absurd (refused-given 22 h (rw s at e)))

    back : Taken words p size h → header_taken words p size ≡ given h
    back t =
        let is : is_stated p ≡ true = ap is_stated t.stated-is in
        let whole : is_whole words p.length size ≡ true =
        whole_is words p.length size
        (record { said = omega (arith, ap (λ (q : Primary). q.length) t.stated-is, t.some); most = omega (arith, t.fits); sets = t.whole; some = t.some }) in
        rw (is, whole) (ap (λ (q : Primary). given (record { apid = q.apid; count = q.count })) t.stated-is)
