-- The claims on packets. Assumes nothing.
use Prim.Native.Nat.{ℕ, ◌≤◌, ◌<◌}
use mathlib.Core.Path.{◌≡◌, refl, sym, ap, ap₂, subst, ◌∙◌}
use mathlib.Core.Bool.{true, false, not}
use mathlib.Core.List.{List, ◌++◌}
use native.Mathlib.Omega.{arith}
use borrow.Author.Tests.{ltb-true, leb-true, eqb-true, lt-ltb, le-ltb, le-leb, eq-eqb}
use lib.Dec.{leb, ltb, eqb}
use lib.IntN.{ℤ}
use lib.ListN.{length, take, take-append-drop}
use lib.Seq.{take_at}
use Rattle.lists.specs.Tables.{overwrite}
use Rattle.lists.proofs.Choices.{by_cases, cond-at, both}
use Rattle.lists.proofs.Overwriting.{same-front}
use Rattle.refusal.specs.Outcome.{Outcome, given, refused, Filled}
use Rattle.refusal.proofs.Outcomes.{refused-given, given-refused, given-same}
use Rattle.words.specs.Words.{AreBytes}
use Rattle.fields.specs.Samples.{sample_bytes, samples_at}
use Rattle.fields.proofs.Samples.{samples-length, samples-16}
use Rattle.fields.proofs.Theorems.{samples-return, sample-bytes-return}
use Rattle.snapshot.specs.declared.Header.{Header}
use Rattle.snapshot.specs.declared.Found.{Found}
use Rattle.snapshot.specs.Packet.{header_bytes, packet_bytes, sample_count, packet_length, in_range}
use Rattle.snapshot.specs.Calls.{header_found, ReadLeft, samples_read, packet_read, packet_written}
use Rattle.snapshot.specs.Claims.{ComponentsAreOnes, HeaderFits, Makes, read_as, ReadExactly, RoundTrip, ConverseRoundTrip, RefusedReadUnchanged, RefusedWriteUnchanged, ShortOutputRefused}
use Rattle.snapshot.proofs.Packets.{components-ones, header-length, packet-length, header-returns, sid-returns, auxiliary-returns, header-fits, header-bytes-return, Accepted, accepted, accepts}

-- ---- from a header and samples to bytes and back

in-range : (h : Header) → h.total ≤ 3072 → h.number < h.total → in_range h ≡ true
in-range h t n = rw (le-leb h.total 3072 t, lt-ltb h.number h.total n)

-- the bytes that a header and samples make are accepted
made-accepted : (h : Header) (samples : List ℤ) → Makes h samples → Accepted (packet_bytes h samples) h
unfolding packet_bytes
made-accepted h samples m =
    record {
      header = header-returns h (sample_bytes samples) m.fits;
      long = omega (arith, packet-length h samples);
      is-sid = sid-returns h (sample_bytes samples) m.fits;
      is-auxiliary = auxiliary-returns h (sample_bytes samples) m.fits;
      range = in-range h m.total m.number;
      whole = packet-length h samples ∙ omega (arith, m.count);
    }

-- its samples
made-samples : (h : Header) (samples : List ℤ) → Makes h samples → samples_at (sample_count h.mask) (packet_bytes h samples) 20 ≡ samples
unfolding packet_bytes
made-samples h samples m =
    ap₂ (λ (n at : ℕ). samples_at n (header_bytes h ++ sample_bytes samples) at) (sym m.count) (sym (header-length h))
    ∙ samples-return samples (header_bytes h) m.are16

made-read : (h : Header) (samples out : List ℤ) → Makes h samples → length samples ≤ length out → packet_read (packet_bytes h samples) out ≡ read_as h samples out
unfolding packet_read
made-read h samples out m room =
    let fits : ltb (length out) (sample_count h.mask) ≡ false = le-ltb (length out) (sample_count h.mask) (omega (arith, m.count)) in
    rw (accepts (packet_bytes h samples) h (made-accepted h samples m), fits, made-samples h samples m, ← m.count)

-- ---- from bytes to a header and samples and back

-- the samples of an accepted packet make the packet with its header
accepted-makes : (packet : List ℕ) (h : Header) → AreBytes packet → Accepted packet h → Makes h (samples_at (sample_count h.mask) packet 20)
accepted-makes packet h are a =
    let range = both (leb h.total 3072) (ltb h.number h.total) a.range in
    record {
      fits = subst HeaderFits a.header (header-fits packet are a.is-sid a.is-auxiliary);
      total = leb-true _ _ range.0;
      number = ltb-true _ _ range.1;
      count = samples-length (sample_count h.mask) packet 20;
      are16 = samples-16 (sample_count h.mask) packet 20 are;
    }

accepted-bytes : (packet : List ℕ) (h : Header) → AreBytes packet → Accepted packet h → packet ≡ packet_bytes h (samples_at (sample_count h.mask) packet 20)
unfolding packet_bytes
accepted-bytes packet h are a =
    sym (take-append-drop 20 packet)
    ∙ ap₂ (λ (x y : List ℕ). x ++ y) (sym (ap header_bytes (sym a.header) ∙ header-bytes-return packet are a.is-sid a.is-auxiliary a.long))
    (sym (sample-bytes-return (sample_count h.mask) packet 20 are a.whole))

-- ---- an accepted reading

pub record ReadAccepted (packet : List ℕ) (out : List ℤ) (found : Found) : Type 0 where
  pub header : header_found packet ≡ given found.header
  pub count : found.count ≡ sample_count found.header.mask
  pub samples : (packet_read packet out).samples ≡ overwrite (samples_at found.count packet 20) out

pub read-accepted : (packet : List ℕ) (out : List ℤ) (found : Found) → (packet_read packet out).answer ≡ given found → ReadAccepted packet out found
unfolding packet_read
read-accepted packet out found e = by (header_found packet) refl e
  where
    by : (o : Outcome Header) → header_found packet ≡ o → (samples_read packet out o).answer ≡ given found → ReadAccepted packet out found
    by (refused n) s t = absurd (refused-given n found t)
    by (given h) s t =
        by_cases (ltb (length out) (sample_count h.mask)) (λ q. absurd (refused-given 2 found (rw q at t)))
        (λ q. let same : record { header = h; count = sample_count h.mask } ≡ found = given-same _ found (rw q at t) in
        let head : h ≡ found.header = ap (λ (f : Found). f.header) same in
        let many : sample_count h.mask ≡ found.count = ap (λ (f : Found). f.count) same in
        record {
          header = s ∙ ap given head;
          count = sym many ∙ ap (λ (g : Header). sample_count g.mask) head;
          samples = rw (s, q, many);
        })

pub read-exactly : ReadExactly
read-exactly packet h samples out are room = (forth, back)
  where
    forth : packet_read packet out ≡ read_as h samples out → Makes h samples × (packet ≡ packet_bytes h samples)
    forth e =
        let found : Found = record { header = h; count = length samples } in
        let r = read-accepted packet out found (ap (λ (l : ReadLeft). l.answer) e) in
        let a = accepted packet h r.header in
        let same : samples_at (sample_count h.mask) packet 20 ≡ samples =
        same-front _ samples out (samples-length _ packet 20 ∙ sym r.count)
        (ap (λ (n : ℕ). overwrite (samples_at n packet 20) out) (sym r.count) ∙ sym r.samples ∙ ap (λ (l : ReadLeft). l.samples) e) in
        (subst (Makes h) same (accepted-makes packet h are a), accepted-bytes packet h are a ∙ ap (packet_bytes h) same)

    back : Makes h samples × (packet ≡ packet_bytes h samples) → packet_read packet out ≡ read_as h samples out
    back m = ap (λ (l : List ℕ). packet_read l out) m.1 ∙ made-read h samples out m.0 room

-- ---- an accepted writing

pub record WriteAccepted (h : Header) (samples : List ℤ) (out : List ℕ) (n : ℕ) : Type 0 where
  pub total : h.total ≤ 3072
  pub number : h.number < h.total
  pub count : length samples ≡ sample_count h.mask
  pub bytes : n ≡ packet_length h.mask
  pub buffer : (packet_written h samples out).buffer ≡ overwrite (packet_bytes h samples) out

pub write-accepted : (h : Header) (samples : List ℤ) (out : List ℕ) (n : ℕ) → (packet_written h samples out).answer ≡ given n → WriteAccepted h samples out n
unfolding packet_written
write-accepted h samples out n e =
    by_cases (in_range h)
    (λ p. by_cases (eqb (length samples) (sample_count h.mask))
    (λ q. by_cases (ltb (length out) (packet_length h.mask)) (λ r. absurd (refused-given 2 n (rw (p, q, r) at e)))
    (λ r. let range = both (leb h.total 3072) (ltb h.number h.total) p in
    record {
      total = leb-true _ _ range.0;
      number = ltb-true _ _ range.1;
      count = eqb-true _ _ q;
      bytes = sym (given-same _ n (rw (p, q, r) at e));
      buffer = rw (p, q, r);
    }))
    (λ q. absurd (refused-given 16 n (rw (p, q) at e))))
    (λ p. absurd (refused-given 15 n (rw p at e)))

pub round_trip : RoundTrip
round_trip h samples out n back fits are ok room =
    let w = write-accepted h samples out n ok in
    let long : length (packet_bytes h samples) ≡ n = packet-length h samples ∙ omega (arith, w.count, w.bytes) in
    let made : Makes h samples = record { fits = fits; total = w.total; number = w.number; count = w.count; are16 = are } in
    ap (λ (l : List ℕ). packet_read (take n l) back) w.buffer ∙ ap (λ (l : List ℕ). packet_read l back) (take_at (packet_bytes h samples) _ n long)
    ∙ made-read h samples back made room

pub converse-round-trip : ConverseRoundTrip
unfolding packet_written
converse-round-trip packet out found back are ok room =
    let h = found.header in
    let r = read-accepted packet out found ok in
    let a = accepted packet h r.header in
    let zs = samples_at (sample_count h.mask) packet 20 in
    let taken : take found.count (packet_read packet out).samples ≡ zs =
    ap (take found.count) r.samples ∙ take_at (samples_at found.count packet 20) _ found.count (samples-length found.count packet 20)
    ∙ ap (λ (n : ℕ). samples_at n packet 20) r.count in
    let many : eqb (length zs) (sample_count h.mask) ≡ true = eq-eqb _ _ (samples-length _ packet 20) in
    let fits : ltb (length back) (packet_length h.mask) ≡ false = le-ltb (length back) (packet_length h.mask) (omega (arith, a.whole)) in
    rw (taken, a.range, many, fits, ← accepted-bytes packet h are a, ← a.whole)

-- ---- refusals, and the mask

pub refused-read-unchanged : RefusedReadUnchanged
unfolding packet_read
refused-read-unchanged packet out n = by (header_found packet)
  where
    by : (o : Outcome Header) → (samples_read packet out o).answer ≡ refused n → (samples_read packet out o).samples ≡ out
    by (refused m) = λ e. refl
    by (given h) =
        cond-at (λ (l : ReadLeft). l.answer ≡ refused n → l.samples ≡ out) (ltb (length out) (sample_count h.mask)) (λ t e. refl)
        (λ t e. absurd (given-refused _ n e))

pub refused-write-unchanged : RefusedWriteUnchanged
unfolding packet_written
refused-write-unchanged h samples out n =
    cond-at Kept (not (in_range h)) (λ t e. refl)
    (λ t. cond-at Kept (not (eqb (length samples) (sample_count h.mask))) (λ u e. refl)
    (λ u. cond-at Kept (ltb (length out) (packet_length h.mask)) (λ v e. refl) (λ v e. absurd (given-refused _ n e))))
  where
    Kept : Filled ℕ → Type 0
    Kept f = f.answer ≡ refused n → f.buffer ≡ out

pub short-output-refused : ShortOutputRefused
unfolding packet_read
short-output-refused packet out h e short = rw (e, lt-ltb (length out) (sample_count h.mask) short)

pub components-are-ones : ComponentsAreOnes
components-are-ones mask h = sym (components-ones mask h)
