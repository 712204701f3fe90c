-- The bytes of packets: lengths, where a packet ends, and the most samples of a packet. Assumes nothing.
use Prim.Native.Nat.{ℕ, min, zero, suc, ◌+◌, ◌-◌, ◌*◌, ◌/◌, ◌%◌, ◌≤◌, ◌<◌}
use mathlib.Core.Path.{◌≡◌, refl, sym, ap, ap₂, ◌∙◌}
use mathlib.Core.List.{List, [], ◌∷◌, ◌++◌, append_assoc}
use native.Mathlib.Nat.{min-eq_left, min-eq_right, zero-mul, mul_comm, mul_assoc, mul-le-mul_left, le-div_iff_mul-le, div-add-mod', mod-lt, mul-add-mod_self_right}
use native.Mathlib.Numerals.{one-add}
use native.Mathlib.Omega.{arith}
use borrow.Author.Tests.{ltb-true, ltb-false}
use lib.Dec.{ltb}
use lib.IntN.{ℤ}
use lib.ListN.{length, take, drop, length-append, length-take, length-drop}
use lib.Seq.{take_all, take_at, drop_at}
use Rattle.lists.specs.Tables.{tabulate, concat_to, overwrite}
use Rattle.lists.proofs.Choices.{by_cases}
use Rattle.lists.proofs.Overwriting.{overwrite-all, parts_more}
use Rattle.lists.proofs.Runs.{tabulate-add, concat_to-add}
use Rattle.fields.specs.BitFields.{FitWidths}
use Rattle.fields.specs.Samples.{sample_bytes}
use Rattle.fields.proofs.Samples.{bytes-length}
use Rattle.space_packets.specs.declared.Primary.{Primary}
use Rattle.space_packets.specs.Packet.{widths, field_numbers, primary_bytes, primary_in, stated, packet_bytes, most_samples, packet_count, samples_of, count_of, packets_bytes, packets_length}
use Rattle.space_packets.specs.Claims.{packets_in}
use Rattle.space_packets.proofs.Headers.{primary-length, primary-returns}
use Rattle.space_packets.proofs.Parts.{samples-so-far, samples-all, left-for}

-- ---- the most samples of a packet

-- whole sets that fit, and one more that does not
pub record Most (words most : ℕ) : Type 0 where
  pub some : 0 < most
  pub fits : 2 * most ≤ 4090
  pub no_more : 4090 < 2 * most + 2 * words
  pub whole : (p n : ℕ) → (p * most + n) % words ≡ n % words

pub most-of : (words : ℕ) → 0 < words → 2 * words ≤ 4090 → Most words (most_samples words)
unfolding most_samples
most-of words some fits =
    let q = 4090 / (2 * words) in
    let twice : 0 < 2 * words = omega arith in
    let at_least : 1 ≤ q = (le-div_iff_mul-le twice).1 (omega arith) in
    let more : words * 1 ≤ words * q = mul-le-mul_left words at_least in
    let same : 2 * (words * q) ≡ q * (2 * words) = sym (mul_assoc 2 words q) ∙ mul_comm (2 * words) q in
    record {
      some = omega (arith, more);
      fits = omega (arith, same, div-add-mod' 4090 (2 * words));
      no_more = omega (arith, same, div-add-mod' 4090 (2 * words), mod-lt 4090 twice);
      whole = λ p n.
          let sets : p * (words * q) ≡ p * q * words = ap (λ (m : ℕ). p * m) (mul_comm words q) ∙ sym (mul_assoc p q words) in
          ap (λ (m : ℕ). (m + n) % words) sets ∙ mul-add-mod_self_right (p * q) words n;
    }

-- ---- the bytes of a packet

pub packet-length : (apid count : ℕ) (samples : List ℤ) → length (packet_bytes apid count samples) ≡ 6 + 2 * length samples
unfolding packet_bytes
packet-length apid count samples = length-append (primary_bytes (stated apid count (2 * length samples))) _ ∙ ap₂ ◌+◌ (primary-length _) (bytes-length samples)

-- numbers that their fields hold
pub stated-fits : (apid count size : ℕ) → apid < 2048 → count ≤ 16383 → size ≤ 65536 → FitWidths widths (field_numbers (stated apid count size))
stated-fits apid count size a c s = (omega arith, (omega arith, (omega arith, (a, (omega arith, (omega arith, (omega arith, refl)))))))

-- its header is the one stated, whatever stands behind it
pub header-of-packet : (apid count : ℕ) (samples : List ℤ) (rest : List ℕ) → apid < 2048 → count ≤ 16383 → 2 * length samples ≤ 4090 →
    primary_in (packet_bytes apid count samples ++ rest) ≡ stated apid count (2 * length samples)
unfolding packet_bytes
header-of-packet apid count samples rest a c s =
    let p = stated apid count (2 * length samples) in
    ap primary_in (append_assoc (primary_bytes p) (sample_bytes samples) rest) ∙ primary-returns p (sample_bytes samples ++ rest) (stated-fits apid count _ a c (omega arith))

-- ---- packets one after the other

-- the length field says where a packet ends, whatever stands behind it
pub record Ends (packet : List ℕ) : Type 0 where
  pub some : 0 < length packet
  pub end : (later : List ℕ) → 7 + (primary_in (packet ++ later)).length ≡ length packet

packets-first : (n : ℕ) (packet later : List ℕ) → Ends packet → packets_in (suc n) (packet ++ later) ≡ packet ∷ packets_in n later
unfolding packets_in
packets-first n [] later e = absurd (omega (arith, e.some))
packets-first n (b ∷ packet) later e =
    ap₂ (λ (x : List ℕ) (xs : List (List ℕ)). x ∷ xs) (take_at (b ∷ packet) later _ (sym (e.end later)))
    (ap (packets_in n) (drop_at (b ∷ packet) later _ (sym (e.end later))))

packets-none : (n : ℕ) → packets_in n [] ≡ []
unfolding packets_in
packets-none zero = refl
packets-none (suc n) = refl

pub packets-all : (k n : ℕ) (f : ℕ → List ℕ) → k ≤ n → ((p : ℕ) → p < k → Ends (f p)) → packets_in n (concat_to k f) ≡ tabulate k f
unfolding concat_to tabulate
packets-all zero n f h e = packets-none n
packets-all (suc k) zero f h e = absurd (omega arith)
packets-all (suc k) (suc n) f h e =
    let next : ℕ → List ℕ = λ j. f (1 + j) in
    ap (packets_in (suc n)) (ap (λ (m : ℕ). concat_to m f) (sym (one-add k)) ∙ concat_to-add f 1 k)
    ∙ packets-first n (f 0) (concat_to k next) (e 0 (omega arith))
    ∙ ap (λ (l : List (List ℕ)). f 0 ∷ l) (packets-all k n next (omega arith) (λ p l. e (1 + p) (omega arith)))
    ∙ sym (ap (λ (m : ℕ). tabulate m f) (sym (one-add k)) ∙ tabulate-add f 1 k)

pub ends : (apid count : ℕ) (samples : List ℤ) → apid < 2048 → count ≤ 16383 → 0 < length samples → 2 * length samples ≤ 4090 → Ends (packet_bytes apid count samples)
ends apid count samples a c some fits =
    record {
      some = omega (arith, packet-length apid count samples);
      end = λ later.
          let field : (primary_in (packet_bytes apid count samples ++ later)).length ≡ 2 * length samples - 1 = ap (λ (p : Primary). p.length) (header-of-packet apid count samples later a c fits) in
          omega (arith, field, packet-length apid count samples);
    }

-- ---- the packets of an export

module _ (apid first most : ℕ) (samples : List ℤ) where
  abbrev pub packet_at : ℕ → List ℕ
  packet_at p = packet_bytes apid (count_of first p) (samples_of most samples p)

  -- the bytes of the first p packets
  pub bytes-so-far : (p : ℕ) → length (concat_to p packet_at) ≡ 6 * p + 2 * length (concat_to p (samples_of most samples))
  unfolding concat_to
  bytes-so-far zero = refl
  bytes-so-far (suc p) =
      omega (arith, bytes-so-far p, length-append (concat_to p packet_at) (packet_at p), packet-length apid (count_of first p) (samples_of most samples p), length-append (concat_to p (samples_of most samples)) (samples_of most samples p))

  pub bytes-before : (p : ℕ) → p * most ≤ length samples → length (concat_to p packet_at) ≡ 6 * p + 2 * (p * most)
  bytes-before p h =
      bytes-so-far p
      ∙ ap (λ (l : List ℤ). 6 * p + 2 * length l) (samples-so-far most samples p)
      ∙ omega (arith, length-take (p * most) samples)

  pub bytes-all : 0 < most → length (packets_bytes apid first most samples) ≡ packets_length (length samples) most
  unfolding packets_bytes
  bytes-all some = bytes-so-far (packet_count (length samples) most) ∙ ap (λ (l : List ℤ). 6 * packet_count (length samples) most + 2 * length l) (samples-all most samples some)

-- where packet p stands: samples are left for it, and there is room for it in so many bytes
pub record Place (n most p m room : ℕ) : Type 0 where
  pub before : p * most < n
  pub some : 0 < m
  pub upto : m ≤ most
  pub part : p * most + m ≤ n
  pub fits : 6 * p + 2 * (p * most) + (6 + 2 * m) ≤ room
  pub samples : (l : List ℤ) → length l ≡ n → take m (drop (p * most) l) ≡ samples_of most l p

pub place : (n most p m room : ℕ) → 0 < most → p < packet_count n most → packets_length n most ≤ room → m ≡ min most (n - p * most) →
    Place n most p m room
place n most p m room some h fits e =
    by_cases (ltb (n - p * most) most)
    (λ t. let less : n - p * most < most = ltb-true (n - p * most) most t in
    let q : m ≡ n - p * most = e ∙ min-eq_right (omega arith) in
    record {
      before = left;
      some = omega (arith, left);
      upto = omega arith;
      part = omega (arith, left);
      fits = omega (arith, left);
      samples = λ l k. take_all m (drop (p * most) l) (omega (arith, length-drop (p * most) l)) ∙ sym (take_all most (drop (p * most) l) (omega (arith, length-drop (p * most) l)));
    })
    (λ t. let more : most ≤ n - p * most = ltb-false (n - p * most) most t in
    let q : m ≡ most = e ∙ min-eq_left more in
    record {
      before = left;
      some = omega (arith, left);
      upto = omega arith;
      part = omega (arith, left);
      fits = omega (arith, left);
      samples = λ l k. ap (λ (i : ℕ). take i (drop (p * most) l)) q;
    })
  where
    left : p * most < n
    left = left-for n most some p h

-- the samples of packet p as a range gives them, and how many they are
pub range-samples : (most p m room : ℕ) (samples : List ℤ) → Place (length samples) most p m room →
    take (p * most + m - p * most) (drop (p * most) samples) ≡ samples_of most samples p
range-samples most p m room samples at =
    let k : p * most + m - p * most ≡ m = omega arith in
    ap (λ (i : ℕ). take i (drop (p * most) samples)) k ∙ at.samples samples refl

pub range_length : (most p m room : ℕ) (samples : List ℤ) → Place (length samples) most p m room → length (samples_of most samples p) ≡ m
range_length most p m room samples at =
    sym (ap (λ (l : List ℤ). length l) (at.samples samples refl)) ∙ length-take m (drop (p * most) samples) ∙ omega (arith, length-drop (p * most) samples, at.part)

-- one packet more: over the k bytes at its place
pub packets-more : (apid first most p m k : ℕ) (samples part : List ℤ) (out l ys : List ℕ) → Place (length samples) most p m (length out) →
    length l ≡ length out → l ≡ overwrite (concat_to p (packet_at apid first most samples)) out → k ≡ 6 + 2 * m → part ≡ samples_of most samples p →
    ys ≡ overwrite (packet_bytes apid (count_of first p) part) (take k (drop (6 * p + 2 * (p * most)) l)) →
    take (6 * p + 2 * (p * most)) l ++ (ys ++ drop k (drop (6 * p + 2 * (p * most)) l)) ≡ overwrite (concat_to (p + 1) (packet_at apid first most samples)) out
packets-more apid first most p m k samples part out l ys at long e q s w =
    let f = packet_at apid first most samples in
    let start = 6 * p + 2 * (p * most) in
    let many : length (f p) ≡ k = packet-length apid (count_of first p) (samples_of most samples p) ∙ omega (arith, range_length most p m (length out) samples at) in
    let whole : length (f p) ≡ length (take k (drop start l)) = omega (arith, many, length-take k (drop start l), length-drop start l, at.fits) in
    let same : ys ≡ f p = w ∙ ap (λ (x : List ℤ). overwrite (packet_bytes apid (count_of first p) x) (take k (drop start l))) s ∙ overwrite-all (f p) _ whole in
    parts_more f out p start k l ys e (bytes-before apid first most samples p (omega (arith, at.before))) same (ap (λ (x : List ℕ). length x) same ∙ many)

-- samples that one packet has room for are that packet
pub one-bytes : (apid first most : ℕ) (samples : List ℤ) → first ≤ 16383 → packet_count (length samples) most ≡ 1 → length samples ≤ most →
    packets_bytes apid first most samples ≡ packet_bytes apid first samples
unfolding packets_bytes concat_to
one-bytes apid first most samples counted one few =
    let same : count_of first 0 ≡ first = omega arith in
    let all : take most (drop (0 * most) samples) ≡ samples = ap (λ (n : ℕ). take most (drop n samples)) (zero-mul most) ∙ take_all most samples few in
    ap (λ (k : ℕ). concat_to k (packet_at apid first most samples)) one ∙ ap₂ (packet_bytes apid) same all
