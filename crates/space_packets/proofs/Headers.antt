-- Laws of a primary header: its six bytes, its fields, and the packets whose header is found. Assumes nothing.
use Prim.Native.Nat.{ℕ, suc, ◌+◌, ◌-◌, ◌*◌, ◌/◌, ◌%◌, ◌≤◌, ◌<◌}
use mathlib.Core.Path.{◌≡◌, refl, sym, ap, ap₂, ◌∙◌}
use mathlib.Core.Bool.{true, false, ◌&&◌}
use mathlib.Core.List.{List, [], ◌∷◌, ◌++◌}
use native.Mathlib.Nat.{mul_assoc, div-add-mod}
use native.Mathlib.Omega.{arith}
use borrow.Author.Tests.{ltb-true, ltb-false, leb-true, eqb-true, lt-ltb, le-ltb, le-leb, lt-leb, eq-eqb, ne_eqb}
use lib.Dec.{leb, ltb, eqb}
use lib.IntN.{ℤ}
use lib.ListN.{length, drop, length-drop}
use Rattle.std.specs.Int.{w16, to_be_bytes}
use Rattle.lists.proofs.Choices.{by_cases, both}
use Rattle.refusal.specs.Outcome.{Outcome, given, refused, Filled}
use Rattle.refusal.proofs.Outcomes.{refused-given, given-same}
use Rattle.words.specs.Words.{set_size, pair_at}
use Rattle.words.proofs.Laws.{size-range}
use Rattle.fields.specs.Fields.{number_at, number_bytes}
use Rattle.fields.specs.BitFields.{joined, separated, FitWidths}
use Rattle.fields.specs.Samples.{get_outcome}
use Rattle.fields.proofs.Numbers.{length-number, number-returns, bytes-return, number_lt}
use Rattle.fields.proofs.BitFields.{joined-lt, separated-return, joined-return, separated-fit}
use Rattle.fields.proofs.Samples.{samples-drop}
use Rattle.space_packets.specs.declared.Primary.{Primary}
use Rattle.space_packets.specs.declared.PacketHeader.{PacketHeader}
use Rattle.space_packets.specs.Packet.{widths, field_numbers, primary_of, primary_bytes, primary_in, stated, is_stated, is_whole}
use Rattle.space_packets.specs.declared.Import.{Import}
use Rattle.space_packets.specs.Calls.{header_taken, header_of_sets, header_found, ImportLeft, sample_count, packet_imported}
use Rattle.space_packets.specs.Claims.{PrimaryReturns, PrimaryBytesReturn, SetSizesFit}

-- ---- the six bytes

pub primary-length : (p : Primary) → length (primary_bytes p) ≡ 6
unfolding primary_bytes
primary-length p = length-number 6 (joined widths (field_numbers p))

-- 16 bits more are two bytes more
two-more : (n x c : ℕ) → c < 65536 → number_bytes (suc (suc n)) (x * 65536 + c) ≡ number_bytes n x ++ (c / 256 % 256 ∷ []) ++ (c % 256 ∷ [])
two-more n x c h =
    let rest : (x * 65536 + c) / 256 / 256 ≡ x = omega arith in
    let high : (x * 65536 + c) / 256 % 256 ≡ c / 256 % 256 = omega arith in
    let low : (x * 65536 + c) % 256 ≡ c % 256 = omega arith in
    rw (rest, high, low)

-- the bytes of three times 16 bits
six-bytes : (a b c : ℕ) → b < 65536 → c < 65536 →
    number_bytes 6 ((a * 65536 + b) * 65536 + c) ≡ to_be_bytes w16 a ++ (to_be_bytes w16 b ++ to_be_bytes w16 c)
six-bytes a b c k l =
    two-more 4 (a * 65536 + b) c l ∙ ap (λ (f : List ℕ). f ++ (c / 256 % 256 ∷ []) ++ (c % 256 ∷ [])) (two-more 2 a b k)

-- the first and the next 16 bits, as the code computes them
abbrev pub identification : Primary → ℕ
identification p = p.version * 8192 + p.kind * 4096 + p.secondary * 2048 + p.apid

abbrev pub sequence : Primary → ℕ
sequence p = p.flags * 16384 + p.count

pub primary-bytes : (p : Primary) → FitWidths widths (field_numbers p) →
    primary_bytes p ≡ to_be_bytes w16 (identification p) ++ (to_be_bytes w16 (sequence p) ++ to_be_bytes w16 p.length)
unfolding primary_bytes
primary-bytes p f =
    let same : joined widths (field_numbers p) ≡ (identification p * 65536 + sequence p) * 65536 + p.length = omega arith in
    ap (number_bytes 6) same ∙ six-bytes (identification p) (sequence p) p.length (omega (arith, f)) (omega (arith, f))

-- ---- the fields

-- a list with one number more
more : {x y : ℕ} {l m : List ℕ} → x ≡ y → l ≡ m → x ∷ l ≡ y ∷ m
more e f = ap₂ (λ (x : ℕ) (l : List ℕ). x ∷ l) e f

-- as the code computes them, by 16 bits
pub primary-of : (packet : List ℕ) (a b c : ℕ) → a ≡ pair_at packet 0 → b ≡ pair_at packet 2 → c ≡ pair_at packet 4 → a < 65536 → b < 65536 → c < 65536 →
    record { version = a / 8192; kind = a / 4096 % 2; secondary = a / 2048 % 2; apid = a % 2048; flags = b / 16384; count = b % 16384; length = c } ≡ primary_in packet
unfolding primary_in
primary-of packet a b c i j k f g h =
    let n = a * 4294967296 + (b * 65536 + c) in
    let same : n ≡ number_at 6 packet 0 = omega (arith, i, j, k) in
    let version : n / 35184372088832 ≡ a / 8192 = omega arith in
    let kind : n / 17592186044416 ≡ a / 4096 = omega arith in
    let secondary : n / 8796093022208 ≡ a / 2048 = omega arith in
    let apid : n / 4294967296 ≡ a = omega arith in
    let flags : n / 1073741824 ≡ a * 4 + b / 16384 = omega arith in
    let count : n / 65536 ≡ a * 65536 + b = omega arith in
    let three : a / 8192 % 8 ≡ a / 8192 = omega arith in
    let two : (a * 4 + b / 16384) % 4 ≡ b / 16384 = omega arith in
    let fourteen : (a * 65536 + b) % 16384 ≡ b % 16384 = omega arith in
    let sixteen : n / 1 % 65536 ≡ c = omega arith in
    ap primary_of
    (more (sym (ap (λ (m : ℕ). m % 8) version ∙ three))
    (more (sym (ap (λ (m : ℕ). m % 2) kind))
    (more (sym (ap (λ (m : ℕ). m % 2) secondary))
    (more (sym (ap (λ (m : ℕ). m % 2048) apid))
    (more (sym (ap (λ (m : ℕ). m % 4) flags ∙ two))
    (more (sym (ap (λ (m : ℕ). m % 16384) count ∙ fourteen))
    (more {l = []} (sym sixteen) refl)))))))
    ∙ ap (λ (m : ℕ). primary_of (separated widths m)) same

pub primary-fits : (packet : List ℕ) → FitWidths widths (field_numbers (primary_in packet))
unfolding primary_in
primary-fits packet = separated-fit widths (number_at 6 packet 0)

pub primary-returns : PrimaryReturns
unfolding primary_in primary_bytes
primary-returns p rest f =
    ap (λ (n : ℕ). primary_of (separated widths n)) (number-returns 6 (joined widths (field_numbers p)) [] rest (joined-lt widths (field_numbers p) f))
    ∙ ap primary_of (separated-return widths (field_numbers p) f)

pub primary-bytes-return : PrimaryBytesReturn
unfolding primary_in primary_bytes
primary-bytes-return packet are long =
    ap (number_bytes 6) (joined-return widths (number_at 6 packet 0) (number_lt 6 packet 0 are)) ∙ bytes-return 6 packet 0 are long

-- ---- the words of a set

pub set-sizes-fit : SetSizesFit
set-sizes-fit apid words e =
    let r = size-range apid words e in
    (omega (arith, r), omega (arith, r))

-- no APID over 255 is a waveform's
pub set-over : (apid : ℕ) → 255 < apid → set_size apid ≡ refused 4
unfolding set_size
set-over apid h =
    rw (other 0x43 (omega arith), other 0x44 (omega arith), other 0x45 (omega arith), other 0x46 (omega arith), other 0x47 (omega arith), other 0x48 (omega arith))
  where
    other : (n : ℕ) → n < 256 → eqb apid n ≡ false
    other n k = ne_eqb apid n (λ e. omega arith)

-- ---- packets that are accepted

-- a header as stated is that of its APID, count and length
pub is-stated : (p : Primary) → is_stated p ≡ true → p ≡ stated p.apid p.count (p.length + 1)
is-stated p e =
    let three = both (eqb p.version 0 && eqb p.kind 0 && eqb p.secondary 0) (eqb p.flags 3) e in
    let two = both (eqb p.version 0 && eqb p.kind 0) (eqb p.secondary 0) three.0 in
    let one = both (eqb p.version 0) (eqb p.kind 0) two.0 in
    let length : p.length ≡ p.length + 1 - 1 = omega arith in
    ap primary_of
    (more (eqb-true p.version 0 one.0)
    (more (eqb-true p.kind 0 one.1)
    (more (eqb-true p.secondary 0 two.1)
    (more refl (more (eqb-true p.flags 3 three.1) (more refl (more {l = []} length refl)))))))

-- what the bytes of data are: as many as the field says, at most 4,090, whole sets and not empty
pub record Whole (words field size : ℕ) : Type 0 where
  pub said : field + 1 ≡ size
  pub most : size ≤ 4090
  pub sets : size % (2 * words) ≡ 0
  pub some : 0 < size

pub is-whole : (words field size : ℕ) → is_whole words field size ≡ true → Whole words field size
is-whole words field size e =
    let three = both (eqb (field + 1) size && leb size 4090 && eqb (size % (2 * words)) 0) (ltb 0 size) e in
    let two = both (eqb (field + 1) size && leb size 4090) (eqb (size % (2 * words)) 0) three.0 in
    let one = both (eqb (field + 1) size) (leb size 4090) two.0 in
    record {
      said = eqb-true (field + 1) size one.0;
      most = leb-true size 4090 one.1;
      sets = eqb-true (size % (2 * words)) 0 two.1;
      some = ltb-true 0 size three.1;
    }

pub whole_is : (words field size : ℕ) → Whole words field size → is_whole words field size ≡ true
whole_is words field size w =
    rw (eq-eqb (field + 1) size w.said, le-leb size 4090 w.most, eq-eqb (size % (2 * words)) 0 w.sets, lt-ltb 0 size w.some)

-- whole sets have two bytes for each sample
pub whole-samples : (words size : ℕ) → size % (2 * words) ≡ 0 → size ≡ 2 * (words * (size / (2 * words)))
whole-samples words size e =
    let q = size / (2 * words) in
    let parts : 2 * words * q + size % (2 * words) ≡ size = div-add-mod size (2 * words) in
    let twice : 2 * words * q ≡ 2 * (words * q) = mul_assoc 2 words q in
    omega (arith, parts, twice, e)

-- what a packet whose header is found has
pub record Accepted (packet : List ℕ) (h : PacketHeader) : Type 0 where
  pub words : ℕ
  pub set : set_size (primary_in packet).apid ≡ given words
  pub long : 6 ≤ length packet
  pub stated : is_stated (primary_in packet) ≡ true
  pub whole : is_whole words (primary_in packet).length (length packet - 6) ≡ true
  pub header : record { apid = (primary_in packet).apid; count = (primary_in packet).count } ≡ h

pub accepted : (packet : List ℕ) (h : PacketHeader) → header_found packet ≡ given h → Accepted packet h
unfolding header_found header_taken
accepted packet h found =
    by_cases (ltb (length packet) 6) (λ t. absurd (refused-given 23 h (rw t at found)))
    (λ t. by (set_size (primary_in packet).apid) refl (ltb-false (length packet) 6 t) (rw t at found))
  where
    by : (o : Outcome ℕ) → set_size (primary_in packet).apid ≡ o → 6 ≤ length packet → header_of_sets o (primary_in packet) (length packet - 6) ≡ given h → Accepted packet h
    by (refused n) set long e = absurd (refused-given n h e)
    by (given words) set long e =
        by_cases (is_stated (primary_in packet))
        (λ s. by_cases (is_whole words (primary_in packet).length (length packet - 6))
        (λ w. record { words = words; set = set; long = long; stated = s; whole = w; header = given-same _ h (rw (s, w) at e) })
        (λ w. absurd (refused-given 23 h (rw (s, w) at e))))
        (λ s. absurd (refused-given 22 h (rw s at e)))

pub accepts : (packet : List ℕ) (h : PacketHeader) → Accepted packet h → header_found packet ≡ given h
unfolding header_found header_taken
accepts packet h a = rw (le-ltb (length packet) 6 a.long, a.set, a.stated, a.whole) (ap given a.header)

-- ---- importing

-- what getting the samples left, with the header
abbrev with_header : PacketHeader → Outcome ℕ → Outcome Import
with_header h (given n) = given (record { header = h; samples = n })
with_header h (refused n) = refused n

abbrev pub import_by : PacketHeader → Filled ℤ → ImportLeft
import_by h f = record { answer = with_header h f.answer; samples = f.buffer }

pub import-by : (packet : List ℕ) (out : List ℤ) (h : PacketHeader) → header_found packet ≡ given h →
    import_by h (get_outcome (drop 6 packet) out) ≡ packet_imported packet out
unfolding packet_imported get_outcome
import-by packet out h found =
    let a = accepted packet h found in
    let n = sample_count packet in
    let behind : length (drop 6 packet) ≡ length packet - 6 = length-drop 6 packet in
    let twice = whole-samples a.words (length packet - 6) (is-whole a.words (primary_in packet).length (length packet - 6) a.whole).sets in
    let half : length (drop 6 packet) / 2 ≡ n = omega (arith, behind) in
    let even : eqb (length (drop 6 packet) % 2) 0 ≡ true = eq-eqb (length (drop 6 packet) % 2) 0 (omega (arith, behind, twice)) in
    by_cases (ltb (length out) n)
    (λ t. let short : leb n (length out) ≡ false = lt-leb n (length out) (ltb-true (length out) n t) in rw (found, even, half, short, t))
    (λ t. let room : leb n (length out) ≡ true = le-leb n (length out) (ltb-false (length out) n t) in
    rw (found, even, half, room, t, samples-drop n packet 6))
