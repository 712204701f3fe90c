-- 02, ticket 7: what is claimed of space packets. Assumes nothing.
use Rattle.std.specs.Prelude.{ℕ, zero, suc, ◌+◌, ◌-◌, ◌*◌, ◌/◌, ◌%◌, ◌≤◌, ◌<◌, ◌≡◌, cond, ◌↔◌, List, [], ◌∷◌, ◌++◌, map, eqb, ℤ, pos, negsuc, length, take, drop, replicate}
use Rattle.lists.specs.Tables.{tabulate, concat_to, overwrite}
use Rattle.refusal.specs.Outcome.{Outcome, given, refused, refusal_of}
use Rattle.words.specs.Sample.{Are16}
use Rattle.words.specs.Words.{AreBytes, set_size}
use Rattle.fields.specs.BitFields.{width_of, FitWidths}
use Rattle.space_packets.specs.declared.Primary.{Primary}
use Rattle.space_packets.specs.declared.PacketHeader.{PacketHeader}
use Rattle.space_packets.specs.Packet.{widths, field_numbers, primary_bytes, primary_in, stated, packet_bytes, most_samples, packet_count, samples_of, count_of, packets_length}
use Rattle.space_packets.specs.declared.Import.{Import}
use Rattle.space_packets.specs.declared.Export.{Export}
use Rattle.space_packets.specs.Calls.{header_taken, header_found, ImportLeft, packet_imported, packets_exported}

-- ---- the primary header: one definition for both directions

-- 48 bits
abbrev pub SixBytes : Type 0
SixBytes = width_of widths ≡ 8 * 6

abbrev pub PrimaryReturns : Type 0
PrimaryReturns = (p : Primary) (rest : List ℕ) → FitWidths widths (field_numbers p) → primary_in (primary_bytes p ++ rest) ≡ p

abbrev pub PrimaryBytesReturn : Type 0
PrimaryBytesReturn = (packet : List ℕ) → AreBytes packet → 6 ≤ length packet → primary_bytes (primary_in packet) ≡ take 6 packet

-- two headers, every bit of the second the other one
abbrev pub WorkedHeaders : Type 0
WorkedHeaders =
    map primary_bytes
    (record { version = 5; kind = 1; secondary = 0; apid = 0x2A5; flags = 2; count = 0x1234; length = 0xABCD }
    ∷ record { version = 2; kind = 0; secondary = 1; apid = 0x55A; flags = 1; count = 0x2DCB; length = 0x5432 }
    ∷ [])
    ≡ (0xB2 ∷ 0xA5 ∷ 0x92 ∷ 0x34 ∷ 0xAB ∷ 0xCD ∷ []) ∷ (0x4D ∷ 0x5A ∷ 0x6D ∷ 0xCB ∷ 0x54 ∷ 0x32 ∷ []) ∷ []

-- ---- one packet

-- an APID, a count and samples that make a packet
pub record Makes (apid count : ℕ) (samples : List ℤ) : Type 0 where
  pub words : ℕ
  pub sets : set_size apid ≡ given words
  pub counted : count ≤ 16383
  pub some : 0 < length samples
  pub whole : length samples % words ≡ 0
  pub fits : 6 + 2 * length samples ≤ 4096
  pub are16 : Are16 samples

-- what importing a packet of this header and these samples leaves
abbrev pub imported_as : PacketHeader → List ℤ → List ℤ → ImportLeft
imported_as h samples out = record { answer = given (record { header = h; samples = length samples }); samples = overwrite samples out }

-- where the output has room, bytes are imported as a header and samples exactly if these make a packet and the bytes are its bytes
abbrev pub ImportExactly : Type 0
ImportExactly =
    (packet : List ℕ) (h : PacketHeader) (samples out : List ℤ) → AreBytes packet → length samples ≤ length out →
    (packet_imported packet out ≡ imported_as h samples out)
    ↔ (Makes h.apid h.count samples × (packet ≡ packet_bytes h.apid h.count samples))

-- a header is taken exactly if it is the stated one of so many bytes of data, which are whole sets: once over the words of a set
pub record Taken (words : ℕ) (p : Primary) (size : ℕ) (h : PacketHeader) : Type 0 where
  pub stated-is : p ≡ stated h.apid h.count size
  pub some : 0 < size
  pub fits : 6 + size ≤ 4096
  pub whole : size % (2 * words) ≡ 0

abbrev pub TakenExactly : Type 0
TakenExactly = (words : ℕ) (p : Primary) (size : ℕ) (h : PacketHeader) → (header_taken words p size ≡ given h) ↔ Taken words p size h

-- count 16383, and the samples 1, -1 and -32768
abbrev pub WorkedPacket : Type 0
WorkedPacket =
    packet_bytes 0x43 16383 (pos 1 ∷ negsuc 0 ∷ negsuc 32767 ∷ [])
    ≡ 0x00 ∷ 0x43 ∷ 0xFF ∷ 0xFF ∷ 0x00 ∷ 0x05 ∷ 0x00 ∷ 0x01 ∷ 0xFF ∷ 0xFF ∷ 0x80 ∷ 0x00 ∷ []

-- ---- the packets of an export, once over the words of a set

-- a packet of so many bytes has no room for another set
pub record IsFull (words bytes : ℕ) : Type 0 where
  pub fits : bytes ≤ 4096
  pub no_more : 4096 < bytes + 2 * words

-- every packet but the last is as full as whole sets allow
abbrev pub FullButLast : Type 0
FullButLast =
    (words apid first : ℕ) (samples : List ℤ) (p : ℕ) → 0 < words → 2 * words ≤ 4090 →
    p + 1 < packet_count (length samples) (most_samples words) →
    IsFull words (length (packet_bytes apid (count_of first p) (samples_of (most_samples words) samples p)))

-- every packet, the last one too, has whole sets, at least one
pub record WholeSets (words : ℕ) (samples : List ℤ) : Type 0 where
  pub some : 0 < length samples
  pub whole : length samples % words ≡ 0
  pub fits : 6 + 2 * length samples ≤ 4096

abbrev pub EachWhole : Type 0
EachWhole =
    (words : ℕ) (samples : List ℤ) (p : ℕ) → 0 < words → 2 * words ≤ 4090 → length samples % words ≡ 0 →
    p < packet_count (length samples) (most_samples words) → WholeSets words (samples_of (most_samples words) samples p)

-- the packets have all samples, in order
abbrev pub AllSamples : Type 0
AllSamples =
    (words : ℕ) (samples : List ℤ) → 0 < words → 2 * words ≤ 4090 →
    concat_to (packet_count (length samples) (most_samples words)) (samples_of (most_samples words) samples) ≡ samples

-- the count of the first packet is the one given, and each other one is one more, or 0 after 16383
abbrev pub CountsRise : Type 0
CountsRise =
    (first p : ℕ) → first ≤ 16383 → (count_of first 0 ≡ first) × (count_of first (p + 1) ≡ cond (eqb (count_of first p) 16383) 0 (count_of first p + 1))

-- the sizes of the six waveforms' sets are such sizes
abbrev pub SetSizesFit : Type 0
SetSizesFit = (apid words : ℕ) → set_size apid ≡ given words → (0 < words) × (2 * words ≤ 4090)

abbrev pub WorkedMost : Type 0
WorkedMost = map most_samples (3 ∷ 7 ∷ []) ≡ 2043 ∷ 2044 ∷ []

-- ---- exports that are accepted

-- what an accepted export is given and answers
pub record Sends (apid first : ℕ) (samples : List ℤ) (out : List ℕ) (s : Export) : Type 0 where
  pub words : ℕ
  pub sets : set_size apid ≡ given words
  pub counted : first ≤ 16383
  pub some : 0 < length samples
  pub whole : length samples % words ≡ 0
  pub room : packets_length (length samples) (most_samples words) ≤ length out
  pub bytes : s.bytes ≡ packets_length (length samples) (most_samples words)
  pub next : s.next ≡ count_of first (packet_count (length samples) (most_samples words))

abbrev pub ExportExactly : Type 0
ExportExactly =
    (apid first : ℕ) (samples : List ℤ) (out : List ℕ) (s : Export) →
    ((packets_exported apid first samples out).answer ≡ given s) ↔ Sends apid first samples out s

-- an accepted export leaves all behind its bytes as it was
abbrev pub RestStays : Type 0
RestStays =
    (apid first : ℕ) (samples : List ℤ) (out : List ℕ) (s : Export) → (packets_exported apid first samples out).answer ≡ given s →
    (packets_exported apid first samples out).out ≡ overwrite (take s.bytes (packets_exported apid first samples out).out) out

-- ---- import after export

-- the packets of bytes, each of which ends where its own length field says; at most n of them
unfoldable pub packets_in : ℕ → List ℕ → List (List ℕ)
packets_in zero bytes = []
packets_in (suc n) [] = []
packets_in (suc n) (b ∷ bytes) =
    take (7 + (primary_in (b ∷ bytes)).length) (b ∷ bytes) ∷ packets_in n (drop (7 + (primary_in (b ∷ bytes)).length) (b ∷ bytes))

-- the APID, the count and the samples that importing a packet gives
pub record Got : Type 0 where
  pub apid : ℕ
  pub count : ℕ
  pub samples : List ℤ

abbrev pub got_by : Outcome Import → List ℤ → Outcome Got
got_by (given f) samples = given (record { apid = f.header.apid; count = f.header.count; samples = take f.samples samples })
got_by (refused n) samples = refused n

abbrev pub got_from : List ℤ → List ℕ → Outcome Got
got_from out packet = got_by (packet_imported packet out).answer (packet_imported packet out).samples

-- importing the packets of an export one after the other gives the APID, the counts first, first + 1, .. modulo 16384, and the samples of each
abbrev pub ExportImported : Type 0
ExportImported =
    (apid first words : ℕ) (samples : List ℤ) (out : List ℕ) (s : Export) (back : List ℤ) →
    set_size apid ≡ given words → Are16 samples → (packets_exported apid first samples out).answer ≡ given s → most_samples words ≤ length back →
    map (got_from back) (packets_in s.bytes (take s.bytes (packets_exported apid first samples out).out))
    ≡ tabulate (packet_count (length samples) (most_samples words))
    (λ p. given (record { apid = apid; count = (first + p) % 16384; samples = samples_of (most_samples words) samples p }))

-- all samples of what importing packets gives, one after the other; refused where one of them is
abbrev pub before : List ℤ → Outcome (List ℤ) → Outcome (List ℤ)
before samples (given rest) = given (samples ++ rest)
before samples (refused n) = refused n

abbrev pub samples_got : List (Outcome Got) → Outcome (List ℤ)
samples_got [] = given []
samples_got (refused n ∷ gots) = refused n
samples_got (given g ∷ gots) = before g.samples (samples_got gots)

-- importing the packets of an export one after the other gives the same samples, all of them in order
abbrev pub AllImported : Type 0
AllImported =
    (apid first : ℕ) (samples : List ℤ) (out : List ℕ) (s : Export) (back : List ℤ) →
    Are16 samples → (packets_exported apid first samples out).answer ≡ given s → 2044 ≤ length back →
    samples_got (map (got_from back) (packets_in s.bytes (take s.bytes (packets_exported apid first samples out).out))) ≡ given samples

-- what an import accepts, an export of its samples with its count writes again byte for byte
abbrev pub ImportExported : Type 0
ImportExported =
    (packet : List ℕ) (out : List ℤ) (found : Import) (back : List ℕ) →
    AreBytes packet → (packet_imported packet out).answer ≡ given found → length packet ≤ length back →
    packets_exported found.header.apid found.header.count (take found.samples (packet_imported packet out).samples) back
    ≡ record { answer = given (record { bytes = length packet; next = count_of found.header.count 1 }); out = overwrite packet back }

-- ---- refused calls

-- a refused import and a refused export leave the output as it was
abbrev pub RefusedImportUnchanged : Type 0
RefusedImportUnchanged =
    (packet : List ℕ) (out : List ℤ) (n : ℕ) → (packet_imported packet out).answer ≡ refused n → (packet_imported packet out).samples ≡ out

abbrev pub RefusedExportUnchanged : Type 0
RefusedExportUnchanged =
    (apid first : ℕ) (samples : List ℤ) (out : List ℕ) (n : ℕ) → (packets_exported apid first samples out).answer ≡ refused n →
    (packets_exported apid first samples out).out ≡ out

-- an output of 2,044 samples is enough for every packet; two bytes for each sample, six for each 2,043 samples and six more are for an export
abbrev pub ImportRoom : Type 0
ImportRoom = (packet : List ℕ) (out : List ℤ) → 2044 ≤ length out → ¬ ((packet_imported packet out).answer ≡ refused 2)

abbrev pub ExportRoom : Type 0
ExportRoom =
    (apid first : ℕ) (samples : List ℤ) (out : List ℕ) → 2 * length samples + 6 * (length samples / 2043 + 1) ≤ length out →
    ¬ ((packets_exported apid first samples out).answer ≡ refused 2)

-- ---- the refusals in order, each where those before it are not given

-- an export is refused by 4 for the APID, 22 for the first count, 23 for the samples, 2 for the output
abbrev pub ExportApidRefused : Type 0
ExportApidRefused =
    (apid first n : ℕ) (samples : List ℤ) (out : List ℕ) → set_size apid ≡ refused n → (packets_exported apid first samples out).answer ≡ refused 4

abbrev pub FirstCountRefused : Type 0
FirstCountRefused =
    (apid first words : ℕ) (samples : List ℤ) (out : List ℕ) → set_size apid ≡ given words → 16383 < first →
    (packets_exported apid first samples out).answer ≡ refused 22

abbrev pub SamplesRefused : Type 0
SamplesRefused =
    (apid first words : ℕ) (samples : List ℤ) (out : List ℕ) → set_size apid ≡ given words → first ≤ 16383 →
    ¬ ((0 < length samples) × (length samples % words ≡ 0)) → (packets_exported apid first samples out).answer ≡ refused 23

abbrev pub ShortBytesRefused : Type 0
ShortBytesRefused =
    (apid first words : ℕ) (samples : List ℤ) (out : List ℕ) → set_size apid ≡ given words → first ≤ 16383 →
    0 < length samples → length samples % words ≡ 0 → length out < packets_length (length samples) (most_samples words) →
    (packets_exported apid first samples out).answer ≡ refused 2

-- an import is refused by 23 under 6 bytes, 4 for the APID, 22 for another field, 23 for the data, 2 for the output
abbrev pub ShortPacketRefused : Type 0
ShortPacketRefused = (packet : List ℕ) (out : List ℤ) → length packet < 6 → (packet_imported packet out).answer ≡ refused 23

abbrev pub ImportApidRefused : Type 0
ImportApidRefused =
    (packet : List ℕ) (out : List ℤ) (n : ℕ) → 6 ≤ length packet → set_size (primary_in packet).apid ≡ refused n →
    (packet_imported packet out).answer ≡ refused 4

-- a header that is the stated one of its APID, count and length
abbrev pub IsStated : Primary → Type 0
IsStated p = p ≡ stated p.apid p.count (p.length + 1)

abbrev pub FieldRefused : Type 0
FieldRefused =
    (packet : List ℕ) (out : List ℤ) (words : ℕ) → 6 ≤ length packet → set_size (primary_in packet).apid ≡ given words →
    ¬ (IsStated (primary_in packet)) → (packet_imported packet out).answer ≡ refused 22

abbrev pub DataRefused : Type 0
DataRefused =
    (packet : List ℕ) (out : List ℤ) (words : ℕ) → 6 ≤ length packet → set_size (primary_in packet).apid ≡ given words →
    IsStated (primary_in packet) →
    ¬ ((length packet ≡ 7 + (primary_in packet).length) × (length packet ≤ 4096) × ((length packet - 6) % (2 * words) ≡ 0)) →
    (packet_imported packet out).answer ≡ refused 23

abbrev pub ShortSamplesRefused : Type 0
ShortSamplesRefused =
    (packet : List ℕ) (out : List ℤ) (h : PacketHeader) → header_found packet ≡ given h → 6 + 2 * length out < length packet →
    (packet_imported packet out).answer ≡ refused 2

-- the header alone is that of an import, or refused as it is
abbrev pub header_of : Outcome Import → Outcome PacketHeader
header_of (given f) = given f.header
header_of (refused n) = refused n

abbrev pub HeaderAlone : Type 0
HeaderAlone = (packet : List ℕ) (out : List ℤ) → 2044 ≤ length out → header_found packet ≡ header_of (packet_imported packet out).answer

-- a packet by its first four bytes, its length field and so many bytes of data
abbrev pub packet_of : ℕ → ℕ → ℕ → ℕ → ℕ → ℕ → ℕ → List ℕ
packet_of b0 b1 b2 b3 b4 b5 size = b0 ∷ b1 ∷ b2 ∷ b3 ∷ b4 ∷ b5 ∷ replicate size 0

-- accepted with one set of 3 and of 7, and with 681 sets; 5 bytes; APIDs 0x4E, 0x42 and 0x143; each of the other fields; a length field that says
-- a byte less and a byte more; 682 sets; half a set; no data by a field of 0 and of 65535; the first of two faults; version 4 and APID 0x443
abbrev pub WorkedImports : Type 0
WorkedImports =
    map (λ packet. refusal_of (header_found packet))
    (packet_of 0x00 0x43 0xC0 0x00 0x00 0x05 6
    ∷ packet_of 0x00 0x44 0xFF 0xFF 0x00 0x0D 14
    ∷ packet_of 0x00 0x43 0xC0 0x00 0x0F 0xF5 4086
    ∷ take 5 (packet_of 0x00 0x43 0xC0 0x00 0x00 0x05 6)
    ∷ packet_of 0x00 0x4E 0xC0 0x00 0x00 0x05 6
    ∷ packet_of 0x00 0x42 0xC0 0x00 0x00 0x05 6
    ∷ packet_of 0x01 0x43 0xC0 0x00 0x00 0x05 6
    ∷ packet_of 0x20 0x43 0xC0 0x00 0x00 0x05 6
    ∷ packet_of 0x10 0x43 0xC0 0x00 0x00 0x05 6
    ∷ packet_of 0x08 0x43 0xC0 0x00 0x00 0x05 6
    ∷ packet_of 0x00 0x43 0x80 0x00 0x00 0x05 6
    ∷ packet_of 0x00 0x43 0x40 0x00 0x00 0x05 6
    ∷ packet_of 0x00 0x43 0x00 0x00 0x00 0x05 6
    ∷ packet_of 0x00 0x43 0xC0 0x00 0x00 0x04 6
    ∷ packet_of 0x00 0x43 0xC0 0x00 0x00 0x06 6
    ∷ packet_of 0x00 0x43 0xC0 0x00 0x0F 0xFB 4092
    ∷ packet_of 0x00 0x43 0xC0 0x00 0x00 0x03 4
    ∷ packet_of 0x00 0x44 0xC0 0x00 0x00 0x05 6
    ∷ packet_of 0x00 0x43 0xC0 0x00 0x00 0x00 0
    ∷ packet_of 0x00 0x43 0xC0 0x00 0xFF 0xFF 0
    ∷ take 5 (packet_of 0x00 0x4E 0xC0 0x00 0x00 0x05 6)
    ∷ packet_of 0x20 0x4E 0xC0 0x00 0x00 0x05 6
    ∷ packet_of 0x20 0x43 0xC0 0x00 0x00 0x04 6
    ∷ packet_of 0x00 0x4E 0xC0 0x00 0x00 0x04 6
    ∷ packet_of 0x20 0x43 0xC0 0x00 0x0F 0xFB 4092
    ∷ packet_of 0x80 0x43 0xC0 0x00 0x00 0x05 6
    ∷ packet_of 0x04 0x43 0xC0 0x00 0x00 0x05 6
    ∷ [])
    ≡ 0 ∷ 0 ∷ 0 ∷ 23 ∷ 4 ∷ 4 ∷ 4 ∷ 22 ∷ 22 ∷ 22 ∷ 22 ∷ 22 ∷ 22 ∷ 23 ∷ 23 ∷ 23 ∷ 23 ∷ 23 ∷ 23 ∷ 23 ∷ 23 ∷ 4 ∷ 22 ∷ 4 ∷ 22 ∷ 22 ∷ 4 ∷ []

-- the answer of an export with so many samples and so many bytes of output
abbrev pub export_answer : ℕ → ℕ → ℕ → ℕ → Outcome Export
export_answer apid first samples out = (packets_exported apid first (replicate samples (pos 0)) (replicate out 0)).answer

abbrev pub sent : ℕ → ℕ → Outcome Export
sent bytes next = given (record { bytes = bytes; next = next })

-- one set; a full packet of each size, and one set more; counts that pass 16383; APIDs 0x4E and 0x42; a first count of 16384; no samples; a sample
-- too many; a byte of output too few; the first of two faults; one set of each other APID, and six samples of 0x47
abbrev pub WorkedExports : Type 0
WorkedExports =
    export_answer 0x43 0 3 12
    ∷ export_answer 0x43 16383 2043 4092
    ∷ export_answer 0x43 16383 2046 4104
    ∷ export_answer 0x44 16382 2044 4094
    ∷ export_answer 0x44 7 2051 4114
    ∷ export_answer 0x4E 0 3 12
    ∷ export_answer 0x42 0 3 12
    ∷ export_answer 0x43 16384 3 12
    ∷ export_answer 0x43 0 0 12
    ∷ export_answer 0x43 0 4 14
    ∷ export_answer 0x44 0 3 12
    ∷ export_answer 0x43 0 3 11
    ∷ export_answer 0x43 0 2046 4103
    ∷ export_answer 0x4E 16384 3 12
    ∷ export_answer 0x43 16384 0 12
    ∷ export_answer 0x43 0 4 0
    ∷ export_answer 0x4E 0 4 12
    ∷ export_answer 0x4E 0 3 11
    ∷ export_answer 0x43 16384 4 14
    ∷ export_answer 0x43 65535 3 11
    ∷ export_answer 0x45 0 3 12
    ∷ export_answer 0x46 0 3 12
    ∷ export_answer 0x47 0 7 20
    ∷ export_answer 0x47 0 6 18
    ∷ export_answer 0x48 0 3 12
    ∷ []
    ≡ sent 12 1 ∷ sent 4092 0 ∷ sent 4104 1 ∷ sent 4094 16383 ∷ sent 4114 9 ∷ refused 4 ∷ refused 4 ∷ refused 22 ∷ refused 23 ∷ refused 23
    ∷ refused 23 ∷ refused 2 ∷ refused 2 ∷ refused 4 ∷ refused 22 ∷ refused 23 ∷ refused 4 ∷ refused 4 ∷ refused 22 ∷ refused 22 ∷ sent 12 1
    ∷ sent 12 1 ∷ sent 20 1 ∷ refused 23 ∷ sent 12 1 ∷ []
