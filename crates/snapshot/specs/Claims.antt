-- 02, ticket 1: what is claimed of the packets of a snapshot. Assumes nothing.
use Rattle.std.specs.Prelude.{ℕ, ◌*◌, ◌≤◌, ◌<◌, ◌≡◌, ◌↔◌, List, [], ◌∷◌, ◌++◌, map, ℤ, pos, negsuc, length, take, replicate}
use Rattle.std.specs.Int.Count.{ones}
use Rattle.lists.specs.Tables.{overwrite}
use Rattle.refusal.specs.Outcome.{given, refused, refusal_of}
use Rattle.words.specs.Sample.{Are16}
use Rattle.words.specs.Words.{AreBytes}
use Rattle.fields.specs.Fields.{size_of, FollowFrom, FitFields}
use Rattle.snapshot.specs.declared.Header.{Header}
use Rattle.snapshot.specs.declared.Found.{Found}
use Rattle.snapshot.specs.Packet.{fields, field_numbers, packet_bytes, components, sample_count}
use Rattle.snapshot.specs.Calls.{header_found, ReadLeft, packet_read, packet_written}

-- ---- the fields and the mask

-- the fields follow one another from byte 0 to byte 19
pub record Places : Type 0 where
  pub follow : FollowFrom 0 fields
  pub end : size_of fields ≡ 20

-- the components of a mask are its count of ones (`OnesAreBits`, lists)
abbrev pub ComponentsAreOnes : Type 0
ComponentsAreOnes = (mask : ℕ) → mask < 256 → components mask ≡ ones mask

-- the samples of masks of 0, 1, 1, 2, 7 and 8 ones
abbrev pub WorkedCounts : Type 0
WorkedCounts = map sample_count (0x00 ∷ 0x01 ∷ 0x80 ∷ 0x05 ∷ 0xFE ∷ 0xFF ∷ []) ≡ 0 ∷ 128 ∷ 128 ∷ 256 ∷ 896 ∷ 1024 ∷ []

-- ---- one definition of the bytes for reader and writer

-- numbers that their fields hold, as those of every `Header` are
abbrev pub HeaderFits : Header → Type 0
HeaderFits h = FitFields fields (field_numbers h)

-- a header and samples that make a packet
pub record Makes (h : Header) (samples : List ℤ) : Type 0 where
  pub fits : HeaderFits h
  pub total : h.total ≤ 3072
  pub number : h.number < h.total
  pub count : length samples ≡ 128 * components h.mask
  pub are16 : Are16 samples

-- what reading a packet of this header and these samples leaves
abbrev pub read_as : Header → List ℤ → List ℤ → ReadLeft
read_as h samples out = record { answer = given (record { header = h; count = length samples }); samples = overwrite samples out }

-- where the output has room, bytes are read as a header and samples exactly if these make a packet and the bytes are its bytes
abbrev pub ReadExactly : Type 0
ReadExactly =
    (packet : List ℕ) (h : Header) (samples out : List ℤ) → AreBytes packet → length samples ≤ length out →
    (packet_read packet out ≡ read_as h samples out) ↔ (Makes h samples × (packet ≡ packet_bytes h samples))

-- ---- the round trips

-- reading the n bytes that an accepted writing answers, from the output that it left, gives the header and the samples
abbrev pub RoundTrip : Type 0
RoundTrip =
    (h : Header) (samples : List ℤ) (out : List ℕ) (n : ℕ) (back : List ℤ) →
    HeaderFits h → Are16 samples → (packet_written h samples out).answer ≡ given n → length samples ≤ length back →
    packet_read (take n (packet_written h samples out).buffer) back ≡ read_as h samples back

-- writing the header and the samples that an accepted reading answers, from the output that it left, gives the bytes
abbrev pub ConverseRoundTrip : Type 0
ConverseRoundTrip =
    (packet : List ℕ) (out : List ℤ) (found : Found) (back : List ℕ) →
    AreBytes packet → (packet_read packet out).answer ≡ given found → length packet ≤ length back →
    packet_written found.header (take found.count (packet_read packet out).samples) back
    ≡ record { answer = given (length packet); buffer = overwrite packet back }

-- ---- refusals

-- a refused reading and a refused writing leave the output as it was
abbrev pub RefusedReadUnchanged : Type 0
RefusedReadUnchanged = (packet : List ℕ) (out : List ℤ) (n : ℕ) → (packet_read packet out).answer ≡ refused n → (packet_read packet out).samples ≡ out

abbrev pub RefusedWriteUnchanged : Type 0
RefusedWriteUnchanged =
    (h : Header) (samples : List ℤ) (out : List ℕ) (n : ℕ) → (packet_written h samples out).answer ≡ refused n → (packet_written h samples out).buffer ≡ out

-- a packet whose header is found is refused by 2 where the output has fewer places than it has samples
abbrev pub ShortOutputRefused : Type 0
ShortOutputRefused =
    (packet : List ℕ) (out : List ℤ) (h : Header) → header_found packet ≡ given h → length out < 128 * components h.mask →
    (packet_read packet out).answer ≡ refused 2

-- ---- a packet, byte by byte: two samples stand behind the header of one that has none, to show their bytes

abbrev pub worked_header : Header
worked_header =
    record {
      coarse = 0x0102;
      fine = 0x0304;
      sequence = 0x0506;
      switches8 = 0x0708090A;
      switches12 = 0x0B;
      mask = 0x00;
      total = 0x0C00;
      artefacts = 0x0E;
      snapshot = 0x0F;
      number = 0x0BFF;
    }

abbrev pub WorkedPacket : Type 0
WorkedPacket =
    packet_bytes worked_header (pos 0x1011 ∷ negsuc 1 ∷ [])
    ≡ 33 ∷ 0x01 ∷ 0x02 ∷ 0x03 ∷ 0x04 ∷ 0x05 ∷ 0x06 ∷ 8 ∷ 0x07 ∷ 0x08 ∷ 0x09 ∷ 0x0A ∷ 0x0B ∷ 0x00 ∷ 0x0C ∷ 0x00 ∷ 0x0E ∷ 0x0F ∷ 0x0B ∷ 0xFF ∷ 0x10 ∷ 0x11 ∷ 0xFF ∷ 0xFE
    ∷ []

-- a packet by what matters to its refusals: SID, auxiliary length, mask, and the two bytes of the total and of the packet number
abbrev pub packet_of : ℕ → ℕ → ℕ → ℕ → ℕ → ℕ → ℕ → List ℕ
packet_of sid auxiliary mask total-high total-low number-high number-low =
    sid ∷ 1 ∷ 2 ∷ 3 ∷ 4 ∷ 5 ∷ 6 ∷ auxiliary ∷ 7 ∷ 8 ∷ 9 ∷ 10 ∷ 11 ∷ mask ∷ total-high ∷ total-low ∷ 12 ∷ 13 ∷ number-high ∷ number-low ∷ []

-- accepted at a total of 3072 and its last packet; 19 bytes; SID 34; auxiliary length 0; total 3073; packet number equal to the total; a total of 0; a
-- mask of 1 without samples, and with a byte too few; the first of two faults
abbrev pub WorkedRefusals : Type 0
WorkedRefusals =
    map (λ packet. refusal_of (header_found packet))
    (packet_of 33 8 0 0x0C 0x00 0x0B 0xFF
    ∷ take 19 (packet_of 33 8 0 0x0C 0x00 0x0B 0xFF)
    ∷ packet_of 34 8 0 0x0C 0x00 0x0B 0xFF
    ∷ packet_of 33 0 0 0x0C 0x00 0x0B 0xFF
    ∷ packet_of 33 8 0 0x0C 0x01 0x0B 0xFF
    ∷ packet_of 33 8 0 0x0C 0x00 0x0C 0x00
    ∷ packet_of 33 8 0 0x00 0x00 0x00 0x00
    ∷ packet_of 33 8 1 0x0C 0x00 0x0B 0xFF
    ∷ (packet_of 33 8 1 0x0C 0x00 0x0B 0xFF ++ replicate 255 0)
    ∷ take 19 (packet_of 34 8 0 0x0C 0x00 0x0B 0xFF)
    ∷ packet_of 34 8 0 0x00 0x00 0x00 0x00
    ∷ packet_of 33 8 1 0x00 0x00 0x00 0x00
    ∷ [])
    ≡ 0 ∷ 16 ∷ 14 ∷ 14 ∷ 15 ∷ 15 ∷ 15 ∷ 16 ∷ 16 ∷ 16 ∷ 14 ∷ 15 ∷ []

-- the refusal of writing a packet by its mask, total and packet number, the number of samples and the bytes of the output; 0 if there is none
abbrev pub writing_refused : ℕ → ℕ → ℕ → ℕ → ℕ → ℕ
writing_refused mask total number samples out =
    refusal_of
    (packet_written
    (record { coarse = 1; fine = 2; sequence = 3; switches8 = 4; switches12 = 5; mask = mask; total = total; artefacts = 6; snapshot = 7; number = number })
    (replicate samples (pos 0)) (replicate out 0)).answer

-- accepted at a total of 3072 and its last packet; total 3073; packet number equal to the total; a total of 0; a sample too many, and too few; a
-- byte too few; the first of two faults and of three
abbrev pub WorkedWritings : Type 0
WorkedWritings =
    writing_refused 0 3072 3071 0 20
    ∷ writing_refused 0 3073 0 0 20
    ∷ writing_refused 0 3072 3072 0 20
    ∷ writing_refused 0 0 0 0 20
    ∷ writing_refused 0 1 0 1 20
    ∷ writing_refused 1 1 0 127 276
    ∷ writing_refused 0 1 0 0 19
    ∷ writing_refused 0 0 0 1 20
    ∷ writing_refused 0 1 0 1 19
    ∷ writing_refused 0 0 0 0 19
    ∷ writing_refused 0 0 0 1 19
    ∷ []
    ≡ 0 ∷ 15 ∷ 15 ∷ 15 ∷ 16 ∷ 16 ∷ 2 ∷ 15 ∷ 16 ∷ 15 ∷ 15 ∷ []
