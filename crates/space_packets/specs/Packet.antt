-- 02, ticket 7: a space packet (CCSDS 133.0-B) of whole waveform sets: six bytes of primary header, then the samples. Assumes nothing.
use Rattle.std.specs.Prelude.{ℕ, ◌+◌, ◌-◌, ◌*◌, ◌/◌, ◌%◌, Bool, cond, ◌&&◌, List, [], ◌∷◌, ◌++◌, leb, ltb, eqb, ℤ, length, get_or, take, drop}
use Rattle.lists.specs.Tables.{concat_to}
use Rattle.fields.specs.Fields.{number_at, number_bytes}
use Rattle.fields.specs.BitFields.{joined, separated}
use Rattle.fields.specs.Samples.{sample_bytes}
use Rattle.space_packets.specs.declared.Primary.{Primary}

-- ---- the primary header: one definition of the six bytes

-- the bits of its fields, the first in the highest bits (CCSDS 133.0-B, 4.1.3): packet version number, packet type, secondary header flag, APID,
-- sequence flags, packet sequence count, packet data length
abbrev pub widths : List ℕ
widths = 3 ∷ 1 ∷ 1 ∷ 11 ∷ 2 ∷ 14 ∷ 16 ∷ []

-- the numbers in these fields, in the same order, and back
abbrev pub field_numbers : Primary → List ℕ
field_numbers p = p.version ∷ p.kind ∷ p.secondary ∷ p.apid ∷ p.flags ∷ p.count ∷ p.length ∷ []

abbrev pub primary_of : List ℕ → Primary
primary_of xs =
    record {
      version = get_or xs 0 0;
      kind = get_or xs 1 0;
      secondary = get_or xs 2 0;
      apid = get_or xs 3 0;
      flags = get_or xs 4 0;
      count = get_or xs 5 0;
      length = get_or xs 6 0;
    }

-- the six bytes are one number of 48 bits, high byte first
unfoldable pub primary_bytes : Primary → List ℕ
primary_bytes p = number_bytes 6 (joined widths (field_numbers p))

unfoldable pub primary_in : List ℕ → Primary
primary_in bytes = primary_of (separated widths (number_at 6 bytes 0))

-- ---- a packet

-- the header of a packet of an APID, a count and so many bytes of data: version 0, type 0, no secondary header, sequence flags 3, and the data
-- length minus one
abbrev pub stated : ℕ → ℕ → ℕ → Primary
stated apid count size = record { version = 0; kind = 0; secondary = 0; apid = apid; flags = 3; count = count; length = size - 1 }

-- its bytes: the data are the samples, two bytes each, without the APID byte
unfoldable pub packet_bytes : ℕ → ℕ → List ℤ → List ℕ
packet_bytes apid count samples = primary_bytes (stated apid count (2 * length samples)) ++ sample_bytes samples

-- ---- what a packet is to be, by the words of a set

-- version 0, type 0, no secondary header, sequence flags 3
abbrev pub is_stated : Primary → Bool
is_stated p = eqb p.version 0 && eqb p.kind 0 && eqb p.secondary 0 && eqb p.flags 3

-- so many bytes of data are as many as the field says, at most 4,090, whole sets of two bytes for each word, and not empty
abbrev pub is_whole : ℕ → ℕ → ℕ → Bool
is_whole words field size = eqb (field + 1) size && leb size 4090 && eqb (size % (2 * words)) 0 && ltb 0 size

-- ---- the packets of samples

-- the most samples of a packet: as many whole sets as fit into 4,096 bytes with the header
unfoldable pub most_samples : ℕ → ℕ
most_samples words = words * ((4096 - 6) / (2 * words))

-- the packets of so many samples: the full ones, and one for what is left
abbrev pub packet_count : ℕ → ℕ → ℕ
packet_count samples most = samples / most + cond (eqb (samples % most) 0) 0 1

-- the samples of packet p, and its count: one more each packet, and 0 after 16383
abbrev pub samples_of : ℕ → List ℤ → ℕ → List ℤ
samples_of most samples p = take most (drop (p * most) samples)

abbrev pub count_of : ℕ → ℕ → ℕ
count_of first p = (first + p) % 16384

-- the packets one after the other
unfoldable pub packets_bytes : ℕ → ℕ → ℕ → List ℤ → List ℕ
packets_bytes apid first most samples =
    concat_to (packet_count (length samples) most) (λ p. packet_bytes apid (count_of first p) (samples_of most samples p))

-- their bytes: six for each packet, two for each sample
abbrev pub packets_length : ℕ → ℕ → ℕ
packets_length samples most = 6 * packet_count samples most + 2 * samples
