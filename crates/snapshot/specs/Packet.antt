-- 02, ticket 1: one packet of a regular snapshot (000, TM_LF_RSWF). Its first 20 bytes are numbers in fields, high byte first; from byte 20 on
-- stand 128 samples for each one bit of the component mask. Assumes nothing.
use Rattle.std.specs.Prelude.{ℕ, ◌+◌, ◌*◌, Bool, ◌&&◌, List, [], ◌∷◌, ◌++◌, leb, ltb, eqb, ℤ}
use Rattle.lists.specs.Sums.{sum_to}
use Rattle.lists.specs.Bits.{bit}
use Rattle.fields.specs.Fields.{Field, number_in, field_bytes}
use Rattle.fields.specs.Samples.{sample_bytes}
use Rattle.snapshot.specs.declared.Header.{Header}

-- ---- the fields: the place of the first byte, and the number of bytes

abbrev pub sid : Field
sid = record { at = 0; size = 1 }

abbrev pub coarse_difference : Field
coarse_difference = record { at = 1; size = 2 }

abbrev pub fine_time : Field
fine_time = record { at = 3; size = 2 }

abbrev pub sequence : Field
sequence = record { at = 5; size = 2 }

abbrev pub auxiliary_length : Field
auxiliary_length = record { at = 7; size = 1 }

abbrev pub switches8 : Field
switches8 = record { at = 8; size = 4 }

abbrev pub switches12 : Field
switches12 = record { at = 12; size = 1 }

abbrev pub component_mask : Field
component_mask = record { at = 13; size = 1 }

abbrev pub total_packets : Field
total_packets = record { at = 14; size = 2 }

abbrev pub artefacts : Field
artefacts = record { at = 16; size = 1 }

abbrev pub snapshot_number : Field
snapshot_number = record { at = 17; size = 1 }

abbrev pub packet_number : Field
packet_number = record { at = 18; size = 2 }

abbrev pub fields : List Field
fields =
    sid ∷ coarse_difference ∷ fine_time ∷ sequence ∷ auxiliary_length ∷ switches8 ∷ switches12 ∷ component_mask ∷ total_packets ∷ artefacts
    ∷ snapshot_number ∷ packet_number ∷ []

-- ---- the bytes of a packet

-- the numbers in these fields, in the same order: SID 33 and auxiliary length 8 in every packet
abbrev pub field_numbers : Header → List ℕ
field_numbers h =
    33 ∷ h.coarse ∷ h.fine ∷ h.sequence ∷ 8 ∷ h.switches8 ∷ h.switches12 ∷ h.mask ∷ h.total ∷ h.artefacts
    ∷ h.snapshot ∷ h.number ∷ []

unfoldable pub header_bytes : Header → List ℕ
header_bytes h = field_bytes fields (field_numbers h)

unfoldable pub packet_bytes : Header → List ℤ → List ℕ
packet_bytes h samples = header_bytes h ++ sample_bytes samples

-- the header that bytes have in these fields
unfoldable pub header_in : List ℕ → Header
header_in bytes =
    record {
      coarse = number_in coarse_difference bytes;
      fine = number_in fine_time bytes;
      sequence = number_in sequence bytes;
      switches8 = number_in switches8 bytes;
      switches12 = number_in switches12 bytes;
      mask = number_in component_mask bytes;
      total = number_in total_packets bytes;
      artefacts = number_in artefacts bytes;
      snapshot = number_in snapshot_number bytes;
      number = number_in packet_number bytes;
    }

-- ---- what a packet is to be

-- how many of a mask's eight bits are one: the components
unfoldable pub components : ℕ → ℕ
components mask = sum_to 8 (bit mask)

-- 128 samples for each component, and the bytes of the packet, two for each sample behind the first 20
abbrev pub sample_count : ℕ → ℕ
sample_count mask = 128 * components mask

abbrev pub packet_length : ℕ → ℕ
packet_length mask = 20 + 2 * sample_count mask

-- SID 33 and auxiliary length 8
abbrev pub is_snapshot : List ℕ → Bool
is_snapshot bytes = eqb (number_in sid bytes) 33 && eqb (number_in auxiliary_length bytes) 8

-- a total of at most 3072, and a packet number before it
abbrev pub in_range : Header → Bool
in_range h = leb h.total 3072 && ltb h.number h.total
