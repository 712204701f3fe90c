-- What each function of the C interface of space packets does (include/dfb.h).
use Rattle.std.specs.Prelude.{ℕ, ◌+◌, cond, not, ◌||◌, List, [], ◌∷◌, eqb, ltb, ℤ, length, get_or}
use Rattle.lists.specs.Tables.{overwrite}
use Rattle.refusal.specs.Outcome.{Outcome, given, refused}
use Rattle.fields.specs.Samples.{samples_at}
use Rattle.space_packets.specs.declared.PacketHeader.{PacketHeader}
use Rattle.space_packets.specs.declared.Export.{Export}
use Rattle.space_packets.specs.Calls.{header_found, sample_count, packets_exported}
use Rattle.dfb_refusals.specs.Numbers.{above16, above63}

-- ---- dfb_export_packets

-- what a call leaves: its answer, and both lists afterwards
pub record ExportCall : Type 0 where
  pub answer : ℕ
  pub count : List ℕ
  pub out : List ℕ

-- an accepted export answers its bytes and leaves the next count; a refused one leaves both lists as they were
abbrev pub export_left : List ℕ → Outcome Export → List ℕ → ExportCall
export_left count (given s) out = record { answer = s.bytes; count = s.next ∷ []; out = out }
export_left count (refused n) out = record { answer = above63 + n; count = count; out = out }

-- refused by 2 where the count list is not 1 long; then as the export is, whose first count is the list's
unfoldable pub export_call : ℕ → List ℕ → List ℤ → List ℕ → ExportCall
export_call apid count samples out =
    cond (not (eqb (length count) 1)) (record { answer = above63 + 2; count = count; out = out })
    (export_left count (packets_exported apid (get_or count 0 0) samples out).answer (packets_exported apid (get_or count 0 0) samples out).out)

-- ---- dfb_import_packet

-- what a call leaves: its answer, and both lists afterwards
pub record ImportCall : Type 0 where
  pub answer : ℕ
  pub header : List ℕ
  pub samples : List ℤ

-- a header as a C program holds it: APID and count
abbrev pub header_numbers : PacketHeader → List ℕ
header_numbers h = h.apid ∷ h.count ∷ []

abbrev pub import_refused : ℕ → List ℕ → List ℤ → ImportCall
import_refused n header samples = record { answer = above16 + n; header = header; samples = samples }

-- refused as the packet is, then by 2 where the header is under two numbers or the samples are too few; else how many samples were written
abbrev pub import_to : List ℕ → List ℕ → List ℤ → Outcome PacketHeader → ImportCall
import_to packet header samples (refused n) = import_refused n header samples
import_to packet header samples (given h) =
    cond (ltb (length header) 2 || ltb (length samples) (sample_count packet)) (import_refused 2 header samples)
    (record {
      answer = sample_count packet;
      header = overwrite (header_numbers h) header;
      samples = overwrite (samples_at (sample_count packet) packet 6) samples;
    })

unfoldable pub import_call : List ℕ → List ℕ → List ℤ → ImportCall
import_call packet header samples = import_to packet header samples (header_found packet)
