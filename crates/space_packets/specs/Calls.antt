-- 02, ticket 7: export and import, with their refusals in order. Assumes nothing.
use Rattle.std.specs.Prelude.{ℕ, ◌-◌, ◌/◌, ◌%◌, Bool, cond, not, ◌&&◌, List, ltb, eqb, ℤ, length}
use Rattle.lists.specs.Tables.{overwrite}
use Rattle.refusal.specs.Outcome.{Outcome, given, refused}
use Rattle.words.specs.Words.{set_size}
use Rattle.fields.specs.Samples.{samples_at}
use Rattle.space_packets.specs.declared.Primary.{Primary}
use Rattle.space_packets.specs.declared.PacketHeader.{PacketHeader}
use Rattle.space_packets.specs.declared.Import.{Import}
use Rattle.space_packets.specs.declared.Export.{Export}
use Rattle.space_packets.specs.Packet.{primary_in, is_stated, is_whole, most_samples, packet_count, count_of, packets_bytes, packets_length}

-- ---- import

-- a header whose APID's sets have so many words, with so many bytes behind it: refused by 22 for another field that is not as stated, 23 for the
-- data length
unfoldable pub header_taken : ℕ → Primary → ℕ → Outcome PacketHeader
header_taken words p size =
    cond (not (is_stated p)) (refused 22)
    (cond (not (is_whole words p.length size)) (refused 23)
    (given (record { apid = p.apid; count = p.count })))

-- by the words of its APID's sets, and refused where they are: by 4 for an APID that is none of the six waveforms'
abbrev pub header_of_sets : Outcome ℕ → Primary → ℕ → Outcome PacketHeader
header_of_sets (refused n) p size = refused n
header_of_sets (given words) p size = header_taken words p size

-- the header of a packet: refused by 23 under 6 bytes, then 4, 22, 23
unfoldable pub header_found : List ℕ → Outcome PacketHeader
header_found packet =
    cond (ltb (length packet) 6) (refused 23)
    (header_of_sets (set_size (primary_in packet).apid) (primary_in packet) (length packet - 6))

-- what an import leaves: its answer, and the output afterwards
pub record ImportLeft : Type 0 where
  pub answer : Outcome Import
  pub samples : List ℤ

-- the samples of a packet: two bytes for each behind the header
abbrev pub sample_count : List ℕ → ℕ
sample_count packet = (length packet - 6) / 2

-- a packet of a header that was found: refused by 2 where the output is too small; else its samples stand at the front of the output
abbrev pub samples_imported : List ℕ → List ℤ → Outcome PacketHeader → ImportLeft
samples_imported packet out (refused n) = record { answer = refused n; samples = out }
samples_imported packet out (given h) =
    cond (ltb (length out) (sample_count packet)) (record { answer = refused 2; samples = out })
    (record {
      answer = given (record { header = h; samples = sample_count packet });
      samples = overwrite (samples_at (sample_count packet) packet 6) out;
    })

-- a packet: refused as its header is, then by 2
unfoldable pub packet_imported : List ℕ → List ℤ → ImportLeft
packet_imported packet out = samples_imported packet out (header_found packet)

-- ---- export

-- what an export leaves: its answer, and the output afterwards
pub record ExportLeft : Type 0 where
  pub answer : Outcome Export
  pub out : List ℕ

abbrev pub export_refused : ℕ → List ℕ → ExportLeft
export_refused n out = record { answer = refused n; out = out }

-- some samples, and whole sets
abbrev pub are_sets : ℕ → ℕ → Bool
are_sets words samples = ltb 0 samples && eqb (samples % words) 0

-- sets of so many words: refused by 22 for a first count over 16383, 23 where the samples are empty or not whole sets, then 2 for the output; else
-- the packets stand at the front of the output
unfoldable pub sets_exported : ℕ → ℕ → ℕ → List ℤ → List ℕ → ExportLeft
sets_exported words apid first samples out =
    cond (ltb 16383 first) (export_refused 22 out)
    (cond (not (are_sets words (length samples))) (export_refused 23 out)
    (cond (ltb (length out) (packets_length (length samples) (most_samples words))) (export_refused 2 out)
    (record {
      answer =
          given
          (record {
            bytes = packets_length (length samples) (most_samples words);
            next = count_of first (packet_count (length samples) (most_samples words));
          });
      out = overwrite (packets_bytes apid first (most_samples words) samples) out;
    })))

-- by the words of the APID's sets, and refused where they are: by 4 for an APID that is none of the six waveforms'
abbrev pub exported_sets : Outcome ℕ → ℕ → ℕ → List ℤ → List ℕ → ExportLeft
exported_sets (refused n) apid first samples out = export_refused n out
exported_sets (given words) apid first samples out = sets_exported words apid first samples out

-- refused by 4, then 22, 23, 2
unfoldable pub packets_exported : ℕ → ℕ → List ℤ → List ℕ → ExportLeft
packets_exported apid first samples out = exported_sets (set_size apid) apid first samples out
