-- How a caller tells the answers of both functions apart from refusals, and what accepted and refused calls leave. Assumes nothing.
use Rattle.std.specs.Prelude.{ℕ, ◌+◌, ◌^◌, ◌≤◌, ◌<◌, ◌≡◌, true, ◌&&◌, List, [], ◌∷◌, leb, ltb, eqb, ℤ, pos, length, get_or, take, replicate}
use Rattle.lists.specs.Tables.{overwrite}
use Rattle.refusal.specs.Outcome.{given, refused, is_given}
use Rattle.words.specs.Words.{AreBytes}
use Rattle.space_packets.specs.Packet.{count_of}
use Rattle.space_packets.specs.declared.Import.{Import}
use Rattle.space_packets.specs.declared.Export.{Export}
use Rattle.space_packets.specs.Calls.{packet_imported, packets_exported}
use Rattle.space_packets.specs.Claims.{packet_of}
use Rattle.dfb_refusals.specs.Numbers.{above16, above63}
use Rattle.dfb_space_packets.specs.Calls.{export_call, import_call}

-- ---- dfb_export_packets; a list in memory has fewer than 2 ^ 63 bytes

-- an answer below the base says that the packets were written
abbrev pub ExportPacketsApart : Type 0
ExportPacketsApart =
    (apid : ℕ) (count : List ℕ) (samples : List ℤ) (out : List ℕ) → length out < 2 ^ 63 →
    ltb (export_call apid count samples out).answer above63
    ≡ (eqb (length count) 1 && is_given (packets_exported apid (get_or count 0 0) samples out).answer)

-- a count list that is not one number is refused by 2
abbrev pub OtherCountRefused : Type 0
OtherCountRefused =
    (apid : ℕ) (count : List ℕ) (samples : List ℤ) (out : List ℕ) → ¬ (length count ≡ 1) →
    export_call apid count samples out ≡ record { answer = above63 + 2; count = count; out = out }

-- a refused export leaves both lists as they were
abbrev pub RefusedExportUnchanged : Type 0
RefusedExportUnchanged =
    (apid first : ℕ) (samples : List ℤ) (out : List ℕ) (n : ℕ) → (packets_exported apid first samples out).answer ≡ refused n →
    export_call apid (first ∷ []) samples out ≡ record { answer = above63 + n; count = first ∷ []; out = out }

-- an accepted one answers the bytes, and leaves the next count and the packets
abbrev pub AcceptedExportGiven : Type 0
AcceptedExportGiven =
    (apid first : ℕ) (samples : List ℤ) (out : List ℕ) (s : Export) → (packets_exported apid first samples out).answer ≡ given s →
    export_call apid (first ∷ []) samples out ≡ record { answer = s.bytes; count = s.next ∷ []; out = (packets_exported apid first samples out).out }

-- ---- dfb_import_packet

-- an answer below the base says that the packet was imported
abbrev pub ImportPacketApart : Type 0
ImportPacketApart =
    (packet header : List ℕ) (samples : List ℤ) →
    ltb (import_call packet header samples).answer above16 ≡ (leb 2 (length header) && is_given (packet_imported packet samples).answer)

-- a refused import leaves both lists as they were
abbrev pub RefusedImportUnchanged : Type 0
RefusedImportUnchanged =
    (packet header : List ℕ) (samples : List ℤ) (n : ℕ) → (packet_imported packet samples).answer ≡ refused n →
    import_call packet header samples ≡ record { answer = above16 + n; header = header; samples = samples }

-- a packet that is imported, where the list for its header is under 2: refused by 2
abbrev pub ShortHeaderRefused : Type 0
ShortHeaderRefused =
    (packet header : List ℕ) (samples : List ℤ) → is_given (packet_imported packet samples).answer ≡ true → length header < 2 →
    import_call packet header samples ≡ record { answer = above16 + 2; header = header; samples = samples }

-- an accepted one answers the number of samples, and leaves APID and count at the front of the header
abbrev pub AcceptedImportGiven : Type 0
AcceptedImportGiven =
    (packet header : List ℕ) (samples : List ℤ) (f : Import) → (packet_imported packet samples).answer ≡ given f → 2 ≤ length header →
    import_call packet header samples
    ≡ record {
      answer = f.samples;
      header = overwrite (f.header.apid ∷ f.header.count ∷ []) header;
      samples = (packet_imported packet samples).samples;
    }

-- ---- by computation

-- the answer of an import to lists of so many numbers and samples
abbrev pub importing_answer : List ℕ → ℕ → ℕ → ℕ
importing_answer packet header samples = (import_call packet (replicate header 0) (replicate samples (pos 0))).answer

-- accepted with lists of just the length, and with longer ones; a list of one number behind each refusal of the packet, and by itself; two samples
-- for three, by themselves and behind two refusals
abbrev pub WorkedImports : Type 0
WorkedImports =
    importing_answer (packet_of 0x00 0x43 0xC0 0x00 0x00 0x05 6) 2 3
    ∷ importing_answer (packet_of 0x00 0x43 0xC0 0x00 0x00 0x05 6) 3 4
    ∷ importing_answer (take 5 (packet_of 0x00 0x43 0xC0 0x00 0x00 0x05 6)) 1 3
    ∷ importing_answer (packet_of 0x00 0x4E 0xC0 0x00 0x00 0x05 6) 1 3
    ∷ importing_answer (packet_of 0x20 0x43 0xC0 0x00 0x00 0x05 6) 1 3
    ∷ importing_answer (packet_of 0x00 0x43 0xC0 0x00 0x00 0x04 6) 1 3
    ∷ importing_answer (packet_of 0x00 0x43 0xC0 0x00 0x00 0x05 6) 1 3
    ∷ importing_answer (packet_of 0x00 0x43 0xC0 0x00 0x00 0x05 6) 2 2
    ∷ importing_answer (packet_of 0x00 0x4E 0xC0 0x00 0x00 0x05 6) 2 2
    ∷ importing_answer (packet_of 0x20 0x43 0xC0 0x00 0x00 0x05 6) 2 2
    ∷ []
    ≡ 3 ∷ 3 ∷ 0x10017 ∷ 0x10004 ∷ 0x10016 ∷ 0x10017 ∷ 0x10002 ∷ 0x10002 ∷ 0x10004 ∷ 0x10016 ∷ []

-- APID and count of a packet, in this order
abbrev pub WorkedHeader : Type 0
WorkedHeader = (import_call (packet_of 0x00 0x46 0xC1 0x02 0x00 0x05 6) (9 ∷ 9 ∷ 9 ∷ []) (replicate 3 (pos 0))).header ≡ 0x46 ∷ 0x0102 ∷ 9 ∷ []

-- what an export with so many samples and bytes of output answers, and the counts that it leaves
abbrev pub exporting_answer : ℕ → List ℕ → ℕ → ℕ → List ℕ
exporting_answer apid count samples out =
    (export_call apid count (replicate samples (pos 0)) (replicate out 0)).answer
    ∷ (export_call apid count (replicate samples (pos 0)) (replicate out 0)).count

-- accepted, at the greatest count; count lists of none and of two, with every other fault; then as the export is
abbrev pub WorkedExports : Type 0
WorkedExports =
    exporting_answer 0x43 (16383 ∷ []) 3 12
    ∷ exporting_answer 0x4E [] 0 0
    ∷ exporting_answer 0x4E (16384 ∷ 5 ∷ []) 0 0
    ∷ exporting_answer 0x4E (16384 ∷ []) 0 0
    ∷ exporting_answer 0x43 (16384 ∷ []) 0 0
    ∷ exporting_answer 0x43 (5 ∷ []) 0 0
    ∷ exporting_answer 0x43 (5 ∷ []) 3 11
    ∷ exporting_answer 0x43 (16384 ∷ []) 3 11
    ∷ []
    ≡ (12 ∷ 0 ∷ [])
    ∷ (0x8000000000000002 ∷ [])
    ∷ (0x8000000000000002 ∷ 16384 ∷ 5 ∷ [])
    ∷ (0x8000000000000004 ∷ 16384 ∷ [])
    ∷ (0x8000000000000016 ∷ 16384 ∷ [])
    ∷ (0x8000000000000017 ∷ 5 ∷ [])
    ∷ (0x8000000000000002 ∷ 5 ∷ [])
    ∷ (0x8000000000000016 ∷ 16384 ∷ [])
    ∷ []

-- ---- one packet, imported and exported again, in C's numbers

-- exporting the samples that an accepted import answers, with its header's APID and count, gives the same bytes, and the count after it
abbrev pub ImportedExported : Type 0
ImportedExported =
    (packet header : List ℕ) (samples : List ℤ) (back : List ℕ) →
    AreBytes packet → (import_call packet header samples).answer < above16 → length packet ≤ length back →
    export_call (get_or (import_call packet header samples).header 0 0) (get_or (import_call packet header samples).header 1 0 ∷ [])
    (take (import_call packet header samples).answer (import_call packet header samples).samples) back
    ≡ record { answer = length packet; count = count_of (get_or (import_call packet header samples).header 1 0) 1 ∷ []; out = overwrite packet back }
