-- 02, ticket 1: reading and writing one packet, with their refusals in order. Assumes nothing.
use Rattle.std.specs.Prelude.{ℕ, cond, not, List, ltb, eqb, ℤ, length}
use Rattle.lists.specs.Tables.{overwrite}
use Rattle.refusal.specs.Outcome.{Outcome, given, refused, Filled, unfilled}
use Rattle.fields.specs.Samples.{samples_at}
use Rattle.snapshot.specs.declared.Header.{Header}
use Rattle.snapshot.specs.declared.Found.{Found}
use Rattle.snapshot.specs.Packet.{packet_bytes, header_in, sample_count, packet_length, is_snapshot, in_range}

-- ---- reading

-- the header of a packet: refused by 16 under 20 bytes, 14 for another SID or auxiliary length, 15 for the total or the packet number, 16 where
-- the bytes are not as many as the mask says
unfoldable pub header_found : List ℕ → Outcome Header
header_found packet =
    cond (ltb (length packet) 20) (refused 16)
    (cond (not (is_snapshot packet)) (refused 14)
    (cond (not (in_range (header_in packet))) (refused 15)
    (cond (not (eqb (length packet) (packet_length (header_in packet).mask))) (refused 16)
    (given (header_in packet)))))

-- what reading a packet leaves: its answer, and the output afterwards
pub record ReadLeft : Type 0 where
  pub answer : Outcome Found
  pub samples : List ℤ

-- a packet of a header that was found: refused by 2 where the output is too small; else its samples stand at the front of the output
abbrev pub samples_read : List ℕ → List ℤ → Outcome Header → ReadLeft
samples_read packet out (refused n) = record { answer = refused n; samples = out }
samples_read packet out (given h) =
    cond (ltb (length out) (sample_count h.mask)) (record { answer = refused 2; samples = out })
    (record {
      answer = given (record { header = h; count = sample_count h.mask });
      samples = overwrite (samples_at (sample_count h.mask) packet 20) out;
    })

-- a packet: refused as its header is, then by 2
unfoldable pub packet_read : List ℕ → List ℤ → ReadLeft
packet_read packet out = samples_read packet out (header_found packet)

-- ---- writing

-- refused by 15 for the total or the packet number, 16 where the samples are not as many as the mask says, then 2 for the output; else the
-- bytes written
unfoldable pub packet_written : Header → List ℤ → List ℕ → Filled ℕ
packet_written h samples out =
    cond (not (in_range h)) (unfilled 15 out)
    (cond (not (eqb (length samples) (sample_count h.mask))) (unfilled 16 out)
    (cond (ltb (length out) (packet_length h.mask)) (unfilled 2 out)
    (record { answer = given (packet_length h.mask); buffer = overwrite (packet_bytes h samples) out })))
