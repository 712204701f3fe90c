-- What each function of the C interface of snapshots does.
use Rattle.std.specs.Prelude.{ℕ, ◌+◌, cond, not, ◌||◌, List, ltb, ℤ, length}
use Rattle.lists.specs.Tables.{overwrite}
use Rattle.refusal.specs.Outcome.{Outcome, given, refused, Filled, unfilled}
use Rattle.fields.specs.Samples.{samples_at}
use Rattle.snapshot.specs.declared.Header.{Header}
use Rattle.snapshot.specs.Packet.{sample_count}
use Rattle.snapshot.specs.Calls.{header_found, packet_written}
use Rattle.dfb_refusals.specs.Numbers.{above16}
use Rattle.dfb_snapshot.specs.Header.{header_numbers, header_of, header_taken}

-- what dfb_snapshot_read leaves
pub record ReadCall : Type 0 where
  pub answer : ℕ
  pub header : List ℕ
  pub samples : List ℤ

abbrev pub read_refused : ℕ → List ℕ → List ℤ → ReadCall
read_refused n header samples = record { answer = above16 + n; header = header; samples = samples }

-- refused as the packet is, then by 2 where the header is under ten numbers or the samples are too few; else how many samples were written
abbrev pub read_to : List ℕ → List ℕ → List ℤ → Outcome Header → ReadCall
read_to packet header samples (refused n) = read_refused n header samples
read_to packet header samples (given h) =
    cond (ltb (length header) 10 || ltb (length samples) (sample_count h.mask)) (read_refused 2 header samples)
    (record {
      answer = sample_count h.mask;
      header = overwrite (header_numbers h) header;
      samples = overwrite (samples_at (sample_count h.mask) packet 20) samples;
    })

unfoldable pub read_call : List ℕ → List ℕ → List ℤ → ReadCall
read_call packet header samples = read_to packet header samples (header_found packet)

-- dfb_snapshot_write: refused by 2 where the header is not ten numbers, each of which fits its bits; then as the packet is
unfoldable pub write_call : List ℕ → List ℤ → List ℕ → Filled ℕ
write_call header samples packet =
    cond (not (header_taken header)) (unfilled 2 packet) (packet_written (header_of header) samples packet)
