-- The claims on the C interface of space packets. Assumes nothing.
use Prim.Native.Nat.{ℕ, ◌+◌, ◌≤◌}
use mathlib.Core.Path.{◌≡◌, refl, sym, ap, ◌∙◌}
use mathlib.Core.Bool.{Bool, true, ◌&&◌, false≢true}
use mathlib.Core.List.{List, [], ◌∷◌}
use native.Mathlib.Omega.{arith}
use borrow.Author.Tests.{ltb-true, ltb-false, lt-ltb, le-ltb, le-leb, lt-leb, ne_eqb}
use lib.Dec.{leb, ltb, eqb}
use lib.IntN.{ℤ}
use lib.ListN.{length, get_or, take}
use Rattle.lists.specs.Tables.{overwrite}
use Rattle.lists.proofs.Choices.{by_cases, cond-at, both}
use Rattle.refusal.specs.Outcome.{Outcome, given, refused, is_given, refusal_of}
use Rattle.refusal.proofs.Outcomes.{refused-given, given-refused}
use Rattle.words.specs.Words.{set_size}
use Rattle.space_packets.specs.declared.PacketHeader.{PacketHeader}
use Rattle.space_packets.specs.Packet.{primary_in, most_samples, count_of}
use Rattle.space_packets.specs.declared.Import.{Import}
use Rattle.space_packets.specs.declared.Export.{Export}
use Rattle.space_packets.specs.Calls.{header_taken, header_found, ImportLeft, sample_count, samples_imported, packet_imported, ExportLeft, sets_exported, packets_exported}
use Rattle.space_packets.proofs.Theorems as packets
use Rattle.space_packets.proofs.Theorems.{export-exactly, import-exported}
use Rattle.dfb_refusals.specs.Numbers.{above16, above63}
use Rattle.dfb_space_packets.specs.Calls.{export_left, export_call, ImportCall, import_refused, import_call}
use Rattle.dfb_space_packets.specs.Claims.{ExportPacketsApart, OtherCountRefused, RefusedExportUnchanged, AcceptedExportGiven, ImportPacketApart, RefusedImportUnchanged, ShortHeaderRefused, AcceptedImportGiven, WorkedImports, WorkedHeader, WorkedExports, ImportedExported}
use Rattle.dfb_space_packets.proofs.Imports.{refusal_or2, import-short, import_left, import-long, import-few}

-- ---- by computation

pub worked-imports : WorkedImports
unfolding import_call header_found header_taken primary_in set_size
worked-imports = refl

pub worked-header : WorkedHeader
unfolding import_call header_found header_taken primary_in set_size
worked-header = refl

pub worked-exports : WorkedExports
unfolding export_call packets_exported sets_exported set_size most_samples
worked-exports = refl

-- ---- export

pub other-count-refused : OtherCountRefused
unfolding export_call
other-count-refused apid count samples out h = rw (ne_eqb (length count) 1 h)

pub refused-export-unchanged : RefusedExportUnchanged
unfolding export_call
refused-export-unchanged apid first samples out n e = rw (e, packets.refused-export-unchanged apid first samples out n e)

pub accepted-export-given : AcceptedExportGiven
unfolding export_call
accepted-export-given apid first samples out s e = rw e

-- no more bytes are written than the output has
sent-fits : (apid first : ℕ) (samples : List ℤ) (out : List ℕ) (s : Export) → (packets_exported apid first samples out).answer ≡ given s → s.bytes ≤ length out
sent-fits apid first samples out s e = let a = (export-exactly apid first samples out s).0 e in omega (arith, a.bytes, a.room)

pub export-packets-apart : ExportPacketsApart
unfolding export_call
export-packets-apart apid count samples out short =
    by_cases (eqb (length count) 1) (λ t. rw t (by (packets_exported apid (get_or count 0 0) samples out).answer refl)) (λ t. rw t)
  where
    by : (o : Outcome Export) → (packets_exported apid (get_or count 0 0) samples out).answer ≡ o →
        ltb (export_left count o (packets_exported apid (get_or count 0 0) samples out).out).answer above63 ≡ is_given o
    by (refused n) e = le-ltb (above63 + n) above63 (omega arith)
    by (given s) e = lt-ltb s.bytes above63 (omega (arith, sent-fits apid (get_or count 0 0) samples out s e))

-- ---- import

-- the refusal of a packet is its header's, or 2
header-refusal : (packet : List ℕ) (samples : List ℤ) (n : ℕ) → (packet_imported packet samples).answer ≡ refused n → refusal_or2 (header_found packet) ≡ n
unfolding packet_imported
header-refusal packet samples n = by (header_found packet)
  where
    by : (o : Outcome PacketHeader) → (samples_imported packet samples o).answer ≡ refused n → refusal_or2 o ≡ n
    by (refused m) = λ e. ap refusal_of e
    by (given h) =
        cond-at (λ (l : ImportLeft). l.answer ≡ refused n → 2 ≡ n) (ltb (length samples) (sample_count packet)) (λ t e. ap refusal_of e)
        (λ t e. absurd (given-refused _ n e))

-- and where there is none, the header is found
header-given : (packet : List ℕ) (samples : List ℤ) (f : Import) → (packet_imported packet samples).answer ≡ given f → refusal_or2 (header_found packet) ≡ 2
unfolding packet_imported
header-given packet samples f = by (header_found packet)
  where
    by : (o : Outcome PacketHeader) → (samples_imported packet samples o).answer ≡ given f → refusal_or2 o ≡ 2
    by (refused m) = λ e. absurd (refused-given m f e)
    by (given h) = λ e. refl

pub refused-import-unchanged : RefusedImportUnchanged
refused-import-unchanged packet header samples n e =
    by_cases (ltb (length header) 2)
    (λ t. sym (import-short packet header samples (ltb-true (length header) 2 t)) ∙ ap (λ (m : ℕ). import_refused m header samples) (header-refusal packet samples n e))
    (λ t. sym (import-long packet header samples (ltb-false (length header) 2 t))
    ∙ ap (import_left header (packet_imported packet samples).samples) e
    ∙ ap (import_refused n header) (packets.refused-import-unchanged packet samples n e))

pub short-header-refused : ShortHeaderRefused
short-header-refused packet header samples ok short = by (packet_imported packet samples).answer refl ok
  where
    by : (o : Outcome Import) → (packet_imported packet samples).answer ≡ o → is_given o ≡ true →
        import_call packet header samples ≡ record { answer = above16 + 2; header = header; samples = samples }
    by (refused n) e t = absurd (false≢true t)
    by (given f) e t = sym (import-short packet header samples short) ∙ ap (λ (m : ℕ). import_refused m header samples) (header-given packet samples f e)

pub accepted-import-given : AcceptedImportGiven
accepted-import-given packet header samples f e long = sym (import-long packet header samples long) ∙ ap (import_left header (packet_imported packet samples).samples) e

pub import-packet-apart : ImportPacketApart
import-packet-apart packet header samples =
    by_cases (ltb (length header) 2)
    (λ t. let short = ltb-true (length header) 2 t in
    ap (λ (l : ImportCall). ltb l.answer above16) (sym (import-short packet header samples short))
    ∙ le-ltb (above16 + refusal_or2 (header_found packet)) above16 (omega arith)
    ∙ ap (λ (b : Bool). b && is_given (packet_imported packet samples).answer) (sym (lt-leb 2 (length header) short)))
    (λ t. let long = ltb-false (length header) 2 t in
    ap (λ (l : ImportCall). ltb l.answer above16) (sym (import-long packet header samples long))
    ∙ by (packet_imported packet samples).answer refl
    ∙ ap (λ (b : Bool). b && is_given (packet_imported packet samples).answer) (sym (le-leb 2 (length header) long)))
  where
    by : (o : Outcome Import) → (packet_imported packet samples).answer ≡ o → ltb (import_left header (packet_imported packet samples).samples o).answer above16 ≡ is_given o
    by (refused n) e = le-ltb (above16 + n) above16 (omega arith)
    by (given f) e = lt-ltb f.samples above16 (omega (arith, import-few packet samples f e))

-- ---- one packet, imported and exported again

pub imported-exported : ImportedExported
imported-exported packet header samples back are ok room =
    by_cases (ltb (length header) 2)
    (λ t. absurd (false≢true (sym (lt-leb 2 (length header) (ltb-true (length header) 2 t)) ∙ accepted.0)))
    (λ t. by (packet_imported packet samples).answer refl accepted.1 (ltb-false (length header) 2 t))
  where
    accepted : (leb 2 (length header) ≡ true) × (is_given (packet_imported packet samples).answer ≡ true)
    accepted = both (leb 2 (length header)) (is_given (packet_imported packet samples).answer) (sym (import-packet-apart packet header samples) ∙ lt-ltb (import_call packet header samples).answer above16 ok)

    by : (o : Outcome Import) → (packet_imported packet samples).answer ≡ o → is_given o ≡ true → 2 ≤ length header →
        export_call (get_or (import_call packet header samples).header 0 0) (get_or (import_call packet header samples).header 1 0 ∷ [])
        (take (import_call packet header samples).answer (import_call packet header samples).samples) back
        ≡ record { answer = length packet; count = count_of (get_or (import_call packet header samples).header 1 0) 1 ∷ []; out = overwrite packet back }
    by (refused n) e t long = absurd (false≢true t)
    by (given f) e t long =
        let s : Export = record { bytes = length packet; next = count_of f.header.count 1 } in
        let exported = import-exported packet samples f back are e room in
        let given-call = accepted-export-given f.header.apid f.header.count (take f.samples (packet_imported packet samples).samples) back s (ap (λ (l : ExportLeft). l.answer) exported) in
        rw (accepted-import-given packet header samples f e long) (given-call ∙ ap (λ (l : ExportLeft). record { answer = length packet; count = count_of f.header.count 1 ∷ []; out = l.out }) exported)
