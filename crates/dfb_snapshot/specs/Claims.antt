-- How a caller tells the answers of both functions apart from refusals, what a refused call leaves, the order of refusals by computation, and the
-- round trips in C's numbers. Assumes nothing.
use Rattle.std.specs.Prelude.{ℕ, ◌≤◌, ◌<◌, ◌≡◌, ◌&&◌, List, [], ◌∷◌, ◌++◌, leb, ltb, ℤ, pos, length, take, replicate}
use Rattle.lists.specs.Tables.{overwrite}
use Rattle.refusal.specs.Outcome.{given, refused, is_given}
use Rattle.words.specs.Sample.{Are16}
use Rattle.words.specs.Words.{AreBytes}
use Rattle.snapshot.specs.Calls.{packet_read}
use Rattle.snapshot.specs.Claims.{worked_header, packet_of}
use Rattle.dfb_refusals.specs.Numbers.{above16, outcome_number, ToldApart}
use Rattle.dfb_snapshot.specs.Header.{header_numbers}
use Rattle.dfb_snapshot.specs.Calls.{read_call, write_call}

-- an answer below the base says that the packet was read
abbrev pub SnapshotReadApart : Type 0
SnapshotReadApart =
    (packet header : List ℕ) (samples : List ℤ) →
    ltb (read_call packet header samples).answer above16 ≡ (leb 10 (length header) && is_given (packet_read packet samples).answer)

abbrev pub SnapshotWriteApart : Type 0
SnapshotWriteApart = (header : List ℕ) (samples : List ℤ) (packet : List ℕ) → ToldApart above16 (write_call header samples packet).answer

-- any other answer of a reading leaves both lists as they were, and a refused writing the packet
abbrev pub RefusedReadUnchanged : Type 0
RefusedReadUnchanged =
    (packet header : List ℕ) (samples : List ℤ) → above16 ≤ (read_call packet header samples).answer →
    read_call packet header samples ≡ record { answer = (read_call packet header samples).answer; header = header; samples = samples }

abbrev pub RefusedWriteUnchanged : Type 0
RefusedWriteUnchanged =
    (header : List ℕ) (samples : List ℤ) (packet : List ℕ) (n : ℕ) → (write_call header samples packet).answer ≡ refused n →
    (write_call header samples packet).buffer ≡ packet

-- the answer of a reading to lists of so many numbers and samples
abbrev pub reading_answer : List ℕ → ℕ → ℕ → ℕ
reading_answer packet header samples = (read_call packet (replicate header 0) (replicate samples (pos 0))).answer

-- accepted with lists of just the length, and with longer ones; a list of nine numbers behind each refusal of the packet, and by itself; a list of
-- 127 samples for 128, and one of 128
abbrev pub WorkedReadings : Type 0
WorkedReadings =
    reading_answer (packet_of 33 8 0 0x0C 0x00 0x0B 0xFF) 10 0
    ∷ reading_answer (packet_of 33 8 0 0x0C 0x00 0x0B 0xFF) 11 1
    ∷ reading_answer (take 19 (packet_of 33 8 0 0x0C 0x00 0x0B 0xFF)) 9 0
    ∷ reading_answer (packet_of 34 8 0 0x0C 0x00 0x0B 0xFF) 9 0
    ∷ reading_answer (packet_of 33 8 0 0x00 0x00 0x00 0x00) 9 0
    ∷ reading_answer (packet_of 33 8 1 0x0C 0x00 0x0B 0xFF) 9 0
    ∷ reading_answer (packet_of 33 8 0 0x0C 0x00 0x0B 0xFF) 9 0
    ∷ reading_answer (packet_of 33 8 1 0x0C 0x00 0x0B 0xFF ++ replicate 256 0) 10 127
    ∷ reading_answer (packet_of 33 8 1 0x0C 0x00 0x0B 0xFF ++ replicate 256 0) 10 128
    ∷ []
    ≡ 0 ∷ 0 ∷ 0x10010 ∷ 0x1000E ∷ 0x1000F ∷ 0x10010 ∷ 0x10002 ∷ 0x10002 ∷ 128 ∷ []

-- ten numbers by the coarse difference, the total and the packet number; their mask is 0
abbrev pub ten_of : ℕ → ℕ → ℕ → List ℕ
ten_of coarse total number = coarse ∷ 2 ∷ 3 ∷ 4 ∷ 5 ∷ 0 ∷ total ∷ 6 ∷ 7 ∷ number ∷ []

-- the answer of a writing with so many samples to so many bytes
abbrev pub writing_answer : List ℕ → ℕ → ℕ → ℕ
writing_answer header samples packet = outcome_number above16 (write_call header (replicate samples (pos 0)) (replicate packet 0)).answer

-- accepted; nine numbers; eleven; a coarse difference and a total of 17 bits, with every other fault; then as the packet is
abbrev pub WorkedWritings : Type 0
WorkedWritings =
    writing_answer (ten_of 65535 1 0) 0 20
    ∷ writing_answer (take 9 (ten_of 1 1 0)) 0 20
    ∷ writing_answer (ten_of 1 1 0 ++ (0 ∷ [])) 0 20
    ∷ writing_answer (ten_of 65536 0 0) 1 19
    ∷ writing_answer (ten_of 1 65536 0) 1 19
    ∷ writing_answer (ten_of 1 0 0) 1 19
    ∷ writing_answer (ten_of 1 1 0) 1 19
    ∷ writing_answer (ten_of 1 1 0) 0 19
    ∷ []
    ≡ 20 ∷ 0x10002 ∷ 0x10002 ∷ 0x10002 ∷ 0x10002 ∷ 0x1000F ∷ 0x10010 ∷ 0x10002 ∷ []

-- the ten numbers of the packet that is worked out, in order
abbrev pub WorkedNumbers : Type 0
WorkedNumbers = header_numbers worked_header ≡ 0x0102 ∷ 0x0304 ∷ 0x0506 ∷ 0x0708090A ∷ 0x0B ∷ 0x00 ∷ 0x0C00 ∷ 0x0E ∷ 0x0F ∷ 0x0BFF ∷ []

-- reading the n bytes that an accepted writing answers gives the same ten numbers and samples
abbrev pub WrittenRead : Type 0
WrittenRead =
    (numbers : List ℕ) (samples : List ℤ) (packet : List ℕ) (n : ℕ) (header : List ℕ) (back : List ℤ) →
    Are16 samples → (write_call numbers samples packet).answer ≡ given n → 10 ≤ length header → length samples ≤ length back →
    read_call (take n (write_call numbers samples packet).buffer) header back
    ≡ record { answer = length samples; header = overwrite numbers header; samples = overwrite samples back }

-- writing the ten numbers and the n samples that an accepted reading answers gives the same bytes
abbrev pub ReadWritten : Type 0
ReadWritten =
    (packet header : List ℕ) (samples : List ℤ) (back : List ℕ) →
    AreBytes packet → (read_call packet header samples).answer < above16 → length packet ≤ length back →
    write_call (take 10 (read_call packet header samples).header) (take (read_call packet header samples).answer (read_call packet header samples).samples) back
    ≡ record { answer = given (length packet); buffer = overwrite packet back }
