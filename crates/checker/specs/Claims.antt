-- What is proved of the check of every list (02, ticket 6), in the ticket's words and over the list of records: which lists are accepted,
-- and that the offset of a refusal is that of the first record at fault.
use Rattle.std.specs.Prelude.{Bool, true, false, ◌||◌, List, [], ◌∷◌, ◌++◌, ◌↔◌, ◌⊎◌, ◌≡◌, ℕ, ◌+◌, ◌^◌, ◌≤◌, ◌<◌, eqb, length, get_or, take}
use Rattle.refusal.specs.Outcome.{given}
use Rattle.registers.specs.declared.Registers.{Registers}
use Rattle.registers.specs.Store.{enable_of, navg_of, ncad_of, stored}
use Rattle.registers.specs.Access.{is_id, register, at_reset, stored_to}
use Rattle.board_log.specs.declared.Command.{Command}
use Rattle.board_log.specs.declared.Record.{Record}
use Rattle.board_log.specs.Format.{is_kind, decode}
use Rattle.board_log.specs.Cursor.{found, read_at, next_place}
use Rattle.board_log.specs.History.{ReadsAs}
use Rattle.checker.specs.Check.{accepted, refused_at, commands_checked}

-- ---- the rules of the profile, over a list of records

-- a command or a second mark
abbrev pub in_profile : Record → Bool
in_profile (Record.Command c) = true
in_profile (Record.SecondMark s) = true
in_profile (Record.Word w) = false
in_profile Record.Tick = false

-- a write stores exactly what was sent
pub record StoresSent (c : Command) : Type 0 where
  pub known : is_id c.id ≡ true
  pub same : stored c.id c.information ≡ c.information

-- the registers that the commands of a list leave: from some registers on, and from reset
abbrev pub registers_from : Registers → List Record → Registers
registers_from r [] = r
registers_from r (Record.Command c ∷ rs) = registers_from (stored_to r c.id c.information) rs
registers_from r (Record.Word w ∷ rs) = registers_from r rs
registers_from r (Record.SecondMark s ∷ rs) = registers_from r rs
registers_from r (Record.Tick ∷ rs) = registers_from r rs

unfoldable pub registers_after : List Record → Registers
registers_after rs = registers_from at_reset rs

-- no processor is enabled, or N ≤ C: the enable bit of each register is 0, or 2 to NAVG is at most 2 to NCAD in 0x30, which is register 0
abbrev pub PeriodKept : Registers → Type 0
PeriodKept r = ((n : ℕ) → n < 7 → enable_of (register r n) ≡ 0) ⊎ (2 ^ navg_of (register r 0) ≤ 2 ^ ncad_of (register r 0))

-- wherever the list is cut: nothing but commands and second marks; every write stores exactly what was sent; seconds never fall; and after
-- each second mark no processor is enabled or N ≤ C
pub record KeepsRules (rs : List Record) : Type 0 where
  pub kinds : (before later : List Record) (r : Record) → rs ≡ before ++ (r ∷ later) → in_profile r ≡ true
  pub writes : (before later : List Record) (c : Command) → rs ≡ before ++ (Record.Command c ∷ later) → StoresSent c
  pub seconds : (before between later : List Record) (s t : ℕ) → rs ≡ before ++ (Record.SecondMark s ∷ (between ++ (Record.SecondMark t ∷ later))) → s ≤ t
  pub marks : (before later : List Record) (s : ℕ) → rs ≡ before ++ (Record.SecondMark s ∷ later) → PeriodKept (registers_after before)

-- ---- accepted exactly

-- the list reads as records that keep the rules, at the end no processor is enabled or N ≤ C, and the registers are those that they leave
pub record Keeps (log : List ℕ) (r : Registers) : Type 0 where
  pub records : List Record
  pub read : ReadsAs log 0 records
  pub rules : KeepsRules records
  pub ended : PeriodKept (registers_after records)
  pub left : r ≡ registers_after records

abbrev pub AcceptedExactly : Type 0
AcceptedExactly = (log : List ℕ) (r : Registers) → (commands_checked log ≡ record { judged = accepted; registers = r }) ↔ Keeps log r

-- ---- the first record at fault

-- from a place on, the list reads as the records up to another place
pub data ReadsTo (log : List ℕ) : ℕ → List Record → ℕ → Type 0 where
  none : {at : ℕ} → ReadsTo log at [] at
  more : {at place to : ℕ} {r : Record} {rs : List Record} → read_at log at ≡ given (found r place) → ReadsTo log place rs to → ReadsTo log at (r ∷ rs) to

-- the kind that stands at a place, and a record that stands there whole, whatever its ID or APID
abbrev pub kind_at : List ℕ → ℕ → ℕ
kind_at log at = get_or log at 0

pub record Stands (log : List ℕ) (at : ℕ) (r : Record) : Type 0 where
  pub kind : is_kind (kind_at log at) ≡ true
  pub whole : next_place at (kind_at log at) ≤ length log
  pub is : decode log (at + 1) (kind_at log at) ≡ r

-- the second t is not smaller than that of any mark among the records
abbrev pub NotFalling : List Record → ℕ → Type 0
NotFalling rs t = (before later : List Record) (s : ℕ) → rs ≡ before ++ (Record.SecondMark s ∷ later) → s ≤ t

-- what stands at a place offends by a number, after the records before it: 9 and 10 first, then 18, 1, 20 for a command, 19, 21 for a mark;
-- 21 at the end
pub data Offends (log : List ℕ) (at : ℕ) (rs : List Record) : ℕ → Type 0 where
  unknown-kind : at < length log → is_kind (kind_at log at) ≡ false → Offends log at rs 9
  body-cut : at < length log → is_kind (kind_at log at) ≡ true → length log < next_place at (kind_at log at) → Offends log at rs 10
  other-kind : {r : Record} → Stands log at r → in_profile r ≡ false → Offends log at rs 18
  unknown-id : {c : Command} → Stands log at (Record.Command c) → is_id c.id ≡ false → Offends log at rs 1
  altered : {c : Command} → Stands log at (Record.Command c) → is_id c.id ≡ true → ¬ (stored c.id c.information ≡ c.information) → Offends log at rs 20
  falls : {s t : ℕ} (before later : List Record) → Stands log at (Record.SecondMark t) → rs ≡ before ++ (Record.SecondMark s ∷ later) → t < s → Offends log at rs 19
  over-period : {t : ℕ} → Stands log at (Record.SecondMark t) → NotFalling rs t → ¬ PeriodKept (registers_after rs) → Offends log at rs 21
  over-period-at-end : at ≡ length log → ¬ PeriodKept (registers_after rs) → Offends log at rs 21

-- the list reads up to the offset as records that keep the rules, so nothing before it offends; what stands there offends by the number; and
-- the registers are those that the records leave
pub record FirstFault (log : List ℕ) (number offset : ℕ) (r : Registers) : Type 0 where
  pub records : List Record
  pub read : ReadsTo log 0 records offset
  pub rules : KeepsRules records
  pub fault : Offends log offset records number
  pub left : r ≡ registers_after records

abbrev pub RefusedExactly : Type 0
RefusedExactly =
    (log : List ℕ) (number offset : ℕ) (r : Registers)
    → (commands_checked log ≡ record { judged = refused_at number offset; registers = r }) ↔ FirstFault log number offset r

-- the refusals of a check: their numbers, and their offsets, which are at most the list's length
abbrev pub refuses_list : ℕ → Bool
refuses_list n = eqb n 9 || eqb n 10 || eqb n 18 || eqb n 1 || eqb n 20 || eqb n 19 || eqb n 21

pub record RefusesWithin (log : List ℕ) (number offset : ℕ) : Type 0 where
  pub listed : refuses_list number ≡ true
  pub inside : offset ≤ length log

abbrev pub CheckRefusals : Type 0
CheckRefusals = (log : List ℕ) (number offset : ℕ) → (commands_checked log).judged ≡ refused_at number offset → RefusesWithin log number offset

-- ---- two lists: second 7; a command with N = 2 and C = 1; one that mends C; second 7 again. Without the last two records the end is at fault
abbrev pub mended_list : List ℕ
mended_list =
    0x03 ∷ 0x00 ∷ 0x00 ∷ 0x00 ∷ 0x07 ∷ 0x01 ∷ 0x30 ∷ 0x01 ∷ 0x20 ∷ 0x01 ∷ 0x30 ∷ 0x11 ∷ 0x20 ∷ 0x03 ∷ 0x00 ∷ 0x00 ∷ 0x00 ∷ 0x07 ∷ []

abbrev pub MendedCase : Type 0
MendedCase = commands_checked mended_list ≡ record { judged = accepted; registers = record { value = 0x1120 ∷ 0 ∷ 0 ∷ 0 ∷ 0 ∷ 0 ∷ 0 ∷ [] } }

abbrev pub EndCase : Type 0
EndCase =
    commands_checked (take 9 mended_list) ≡ record { judged = refused_at 21 9; registers = record { value = 0x0120 ∷ 0 ∷ 0 ∷ 0 ∷ 0 ∷ 0 ∷ 0 ∷ [] } }
