-- For contracts of private functions only.
use Rattle.std.specs.Prelude.{ℕ, Result}
use Rattle.refusal.specs.declared.Refusal.{Refusal}
use Rattle.refusal.specs.Outcome.{Outcome, given, refused, answer_outcome}
use Rattle.registers.specs.declared.Registers.{Registers}
use Rattle.board_log.specs.declared.Record.{Record}
use Rattle.board_log.specs.Cursor.{Found}
use Rattle.checker.specs.declared.Standing.{Standing}
use Rattle.checker.specs.Check.{Judged, refused_at, check_record, after_record, end_judgement, refusal_of_read}

-- what a record leaves: a refusal leaves what stood before it
pub record Kept : Type 0 where
  pub answer : Outcome (Unit {0})
  pub standing : Standing

abbrev pub kept_left : Result (Unit {0}) Refusal → Standing → Kept
kept_left r s = record { answer = answer_outcome r; standing = s }

abbrev pub kept_by : Outcome (Unit {0}) → Standing → Standing → Kept
kept_by (given k) before later = record { answer = given k; standing = later }
kept_by (refused n) before later = record { answer = refused n; standing = before }

abbrev pub kept : Standing → Record → Kept
kept s r = kept_by (check_record s r) s (after_record s r)

-- a read that gave no record
abbrev pub judgement_without_record : Outcome Found → Registers → ℕ → Judged
judgement_without_record (given f) r at = end_judgement r at
judgement_without_record (refused n) r at = refused_at (refusal_of_read n) at
