-- Append by a kind, which the log has in another form: one record from numbers.
use Rattle.std.specs.Prelude.{ℕ, Bool, cond, not, ◌&&◌, List, leb, ltb, eqb}
use Rattle.refusal.specs.Outcome.{Outcome, given, refused, Filled, unfilled}
use Rattle.registers.specs.Access.{is_id}
use Rattle.words.specs.Words.{is_apid}
use Rattle.board_log.specs.declared.Record.{Record}
use Rattle.board_log.specs.declared.Record.TheVariants.{Command, Word, SecondMark, Tick}
use Rattle.board_log.specs.Format.{is_kind}
use Rattle.board_log.specs.Append.{append_outcome}

-- the record of kind 1 to 4: a is the ID or the APID, b the 16 bits or the seconds
abbrev pub record_of : ℕ → ℕ → ℕ → Record
record_of kind a b =
    cond (eqb kind 0x01) (Command (record { id = a; information = b }))
    (cond (eqb kind 0x02) (Word (record { apid = a; bits = b }))
    (cond (eqb kind 0x03) (SecondMark b)
    Tick))

-- a command or a word whose b is over 16 bits
abbrev pub is_wide : ℕ → ℕ → Bool
is_wide kind b = leb kind 0x02 && ltb 0xFFFF b

-- its refusal: 1 or 4 by the ID or the APID, then 2
abbrev pub wide_refusal : ℕ → ℕ → ℕ
wide_refusal kind a = cond (eqb kind 0x01) (cond (is_id a) 2 1) (cond (is_apid a) 2 4)

-- the record of a kind, or that refusal
abbrev pub narrow_record : ℕ → ℕ → ℕ → Outcome Record
narrow_record kind a b = cond (is_wide kind b) (refused (wide_refusal kind a)) (given (record_of kind a b))

-- append: refused by 9 for another kind, then as the log's append, and by 2 also for a b over 16 bits
unfoldable pub append_kind : List ℕ → ℕ → ℕ → ℕ → ℕ → Filled ℕ
append_kind log used kind a b =
    cond (not (is_kind kind)) (unfilled 9 log)
    (cond (is_wide kind b) (unfilled (wide_refusal kind a) log)
    (append_outcome log used (record_of kind a b)))
