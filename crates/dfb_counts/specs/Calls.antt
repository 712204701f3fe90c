-- What each function of the C interface of counted logs leaves (include/dfb.h). Counts and registers are lists of seven numbers.
use Rattle.std.specs.Prelude.{ℕ, ◌+◌, ◌^◌, Bool, cond, not, ◌&&◌, List, leb, eqb, length}
use Rattle.lists.specs.Tables.{overwrite}
use Rattle.refusal.specs.Outcome.{Outcome, given, refused}
use Rattle.walk.specs.Outcomes.{Ending, end, refused_at}
use Rattle.counts.specs.declared.Tally.{Tally}
use Rattle.counts.specs.Counts.{sets_counted}
use Rattle.counting.specs.Writer.{Call, CountedOutcome, counted}
use Rattle.dfb_refusals.specs.Numbers.{above63, outcome_number, with_offset}

-- counts and registers as a caller holds them
abbrev pub tally_lists : List ℕ → List ℕ → Tally
tally_lists counts registers = record { counts = record { value = counts }; registers = record { value = registers } }

-- an answer and the two lists afterwards
pub record ListsLeft : Type 0 where
  pub answer : ℕ
  pub counts : List ℕ
  pub registers : List ℕ

abbrev pub lists_left : ℕ → List ℕ → List ℕ → ListsLeft
lists_left answer counts registers = record { answer = answer; counts = counts; registers = registers }

-- ---- a call of the counting writer

-- what it leaves: the log, and the answer with the lists
pub record CountedCall : Type 0 where
  pub log : List ℕ
  pub lists : ListsLeft

abbrev pub call_left : List ℕ → ListsLeft → CountedCall
call_left log lists = record { log = log; lists = lists }

-- the new number of bytes used or the refusal, and the lists hold the counts and registers; a refusal leaves them as they were
-- (`RefusedCallUnchanged` of Claims.antt)
abbrev pub counted_left : CountedOutcome → CountedCall
counted_left o = call_left o.log (lists_left (outcome_number above63 o.answer) o.tally.counts.value o.tally.registers.value)

-- both lists have seven numbers
abbrev pub are_seven : List ℕ → List ℕ → Bool
are_seven counts registers = eqb (length counts) 7 && eqb (length registers) 7

-- lists of another length are refused by 2 before anything
unfoldable pub counted_call : List ℕ → ℕ → List ℕ → List ℕ → Call → CountedCall
counted_call log used counts registers c =
    cond (not (are_seven counts registers)) (call_left log (lists_left (above63 + 2) counts registers))
    (counted_left (counted log used (tally_lists counts registers) c))

-- ---- the count of a log

pub record CountOutcome : Type 0 where
  pub answer : Outcome ℕ
  pub counts : List ℕ
  pub registers : List ℕ

abbrev pub count_number : CountOutcome → ListsLeft
count_number o = lists_left (outcome_number above63 o.answer) o.counts o.registers

abbrev pub count_refused : ℕ → List ℕ → List ℕ → CountOutcome
count_refused n counts registers = record { answer = refused n; counts = counts; registers = registers }

-- 0 with the counts and registers at the fronts of the lists, or 2 where a list is under 7
abbrev pub tally_put : Tally → List ℕ → List ℕ → CountOutcome
tally_put t counts registers =
    cond (not (leb 7 (length counts) && leb 7 (length registers))) (count_refused 2 counts registers)
    (record { answer = given 0; counts = overwrite t.counts.value counts; registers = overwrite t.registers.value registers })

-- by how the walk ends: a refusal has its offset
abbrev pub ending_answer : Ending → Tally → List ℕ → List ℕ → CountOutcome
ending_answer (end records) t counts registers = tally_put t counts registers
ending_answer (refused_at number offset) t counts registers = count_refused (with_offset number offset) counts registers

-- refused by 2 for a log of 2 ^ 55 bytes or more, then as the walk is
unfoldable pub count_answer : List ℕ → List ℕ → List ℕ → CountOutcome
count_answer log counts registers =
    cond (leb (2 ^ 55) (length log)) (count_refused 2 counts registers)
    (ending_answer (sets_counted log).ending (sets_counted log).tally counts registers)
