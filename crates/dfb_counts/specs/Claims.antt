-- How a caller tells the answers apart from refusals, and what an accepted and a refused call leave. Assumes nothing.
use Rattle.std.specs.Prelude.{ℕ, ◌+◌, ◌^◌, ◌≤◌, ◌<◌, ◌≡◌, ◌&&◌, List, ltb, length, get_or}
use Rattle.refusal.specs.Outcome.{refused, is_given}
use Rattle.registers.specs.Access.{register}
use Rattle.walk.specs.Outcomes.{end, refused_at}
use Rattle.counts.specs.declared.Tally.{Tally}
use Rattle.counts.specs.Counts.{count_at, sets_counted}
use Rattle.counting.specs.Writer.{Call, counted}
use Rattle.dfb_refusals.specs.Numbers.{above63, outcome_number, ToldApart, Parts}
use Rattle.dfb_counts.specs.Calls.{tally_lists, lists_left, call_left, are_seven, counted_call, count_answer}

-- ---- a call of the writer; a list in memory has fewer than 2 ^ 63 bytes

abbrev pub CountedCallApart : Type 0
CountedCallApart =
    (log : List ℕ) (used : ℕ) (counts registers : List ℕ) (c : Call) → length log < 2 ^ 63
    → ltb (counted_call log used counts registers c).lists.answer above63 ≡ (are_seven counts registers && is_given (counted log used (tally_lists counts registers) c).answer)

-- lists of another length than 7 are refused by 2
abbrev pub OtherLengthRefused : Type 0
OtherLengthRefused =
    (log : List ℕ) (used : ℕ) (counts registers : List ℕ) (c : Call) → ¬ ((length counts ≡ 7) × (length registers ≡ 7))
    → counted_call log used counts registers c ≡ call_left log (lists_left (above63 + 2) counts registers)

-- a refused call leaves log and lists as they were
abbrev pub RefusedCallUnchanged : Type 0
RefusedCallUnchanged =
    (log : List ℕ) (used : ℕ) (counts registers : List ℕ) (c : Call) (n : ℕ) → length counts ≡ 7 → length registers ≡ 7
    → (counted log used (tally_lists counts registers) c).answer ≡ refused n
    → counted_call log used counts registers c ≡ call_left log (lists_left (above63 + n) counts registers)

-- ---- the count of a log

abbrev pub CountSetsApart : Type 0
CountSetsApart = (log counts registers : List ℕ) → ToldApart above63 (count_answer log counts registers).answer

-- a refused call leaves the lists as they were
abbrev pub RefusedCountUnchanged : Type 0
RefusedCountUnchanged =
    (log counts registers : List ℕ) (n : ℕ) → (count_answer log counts registers).answer ≡ refused n
    → count_answer log counts registers ≡ record { answer = refused n; counts = counts; registers = registers }

-- a log that is walked to its end, where a list is under 7: refused by 2
abbrev pub ShortListRefused : Type 0
ShortListRefused =
    (log counts registers : List ℕ) (records : ℕ) → length log < 2 ^ 55 → (sets_counted log).ending ≡ end records → ¬ ((7 ≤ length counts) × (7 ≤ length registers))
    → (count_answer log counts registers).answer ≡ refused 2

-- a log that is walked to its end, with room for seven numbers in both lists: the answer is 0, count and register n stand at place n, and the
-- rest stays
pub record Front (values : ℕ → ℕ) (list after : List ℕ) : Type 0 where
  pub same : length after ≡ length list
  pub front : (n : ℕ) → n < 7 → get_or after n 0 ≡ values n
  pub rest : (n : ℕ) → 7 ≤ n → get_or after n 0 ≡ get_or list n 0

pub record Given (t : Tally) (counts registers counts' registers' : List ℕ) (answer : ℕ) : Type 0 where
  pub zero : answer ≡ 0
  pub counted : Front (count_at t.counts) counts counts'
  pub held : Front (register t.registers) registers registers'

abbrev pub CountSetsGiven : Type 0
CountSetsGiven =
    (log counts registers : List ℕ) (records : ℕ) → length log < 2 ^ 55 → (sets_counted log).ending ≡ end records → 7 ≤ length counts → 7 ≤ length registers
    → Given (sets_counted log).tally counts registers (count_answer log counts registers).counts (count_answer log counts registers).registers
    (outcome_number above63 (count_answer log counts registers).answer)

-- a refusal of the walk gives its number and its offset
abbrev pub CountSetsParts : Type 0
CountSetsParts =
    (log counts registers : List ℕ) (number offset : ℕ) → length log < 2 ^ 55 → (sets_counted log).ending ≡ refused_at number offset
    → Parts (outcome_number above63 (count_answer log counts registers).answer) number offset
