-- The numbers that the C interface answers (include/dfb.h): a value, or a base plus a refusal's number, which no value of that function
-- equals.
use Rattle.std.specs.Prelude.{ℕ, ◌+◌, ◌-◌, ◌*◌, ◌/◌, ◌%◌, ◌^◌, ◌<◌, ◌≡◌, cond, List, ltb, length}
use Rattle.lists.specs.Tables.{overwrite}
use Rattle.refusal.specs.Outcome.{Outcome, given, refused, is_given, Filled, unfilled}

-- where refusals begin: above 8-bit values, above 16-bit values, and at the highest bit of a 64-bit answer
abbrev pub above8 : ℕ
above8 = 0x100

abbrev pub above16 : ℕ
above16 = 0x10000

abbrev pub above63 : ℕ
above63 = 2 ^ 63

-- a value, or a refusal's number above the base
abbrev pub outcome_number : ℕ → Outcome ℕ → ℕ
outcome_number base (given v) = v
outcome_number base (refused n) = base + n

-- a refusal that has an offset: its number in the lower eight bits, the offset above them
abbrev pub with_offset : ℕ → ℕ → ℕ
with_offset number offset = offset * 256 + number

-- the answer of 64 bits for such a refusal: its lower eight bits are the number, and those from 2 ^ 8 to 2 ^ 62 the offset
pub record Parts (answer number offset : ℕ) : Type 0 where
  pub fits : answer < 2 ^ 64
  pub low : answer % 256 ≡ number
  pub high : (answer - above63) / 256 ≡ offset

-- what a call leaves that writes one list: its answer, and the list afterwards
pub record FilledNumber (A : Type 0) : Type 0 where
  pub answer : ℕ
  pub buffer : List A

abbrev pub filled_number : {A : Type 0} → ℕ → Filled A → FilledNumber A
filled_number base f = record { answer = outcome_number base f.answer; buffer = f.buffer }

-- a caller tells an accepted answer from a refusal by the base
abbrev pub ToldApart : ℕ → Outcome ℕ → Type 0
ToldApart base o = ltb (outcome_number base o) base ≡ is_given o

-- values that a call writes to a list, and the number that it answers with them
pub record Values (A : Type 0) : Type 0 where
  pub number : ℕ
  pub values : List A

-- the values stand at the front of the list, and their number is the answer; refused by 2 where the list has no room for them
abbrev pub values_put : {A : Type 0} → Values A → List A → Filled A
values_put v list =
    cond (ltb (length list) (length v.values)) (unfilled 2 list) (record { answer = given v.number; buffer = overwrite v.values list })

-- the values of what is given are put; refused as it is, then by 2
abbrev pub values_written : {A B : Type 0} → (B → Values A) → Outcome B → List A → Filled A
values_written values_of (given b) list = values_put (values_of b) list
values_written values_of (refused n) list = unfilled n list
