-- The item at a walk's place as numbers, and the walk after it (include/dfb.h).
use Rattle.std.specs.Prelude.{ℕ, ◌^◌, Bool, cond, not, ◌||◌, List, [], ◌∷◌, leb, ltb, eqb, length, get_or, drop}
use Rattle.lists.specs.Tables.{overwrite}
use Rattle.refusal.specs.Outcome.{Outcome, given, refused}
use Rattle.walk.specs.declared.Walk.{Walk}
use Rattle.walk.specs.declared.Item.{Item}
use Rattle.walk.specs.Outcomes.{end, refused_at, Stepped, item, last, Advanced}
use Rattle.walk.specs.Walk.{next_at}
use Rattle.walk.specs.Items.{bytes_of}
use Rattle.dfb_refusals.specs.Numbers.{above63, outcome_number, with_offset}

-- ---- a walk as nine numbers: place, records passed, registers 0x30 to 0x36

abbrev pub place_of : List ℕ → ℕ
place_of numbers = get_or numbers 0 0

abbrev pub walk_of : List ℕ → Walk
walk_of numbers = record { at = place_of numbers; records = get_or numbers 1 0; registers = record { value = drop 2 numbers } }

abbrev pub walk_numbers : Walk → List ℕ
walk_numbers w = w.at ∷ w.records ∷ w.registers.value

-- ---- an item as five numbers: kind, offset, bytes, a, b

-- 1 command, 2 set, 3 second mark, 4 tick
abbrev pub kind_of : Item → ℕ
kind_of (Item.Command c) = 1
kind_of (Item.Waveform s) = 2
kind_of (Item.Spectra s) = 2
kind_of (Item.SecondMark s) = 3
kind_of Item.Tick = 4

-- a: the ID of a command, the APID of a set, the seconds of a second mark
abbrev pub a_of : Item → ℕ
a_of (Item.Command c) = c.id
a_of (Item.Waveform s) = s.apid
a_of (Item.Spectra s) = s.apid
a_of (Item.SecondMark s) = s
a_of Item.Tick = 0

-- b: the value that a command stored, the words of a set
abbrev pub b_of : Item → ℕ
b_of (Item.Command c) = c.stored
b_of (Item.Waveform s) = s.words
b_of (Item.Spectra s) = s.words
b_of (Item.SecondMark s) = 0
b_of Item.Tick = 0

abbrev pub item_numbers : ℕ → Item → List ℕ
item_numbers offset i = kind_of i ∷ offset ∷ bytes_of i ∷ a_of i ∷ b_of i ∷ []

-- the end, of kind 0 and no bytes, has the number of records for its a
abbrev pub end_numbers : ℕ → ℕ → List ℕ
end_numbers offset records = 0 ∷ offset ∷ 0 ∷ records ∷ 0 ∷ []

-- ---- a call

-- an answer, and walk and item list afterwards
pub record WalkLeft : Type 0 where
  pub answer : ℕ
  pub walk : List ℕ
  pub item : List ℕ

abbrev pub walk_left : ℕ → List ℕ → List ℕ → WalkLeft
walk_left answer walk list = record { answer = answer; walk = walk; item = list }

pub record WalkOutcome : Type 0 where
  pub answer : Outcome ℕ
  pub walk : List ℕ
  pub item : List ℕ

abbrev pub walk_number : WalkOutcome → WalkLeft
walk_number o = walk_left (outcome_number above63 o.answer) o.walk o.item

abbrev pub walk_refused : ℕ → List ℕ → List ℕ → WalkOutcome
walk_refused n walk list = record { answer = refused n; walk = walk; item = list }

-- 0 with five numbers at the front of the item list and the walk as given; 2 where the item list is under 5
abbrev pub numbers_put : List ℕ → List ℕ → List ℕ → List ℕ → WalkOutcome
numbers_put numbers later walk list =
    cond (ltb (length list) 5) (walk_refused 2 walk list) (record { answer = given 0; walk = later; item = overwrite numbers list })

-- an item begins at the walk's place, and the walk becomes the one after it
abbrev pub item_put : Item → Walk → List ℕ → List ℕ → WalkOutcome
item_put i later walk list = numbers_put (item_numbers (place_of walk) i) (walk_numbers later) walk list

-- at the end the walk stays
abbrev pub end_put : ℕ → List ℕ → List ℕ → WalkOutcome
end_put records walk list = numbers_put (end_numbers (place_of walk) records) walk walk list

-- by what stands at the walk's place: a refusal has its offset
abbrev pub step_answer : Stepped → Walk → List ℕ → List ℕ → WalkOutcome
step_answer (item i) later walk list = item_put i later walk list
step_answer (last (end records)) later walk list = end_put records walk list
step_answer (last (refused_at number offset)) later walk list = walk_refused (with_offset number offset) walk list

abbrev pub advance_answer : Advanced → List ℕ → List ℕ → WalkOutcome
advance_answer a walk list = step_answer a.step a.walk walk list

-- a log of 2 ^ 55 bytes or more, a walk that is not of nine numbers, or a place of 2 ^ 55 or more
abbrev pub is_outside : ℕ → List ℕ → Bool
is_outside bytes walk = leb (2 ^ 55) bytes || not (eqb (length walk) 9) || leb (2 ^ 55) (place_of walk)

-- refused by 2 for these, then as the walk is, then by 2 for an item list under 5
unfoldable pub walk_next : List ℕ → List ℕ → List ℕ → WalkOutcome
walk_next log walk list =
    cond (is_outside (length log) walk) (walk_refused 2 walk list)
    (advance_answer (next_at log (walk_of walk)) walk list)
