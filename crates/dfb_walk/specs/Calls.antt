-- Calls one after the other, each given walk and item list as the call before left them, until the end or a refusal.
use Rattle.std.specs.Prelude.{ℕ, zero, suc, ◌+◌, Bool, true, cond, List, [], ◌∷◌, eqb, get_or, take}
use Rattle.refusal.specs.Outcome.{Outcome, given, refused}
use Rattle.walk.specs.Items.{bytes_of}
use Rattle.walk.specs.Outcomes.{Ending, end, refused_at}
use Rattle.walk.specs.Walked.{Passed, Walked}
use Rattle.dfb_refusals.specs.Numbers.{with_offset}
use Rattle.dfb_walk.specs.Next.{walk_numbers, item_numbers, end_numbers, WalkOutcome, walk_next}

-- what a caller has: the five numbers of each item in order, those of the end or the refusal, and the walk
pub record Called : Type 0 where
  pub items : List (List ℕ)
  pub ending : Outcome (List ℕ)
  pub walk : List ℕ

-- ---- by calls

-- one call: its refusal, or the five numbers at the front of the item list
abbrev pub numbers_given : Outcome ℕ → List ℕ → Outcome (List ℕ)
numbers_given (given n) list = given (take 5 list)
numbers_given (refused n) list = refused n

-- a refusal, or numbers of kind 0
abbrev pub is_last : Outcome (List ℕ) → Bool
is_last (given numbers) = eqb (get_or numbers 0 0) 0
is_last (refused n) = true

abbrev pub item_called : Outcome (List ℕ) → Called → Called
item_called (given numbers) rest = record { items = numbers ∷ rest.items; ending = rest.ending; walk = rest.walk }
item_called (refused n) rest = rest

-- what a call leaves, and `rest` for the calls after it
abbrev pub called_on : WalkOutcome → (List ℕ → List ℕ → Called) → Called
called_on o rest =
    cond (is_last (numbers_given o.answer o.item)) (record { items = []; ending = numbers_given o.answer o.item; walk = o.walk })
    (item_called (numbers_given o.answer o.item) (rest o.walk o.item))

-- so many calls at most; without a call there are no numbers
unfoldable pub called : ℕ → List ℕ → List ℕ → List ℕ → Called
called zero log walk list = record { items = []; ending = given []; walk = walk }
called (suc k) log walk list = called_on (walk_next log walk list) (called k log)

-- ---- by the walk of the log

-- the numbers of items that follow one another from an offset on: each begins where the one before it ends
abbrev pub numbers_from : ℕ → List Passed → List (List ℕ)
numbers_from offset [] = []
numbers_from offset (p ∷ ps) = item_numbers offset p.item ∷ numbers_from (offset + bytes_of p.item) ps

abbrev pub ending_numbers : ℕ → Ending → Outcome (List ℕ)
ending_numbers offset (end records) = given (end_numbers offset records)
ending_numbers offset (refused_at number at) = refused (with_offset number at)

-- the items of a walk that began at an offset, how it ended, and the walk where it ended
abbrev pub walked_numbers : ℕ → Walked → Called
walked_numbers offset w =
    record { items = numbers_from offset w.items; ending = ending_numbers w.walk.at w.ending; walk = walk_numbers w.walk }
