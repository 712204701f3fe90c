-- How a caller tells the answers apart from refusals, what an accepted and a refused call leave, and what calls one after the other give.
-- Assumes nothing.
use Rattle.std.specs.Prelude.{ℕ, ◌+◌, ◌*◌, ◌^◌, ◌≤◌, ◌<◌, ◌≡◌, List, [], ◌∷◌, ◌++◌, length, get_or, replicate}
use Rattle.lists.specs.Tables.{concat_to}
use Rattle.refusal.specs.Outcome.{given, refused}
use Rattle.walk.specs.declared.Walk.{Walk}
use Rattle.walk.specs.declared.Item.{Item}
use Rattle.walk.specs.Outcomes.{end, refused_at, item, last}
use Rattle.walk.specs.Walk.{next_at}
use Rattle.walk.specs.Walked.{walk_from, walked}
use Rattle.dfb_refusals.specs.Numbers.{above63, outcome_number, with_offset, ToldApart, Parts}
use Rattle.dfb_walk.specs.Next.{place_of, walk_of, walk_numbers, item_numbers, end_numbers, WalkLeft, walk_number, walk_refused, walk_next}
use Rattle.dfb_walk.specs.Calls.{called, walked_numbers}

abbrev pub WalkNextApart : Type 0
WalkNextApart = (log walk list : List ℕ) → ToldApart above63 (walk_next log walk list).answer

-- a refused call leaves walk and item list as they were
abbrev pub RefusedWalkUnchanged : Type 0
RefusedWalkUnchanged = (log walk list : List ℕ) (n : ℕ) → (walk_next log walk list).answer ≡ refused n → walk_next log walk list ≡ walk_refused n walk list

-- the log has fewer than 2 ^ 55 bytes, the walk nine numbers, and its place lies below 2 ^ 55
pub record Inside (log walk : List ℕ) : Type 0 where
  pub short : length log < 2 ^ 55
  pub nine : length walk ≡ 9
  pub near : place_of walk < 2 ^ 55

-- any other is refused by 2
abbrev pub OutsideRefused : Type 0
OutsideRefused = (log walk list : List ℕ) → ¬ Inside log walk → walk_next log walk list ≡ walk_refused 2 walk list

-- a refusal of the walk gives its number and its offset
abbrev pub WalkNextParts : Type 0
WalkNextParts =
    (log walk list : List ℕ) (number offset : ℕ) → Inside log walk → (next_at log (walk_of walk)).step ≡ last (refused_at number offset)
    → Parts (outcome_number above63 (walk_next log walk list).answer) number offset

-- a register over 16 bits is refused by 3 at the walk's place
abbrev pub WideRegisterRefused : Type 0
WideRegisterRefused =
    (log walk list : List ℕ) (n : ℕ) → Inside log walk → place_of walk ≤ length log → n < 7 → 2 ^ 16 ≤ get_or walk (2 + n) 0
    → walk_next log walk list ≡ walk_refused (with_offset 3 (place_of walk)) walk list

-- an item or the end, where the item list is under 5: refused by 2
abbrev pub ShortItemRefused : Type 0
ShortItemRefused =
    (log walk list : List ℕ) → Inside log walk → ((number offset : ℕ) → ¬ ((next_at log (walk_of walk)).step ≡ last (refused_at number offset)))
    → length list < 5 → walk_next log walk list ≡ walk_refused 2 walk list

-- what an accepted call leaves: the answer is 0, the walk has nine numbers, and five numbers stand at the front of the item list, whose rest stays
pub record Given (later numbers list : List ℕ) (left : WalkLeft) : Type 0 where
  pub zero : left.answer ≡ 0
  pub walk : left.walk ≡ later
  pub nine : length later ≡ 9
  pub same : length left.item ≡ length list
  pub front : (n : ℕ) → n < 5 → get_or left.item n 0 ≡ get_or numbers n 0
  pub rest : (n : ℕ) → 5 ≤ n → get_or left.item n 0 ≡ get_or list n 0

-- an item, and the walk after it
abbrev pub WalkNextGiven : Type 0
WalkNextGiven =
    (log walk list : List ℕ) (i : Item) (later : Walk) → Inside log walk → next_at log (walk_of walk) ≡ record { step = item i; walk = later } → 5 ≤ length list
    → Given (walk_numbers later) (item_numbers (place_of walk) i) list (walk_number (walk_next log walk list))

-- the end, where the walk stays
abbrev pub WalkEndGiven : Type 0
WalkEndGiven =
    (log walk list : List ℕ) (records : ℕ) → Inside log walk → (next_at log (walk_of walk)).step ≡ last (end records) → 5 ≤ length list
    → Given walk (end_numbers (place_of walk) records) list (walk_number (walk_next log walk list))

-- calls one after the other give the items of the walk from there on in order, each with its offset and bytes, and end as it ends. More calls
-- than the log has bytes are enough
abbrev pub ItemsFromWalk : Type 0
ItemsFromWalk =
    (k : ℕ) (log walk list : List ℕ) → Inside log walk → 5 ≤ length list → length log < k
    → called k log walk list ≡ walked_numbers (place_of walk) (walk_from log (walk_of walk))

-- from nine zeros on they give the items of the whole log
abbrev pub ItemsByCalls : Type 0
ItemsByCalls =
    (k : ℕ) (log list : List ℕ) → length log < 2 ^ 55 → 5 ≤ length list → length log < k
    → called k log (replicate 9 0) list ≡ walked_numbers 0 (walked log)

-- a log worked out: a command whose register stores the default source for 0x1F, the second 258, a tick, a set of E_SVY, one processor enabled
-- with 36 bands, and its SPEC set of 18 words
abbrev pub words_of : ℕ → ℕ → List ℕ
words_of apid n = concat_to n (λ i. 0x02 ∷ apid ∷ 0 ∷ 7 ∷ [])

abbrev pub whole_log : List ℕ
whole_log =
    (0x01 ∷ 0x31 ∷ 0x00 ∷ 0x1F ∷ []) ++ (0x03 ∷ 0 ∷ 0 ∷ 1 ∷ 2 ∷ []) ++ (0x04 ∷ []) ++ words_of 0x43 3 ++ (0x01 ∷ 0x30 ∷ 0x00 ∷ 0x20 ∷ [])
    ++ words_of 0x4E 18

abbrev pub WholeCase : Type 0
WholeCase =
    called 99 whole_log (replicate 9 0) (replicate 5 0)
    ≡ record {
      items =
          (1 ∷ 0 ∷ 4 ∷ 0x31 ∷ 0x12 ∷ []) ∷ (3 ∷ 4 ∷ 5 ∷ 258 ∷ 0 ∷ []) ∷ (4 ∷ 9 ∷ 1 ∷ 0 ∷ 0 ∷ []) ∷ (2 ∷ 10 ∷ 12 ∷ 0x43 ∷ 3 ∷ [])
          ∷ (1 ∷ 22 ∷ 4 ∷ 0x30 ∷ 0x20 ∷ []) ∷ (2 ∷ 26 ∷ 72 ∷ 0x4E ∷ 18 ∷ []) ∷ [];
      ending = given (0 ∷ 98 ∷ 0 ∷ 25 ∷ 0 ∷ []);
      walk = 98 ∷ 25 ∷ 0x20 ∷ 0x12 ∷ 0 ∷ 0 ∷ 0 ∷ 0 ∷ 0 ∷ [];
    }

-- a set that the log's end cuts
abbrev pub cut_log : List ℕ
cut_log = 0x04 ∷ words_of 0x43 2

abbrev pub CutCase : Type 0
CutCase =
    called 10 cut_log (replicate 9 0) (replicate 5 0)
    ≡ record { items = (4 ∷ 0 ∷ 1 ∷ 0 ∷ 0 ∷ []) ∷ []; ending = refused (9 * 256 + 5); walk = 1 ∷ 1 ∷ 0 ∷ 0 ∷ 0 ∷ 0 ∷ 0 ∷ 0 ∷ 0 ∷ [] }
