-- 02, ticket 4: calls as their caller makes them, each given the state and totals as the one before left them, and what the book takes of them.
use Rattle.std.specs.Prelude.{◌≡◌, ℕ, List, [], ◌∷◌, map, length, ℤ}
use Rattle.refusal.specs.Outcome.{Outcome, given}
use Rattle.refusal.specs.Outcome as outcome
use Rattle.words.specs.Sample.{Are16}
use Rattle.summed.specs.declared.SumState.{SumState}
use Rattle.summed.specs.Totals.{no_totals}
use Rattle.summed.specs.Call.{SumLeft, component_summed}
use Rattle.summed.specs.Book.{Book, Input, Reply, refused, kept, full, empty_book, after}

-- the totals that a call is given: the caller's, as the call before left them, or a list of a wrong length, which is refused by 2
pub data TotalsPassed : Type 0 where
  current : TotalsPassed
  wrong : (l : List ℕ) → ¬ (length l ≡ 2048) → TotalsPassed

pub record Call : Type 0 where
  pub passed : TotalsPassed
  pub component : ℕ
  pub first : ℕ
  pub second : ℕ
  pub pairs : List ℤ
  pub out : List ℕ

-- every number of the pairs has 16 bits, as those of the type do
abbrev pub Typed : List Call → Type 0
Typed [] = Unit {0}
Typed (c ∷ cs) = Are16 c.pairs × Typed cs

-- what the caller keeps between calls
pub record Memory : Type 0 where
  pub state : SumState
  pub totals : List ℕ

-- begun at component 0 with totals 0, whatever masks the state has
pub record Begun (x : Memory) : Type 0 where
  pub place : x.state.next ≡ 0
  pub totals : x.totals ≡ no_totals

abbrev pub totals_given : List ℕ → TotalsPassed → List ℕ
totals_given totals current = totals
totals_given totals (wrong l _) = l

-- what a call leaves, and what the caller then keeps
abbrev pub call_on : Memory → Call → SumLeft
call_on x c = component_summed x.state (totals_given x.totals c.passed) c.component c.first c.second c.pairs c.out

abbrev pub totals_after : List ℕ → TotalsPassed → List ℕ → List ℕ
totals_after totals current l = l
totals_after totals (wrong _ _) l = totals

abbrev pub after_call : Memory → Call → Memory
after_call x c = record { state = (call_on x c).state; totals = totals_after x.totals c.passed (call_on x c).totals }

abbrev pub after_calls : Memory → List Call → Memory
after_calls x [] = x
after_calls x (c ∷ cs) = after_calls (after_call x c) cs

-- what the calls of a list answer
abbrev pub answers : Memory → List Call → List (Outcome ℕ)
answers x [] = []
answers x (c ∷ cs) = (call_on x c).answer ∷ answers (after_call x c) cs

-- ---- what the book takes of a call, and what it holds after a list of calls

-- the caller's totals are 2,048 when a list of calls begins (`Begun`), and no call changes how many
abbrev pub length_given : TotalsPassed → ℕ
length_given current = 2048
length_given (wrong l _) = length l

abbrev pub input_of : Call → Input
input_of c =
    record { component = c.component; first = c.first; second = c.second; pairs = c.pairs; totals_length = length_given c.passed; out_length = length c.out }

abbrev pub book_after : List Call → Book
book_after calls = after empty_book (map input_of calls)

-- the answer that a reply of the book is
abbrev pub answer_of : Reply → Outcome ℕ
answer_of (refused n) = outcome.refused n
answer_of kept = given 0
answer_of (full b) = given 4096
