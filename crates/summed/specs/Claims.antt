-- 02, ticket 4: what is claimed of summed spectra. Assumes nothing.
use Rattle.std.specs.Prelude.{◌≡◌, ℕ, zero, suc, ◌+◌, ◌*◌, ◌^◌, ◌<◌, ◌≤◌, true, false, cond, List, [], ◌∷◌, ◌++◌, map, length, replicate, ℤ, pos, negsuc, slice_index}
use Rattle.std.proofs.Common.{arith}
use Rattle.lists.specs.Tables.{concat_to, overwrite}
use Rattle.refusal.specs.Outcome.{Outcome, given, refused, is_given}
use Rattle.codes.specs.Code.{sum_code, sum_value}
use Rattle.codes.specs.Expanded.{sum_expanded}
use Rattle.codes.specs.Claims.{SumBounds}
use Rattle.words.specs.Words.{pair_bytes, pair_at}
use Rattle.summed.specs.declared.SumState.{SumState}
use Rattle.summed.specs.Component.{power, has_component}
use Rattle.summed.specs.Totals.{no_totals, counted_before}
use Rattle.summed.specs.Call.{start_state, SumLeft, sum_refused, in_force, component_summed}
use Rattle.summed.specs.Book.{Book, Reply, kept, full, exact_sum, entry}
use Rattle.summed.specs.Book as book
use Rattle.summed.specs.History.{TotalsPassed, current, wrong, Call, Typed, Memory, Begun, call_on, after_call, after_calls, answers, input_of, book_after, answer_of}

-- ---- whole lists of calls, refused ones among them

-- a code is the sum code of the exact sum; expanded it is at most that sum, equal to it under 1024, and otherwise short by less than a 513th part
-- of it (`SumBounds`, codes)
pub record CodeOf (sum code : ℕ) : Type 0 where
  pub own : code ≡ sum_code sum
  pub expanded : sum_expanded code ≡ given (sum_value code)
  pub bounds : SumBounds sum (sum_value code)

-- the codes of a run of 1,024 exact sums, high byte first
abbrev pub run_codes : ℕ → List (List ℤ) → List ℕ
run_codes mask components = concat_to 1024 (λ k. pair_bytes (sum_code (exact_sum mask components k)))

-- the output after the book's eighth component: two runs of codes, the first mask's first, and all behind them as it was
pub record CodesWritten (b : Book) (before out : List ℕ) : Type 0 where
  pub written : out ≡ overwrite (run_codes b.first b.components ++ run_codes b.second b.components) before
  pub first_run : (k : ℕ) → k < 1024 → CodeOf (exact_sum b.first b.components k) (pair_at out (2 * k))
  pub second_run : (k : ℕ) → k < 1024 → CodeOf (exact_sum b.second b.components k) (pair_at out (2048 + 2 * k))

-- output is written exactly at the book's eighth
abbrev pub OutAfter : Reply → List ℕ → List ℕ → Type 0
OutAfter (book.refused n) before out = out ≡ before
OutAfter kept before out = out ≡ before
OutAfter (full b) before out = CodesWritten b before out

-- the totals are the exact sums of the book so far, the first mask's first
pub record TotalsOf (b : Book) (totals : List ℕ) : Type 0 where
  pub totals-length : length totals ≡ 2048
  pub first_run : (k : ℕ) → k < 1024 → slice_index totals k ≡ exact_sum b.first b.components k
  pub second_run : (k : ℕ) → k < 1024 → slice_index totals (1024 + k) ≡ exact_sum b.second b.components k

-- what the caller keeps is the book's: the place is the number of components kept, and from component 0 on the masks are the book's
pub record KeepsBook (x : Memory) (b : Book) : Type 0 where
  pub place : x.state.next ≡ length b.components
  pub masks : 0 < length b.components → (x.state.first ≡ b.first) × (x.state.second ≡ b.second)
  pub totals : TotalsOf b x.totals

-- a call that the book does not refuse
abbrev pub Accepted : Reply → Type 0
Accepted (book.refused n) = ⊥
Accepted kept = Unit {0}
Accepted (full b) = Unit {0}

-- a call beside the book before it; after an accepted one the masks are the book's, after the eighth too
pub record Agrees (x : Memory) (b : Book) (c : Call) : Type 0 where
  pub answer : (call_on x c).answer ≡ answer_of (entry b (input_of c)).reply
  pub out : OutAfter (entry b (input_of c)).reply c.out (call_on x c).out
  pub keeps : KeepsBook (after_call x c) (entry b (input_of c)).next
  pub masks : Accepted (entry b (input_of c)).reply →
      ((after_call x c).state.first ≡ (entry b (input_of c)).next.first) × ((after_call x c).state.second ≡ (entry b (input_of c)).next.second)

-- begun at component 0 with totals 0, after any calls, every call agrees with the book
abbrev pub SumsFollow : Type 0
SumsFollow =
    (x : Memory) (calls : List Call) (c : Call) → Begun x → Typed (calls ++ (c ∷ [])) → Agrees (after_calls x calls) (book_after calls) c

-- no such call is refused by 3
abbrev pub NeverUnsound : Type 0
NeverUnsound = (x : Memory) (calls : List Call) (c : Call) → Begun x → Typed (calls ++ (c ∷ [])) → ¬ ((call_on (after_calls x calls) c).answer ≡ refused 3)

-- ---- what no call depends on

-- a component outside both masks may hold anything: no answer, state, total or byte depends on it, and so no later call either
abbrev pub OutsideComponents : Type 0
OutsideComponents =
    (s : SumState) (totals : List ℕ) (n first second : ℕ) (ps qs : List ℤ) (out : List ℕ) → length ps ≡ length qs →
    has_component (in_force s n first second).first n ≡ false → has_component (in_force s n first second).second n ≡ false →
    component_summed s totals n first second ps out ≡ component_summed s totals n first second qs out

-- masks that come later than component 0 are ignored
abbrev pub LaterMasksIgnored : Type 0
LaterMasksIgnored =
    (s : SumState) (totals : List ℕ) (n first second first' second' : ℕ) (pairs : List ℤ) (out : List ℕ) → 0 < s.next →
    component_summed s totals n first second pairs out ≡ component_summed s totals n first' second' pairs out

-- where component 0 is next, the masks of the state are not looked at: all is the same but for the state that a refused call hands back
pub record SameResult (a b : SumLeft) : Type 0 where
  pub answer : a.answer ≡ b.answer
  pub state : is_given a.answer ≡ true → a.state ≡ b.state
  pub totals : a.totals ≡ b.totals
  pub out : a.out ≡ b.out

abbrev pub StartMasksIgnored : Type 0
StartMasksIgnored =
    (s s' : SumState) (totals : List ℕ) (n first second : ℕ) (pairs : List ℤ) (out : List ℕ) → s.next ≡ 0 → s'.next ≡ 0 →
    SameResult (component_summed s totals n first second pairs out) (component_summed s' totals n first second pairs out)

-- ---- refusals

-- a refused call leaves state, totals and output as they were
abbrev pub RefusedUnchanged : Type 0
RefusedUnchanged =
    (s : SumState) (totals : List ℕ) (n first second : ℕ) (pairs : List ℤ) (out : List ℕ) (m : ℕ) →
    (component_summed s totals n first second pairs out).answer ≡ refused m → component_summed s totals n first second pairs out ≡ sum_refused m s totals out

-- the lists have their lengths; the place and each total are sound
pub record RightLengths (totals : List ℕ) (pairs : List ℤ) (out : List ℕ) : Type 0 where
  pub totals-length : length totals ≡ 2048
  pub pairs-length : length pairs ≡ 2048
  pub room : 4096 ≤ length out

pub record Sound (s : SumState) (totals : List ℕ) : Type 0 where
  pub place : s.next ≤ 7
  pub first_run : (k : ℕ) → k < 1024 → slice_index totals k ≤ counted_before s.first s.next * 2 ^ 31
  pub second_run : (k : ℕ) → k < 1024 → slice_index totals (1024 + k) ≤ counted_before s.second s.next * 2 ^ 31

-- 2, then 3, then 17, each exactly where it is given
pub record InOrder (s : SumState) (totals : List ℕ) (n : ℕ) (pairs : List ℤ) (out : List ℕ) (answer : Outcome ℕ) : Type 0 where
  pub by_2 : ¬ RightLengths totals pairs out → answer ≡ refused 2
  pub by-3 : RightLengths totals pairs out → ¬ Sound s totals → answer ≡ refused 3
  -- a component over 7 too, as a sound place is not over 7
  pub by-17 : RightLengths totals pairs out → Sound s totals → ¬ (n ≡ s.next) → answer ≡ refused 17
  pub earlier : RightLengths totals pairs out → Sound s totals → n ≡ s.next → n < 7 → answer ≡ given 0
  pub eighth : RightLengths totals pairs out → Sound s totals → n ≡ s.next → n ≡ 7 → answer ≡ given 4096

abbrev pub RefusalsInOrder : Type 0
RefusalsInOrder =
    (s : SumState) (totals : List ℕ) (n first second : ℕ) (pairs : List ℤ) (out : List ℕ) →
    InOrder s totals n pairs out (component_summed s totals n first second pairs out).answer

-- how many components are counted: none before component 0, and one more behind each that the mask has
abbrev pub CountedSoFar : Type 0
CountedSoFar = (mask n : ℕ) → (counted_before mask 0 ≡ 0) × (counted_before mask (n + 1) ≡ counted_before mask n + cond (has_component mask n) 1 0)

-- where component 0 is next, sound totals are 0
abbrev pub StartTotalsZero : Type 0
StartTotalsZero = (s : SumState) (totals : List ℕ) → s.next ≡ 0 → Sound s totals → (k : ℕ) → k < 2048 → slice_index totals k ≡ 0

-- the library's start is one from which lists of calls begin, with masks 0
abbrev pub StartBegins : Type 0
StartBegins = Begun (record { state = start_state; totals = no_totals }) × (start_state.first ≡ 0) × (start_state.second ≡ 0)

-- ---- what an accepted call leaves, from any sound state

-- a total of bin k with component n added where the mask has it, once
abbrev pub total_with : ℕ → ℕ → List ℤ → ℕ → ℕ → ℕ
total_with mask n pairs k total = total + cond (has_component mask n) (power pairs k) 0

-- before the eighth, where these masks hold: the next component follows, the totals grow, and the output stays
pub record AddsComponent (first second n : ℕ) (totals : List ℕ) (pairs : List ℤ) (out : List ℕ) (left : SumLeft) : Type 0 where
  pub state : left.state ≡ record { next = n + 1; first = first; second = second }
  pub totals-length : length left.totals ≡ 2048
  pub first_run : (k : ℕ) → k < 1024 → slice_index left.totals k ≡ total_with first n pairs k (slice_index totals k)
  pub second_run : (k : ℕ) → k < 1024 → slice_index left.totals (1024 + k) ≡ total_with second n pairs k (slice_index totals (1024 + k))
  pub kept : left.out ≡ out

abbrev pub EarlierAdds : Type 0
EarlierAdds =
    (s : SumState) (totals : List ℕ) (n first second : ℕ) (pairs : List ℤ) (out : List ℕ) → RightLengths totals pairs out → Sound s totals → n ≡ s.next → n < 7 →
    AddsComponent (in_force s n first second).first (in_force s n first second).second n totals pairs out (component_summed s totals n first second pairs out)

-- the eighth: component 0 is next, the masks stay, all totals become 0, and the codes of both runs are written, the first mask's first
abbrev pub total_codes : ℕ → ℕ → List ℤ → (ℕ → ℕ) → List ℕ
total_codes mask n pairs total = concat_to 1024 (λ k. pair_bytes (sum_code (total_with mask n pairs k (total k))))

pub record WritesCodes (first second n : ℕ) (totals : List ℕ) (pairs : List ℤ) (out : List ℕ) (left : SumLeft) : Type 0 where
  pub state : left.state ≡ record { next = 0; first = first; second = second }
  pub cleared : left.totals ≡ no_totals
  pub written : left.out ≡ overwrite (total_codes first n pairs (λ k. slice_index totals k) ++ total_codes second n pairs (λ k. slice_index totals (1024 + k))) out

abbrev pub EighthWrites : Type 0
EighthWrites =
    (s : SumState) (totals : List ℕ) (n first second : ℕ) (pairs : List ℤ) (out : List ℕ) → RightLengths totals pairs out → Sound s totals → n ≡ s.next → n ≡ 7 →
    WritesCodes (in_force s n first second).first (in_force s n first second).second n totals pairs out (component_summed s totals n first second pairs out)

-- ---- numbers worked out

-- pairs (3, -4), (-32768, -32768), (32, 1) and (0, -1)
abbrev pub WorkedPowers : Type 0
WorkedPowers =
    map (power (pos 3 ∷ negsuc 3 ∷ negsuc 32767 ∷ negsuc 32767 ∷ pos 32 ∷ pos 1 ∷ pos 0 ∷ negsuc 0 ∷ [])) (0 ∷ 1 ∷ 2 ∷ 3 ∷ [])
    ≡ 25 ∷ 2 ^ 31 ∷ 1025 ∷ 1 ∷ []

-- the mask 0x83 has components 0, 1 and 7, and 0x2C has 2, 3 and 5; how many of them come before each component, and in all
abbrev pub WorkedMask : Type 0
WorkedMask =
    (map (has_component 0x83) (0 ∷ 1 ∷ 2 ∷ 3 ∷ 4 ∷ 5 ∷ 6 ∷ 7 ∷ []) ≡ true ∷ true ∷ false ∷ false ∷ false ∷ false ∷ false ∷ true ∷ [])
    × (map (has_component 0x2C) (0 ∷ 1 ∷ 2 ∷ 3 ∷ 4 ∷ 5 ∷ 6 ∷ 7 ∷ []) ≡ false ∷ false ∷ true ∷ true ∷ false ∷ true ∷ false ∷ false ∷ [])
    × (map (counted_before 0x83) (0 ∷ 1 ∷ 2 ∷ 7 ∷ 8 ∷ []) ≡ 0 ∷ 1 ∷ 2 ∷ 2 ∷ 3 ∷ [])
    × (map (counted_before 0x2C) (2 ∷ 3 ∷ 4 ∷ 5 ∷ 6 ∷ []) ≡ 0 ∷ 1 ∷ 2 ∷ 2 ∷ 3 ∷ [])

-- A round of eight components with four refused calls, each component of equal pairs. The masks are 0x03 and 0xC1, which both have component 0;
-- later calls bring others.
unfoldable pub pairs_of : ℕ → ℤ → ℤ → List ℤ
pairs_of zero re im = []
pairs_of (suc n) re im = re ∷ im ∷ pairs_of n re im

abbrev pub sent : TotalsPassed → ℕ → ℕ → ℕ → ℤ → ℤ → Call
sent passed n first second re im =
    record { passed = passed; component = n; first = first; second = second; pairs = pairs_of 1024 re im; out = replicate 4097 7 }

abbrev pub no-totals : ¬ (length {A = ℕ} [] ≡ 2048)
no-totals e = omega arith

abbrev pub worked_calls : List Call
worked_calls =
    sent current 1 0xFF 0xFF (pos 1) (pos 1) ∷ sent current 0 0x03 0xC1 (pos 3) (negsuc 3) ∷ sent current 0 0x03 0xC1 (pos 3) (negsuc 3)
    ∷ sent (wrong [] no-totals) 1 0x03 0xC1 (pos 1) (pos 1) ∷ sent current 1 0xFF 0xFF (negsuc 32767) (negsuc 32767)
    ∷ sent current 2 0 0 (pos 100) (pos 100) ∷ sent current 3 0 0 (pos 100) (pos 100) ∷ sent current 4 0 0 (pos 100) (pos 100) ∷ sent current 9 0 0 (pos 1) (pos 1)
    ∷ sent current 5 0 0 (pos 100) (pos 100) ∷ sent current 6 0 0 (pos 1) (negsuc 0) ∷ []

abbrev pub worked_start : Memory
worked_start = record { state = record { next = 0; first = 0x55; second = 0xAA }; totals = no_totals }

abbrev pub worked_eighth : Call
worked_eighth = sent current 7 0 0 (pos 32) (pos 1)

-- the first sums are 25 + 2 ^ 31, and the second 25 + 2 + 1025, of which the code is 0x060E; with 1025 rounded before the sum it would be 0x060D
pub record WorkedRound (left : SumLeft) : Type 0 where
  pub earlier : answers worked_start worked_calls
      ≡ refused 17 ∷ given 0 ∷ refused 17 ∷ refused 2 ∷ given 0 ∷ given 0 ∷ given 0 ∷ given 0 ∷ refused 17 ∷ given 0 ∷ given 0 ∷ []
  pub answer : left.answer ≡ given 4096
  pub state : left.state ≡ record { next = 0; first = 0x03; second = 0xC1 }
  pub totals : (k : ℕ) → k < 2048 → slice_index left.totals k ≡ 0
  pub out : left.out ≡ concat_to 1024 (λ k. 0x5A ∷ 0x00 ∷ []) ++ concat_to 1024 (λ k. 0x06 ∷ 0x0E ∷ []) ++ (7 ∷ [])

abbrev pub WorkedSums : Type 0
WorkedSums = WorkedRound (call_on (after_calls worked_start worked_calls) worked_eighth)
