-- The numbers of Claims.antt, by computation; the round of eight components by the book. Assumes nothing.
use Rattle.std.proofs.Common.{◌≡◌, ℕ, zero, suc, ◌+◌, ◌*◌, ◌^◌, ◌<◌, List, [], ◌∷◌, ◌++◌, map, length, get_or, drop, replicate, ℤ, pos, negsuc, sym, refl, ap, ◌∙◌, subst, ap₂, arith, length-append}
use lib.Signed.{mag}
use Rattle.lists.specs.Sums.{sum_to}
use Rattle.lists.specs.Tables.{concat_to, overwrite}
use Rattle.lists.proofs.Tables.{concat_to-ext, length-parts}
use Rattle.refusal.specs.Outcome.{Outcome, given, refused}
use Rattle.codes.specs.Code.{least_from, exponent, code_of, sum_code}
use Rattle.words.specs.Sample.{Are16}
use Rattle.words.specs.Words.{pair_bytes}
use Rattle.summed.specs.declared.SumState.{SumState}
use Rattle.summed.specs.Component.{square, power}
use Rattle.summed.specs.Totals.{counted_before}
use Rattle.summed.specs.Book.{Book, Input, Entry, full, exact_sum, dropped, entry, empty_book}
use Rattle.summed.specs.History.{Call, Typed, Memory, Begun, call_on, after_call, after_calls, answers, input_of, book_after, answer_of}
use Rattle.summed.specs.Claims.{run_codes, CodesWritten, OutAfter, TotalsOf, Accepted, Agrees, WorkedPowers, WorkedMask, pairs_of, worked_calls, worked_start, worked_eighth, WorkedSums}
use Rattle.summed.proofs.Laws.{by-run}
use Rattle.summed.proofs.History.{Represents, steps, begun-represents, sums-follow}

pub worked-powers : WorkedPowers
worked-powers = refl

pub worked-mask : WorkedMask
unfolding counted_before sum_to
worked-mask = (refl, refl, refl, refl)

-- ---- a round, by the book

-- what the book answers to the calls of a list
book_answers : Book → List Input → List (Outcome ℕ)
book_answers b [] = []
book_answers b (i ∷ is) = answer_of (entry b i).reply ∷ book_answers (entry b i).next is

answers-book : (x : Memory) (b : Book) → Represents x b → (calls : List Call) → Typed calls → answers x calls ≡ book_answers b (map input_of calls)
unfolding book_answers
answers-book x b r [] f = refl
answers-book x b r (c ∷ calls) f =
    let s = steps x b r c.passed c.component c.first c.second c.pairs c.out f.0 in
    ap₂ ◌∷◌ s.agrees.answer (answers-book (after_call x c) (entry b (input_of c)).next s.next calls f.1)

pairs-16 : (n : ℕ) (re im : ℤ) → mag re < 32768 → mag im < 32768 → Are16 (pairs_of n re im)
unfolding pairs_of
pairs-16 zero re im a b = tt
pairs-16 (suc n) re im a b = (a, (b, pairs-16 n re im a b))

pairs-power : (n : ℕ) (re im : ℤ) (k : ℕ) → k < n → power (pairs_of n re im) k ≡ square re + square im
unfolding pairs_of
pairs-power zero re im k h = absurd (omega arith)
pairs-power (suc n) re im zero h = refl
pairs-power (suc n) re im (suc k) h =
    let e : 2 * suc k ≡ suc (suc (2 * k)) = omega arith in
    let e' : 2 * suc k + 1 ≡ suc (suc (2 * k + 1)) = omega arith in
    ap₂ (λ (i j : ℕ). square (get_or (re ∷ im ∷ pairs_of n re im) i (pos 0)) + square (get_or (re ∷ im ∷ pairs_of n re im) j (pos 0))) e e'
    ∙ pairs-power n re im k (omega arith)

small : (re im : ℤ) → mag re < 32768 → mag im < 32768 → Are16 (pairs_of 1024 re im)
small re im a b = pairs-16 1024 re im a b

typed : Typed worked_calls
typed = (
  small (pos 1) (pos 1) (omega arith) (omega arith),
  (
    small (pos 3) (negsuc 3) (omega arith) (omega arith),
    (
      small (pos 3) (negsuc 3) (omega arith) (omega arith),
      (
        small (pos 1) (pos 1) (omega arith) (omega arith),
        (
          small (negsuc 32767) (negsuc 32767) (omega arith) (omega arith),
          (
            small (pos 100) (pos 100) (omega arith) (omega arith),
            (
              small (pos 100) (pos 100) (omega arith) (omega arith),
              (
                small (pos 100) (pos 100) (omega arith) (omega arith),
                (
                  small (pos 1) (pos 1) (omega arith) (omega arith),
                  (small (pos 100) (pos 100) (omega arith) (omega arith), (small (pos 1) (negsuc 0) (omega arith) (omega arith), tt)),
                ),
              ),
            ),
          ),
        ),
      ),
    ),
  ),
)

begun : Begun worked_start
begun = record { place = refl; totals = refl }

earlier : answers worked_start worked_calls
    ≡ refused 17 ∷ given 0 ∷ refused 17 ∷ refused 2 ∷ given 0 ∷ given 0 ∷ given 0 ∷ given 0 ∷ refused 17 ∷ given 0 ∷ given 0 ∷ []
unfolding book_answers entry pairs_of
earlier = answers-book worked_start empty_book (begun-represents worked_start begun) worked_calls typed

-- the book after the calls, and with the eighth component
abbrev components : List (List ℤ)
components =
    pairs_of 1024 (pos 3) (negsuc 3) ∷ pairs_of 1024 (negsuc 32767) (negsuc 32767) ∷ pairs_of 1024 (pos 100) (pos 100) ∷ pairs_of 1024 (pos 100) (pos 100)
    ∷ pairs_of 1024 (pos 100) (pos 100) ∷ pairs_of 1024 (pos 100) (pos 100) ∷ pairs_of 1024 (pos 1) (negsuc 0) ∷ pairs_of 1024 (pos 32) (pos 1) ∷ []

abbrev eight : Book
eight = record { first = 0x03; second = 0xC1; components = components }

eighth-entry : entry (book_after worked_calls) (input_of worked_eighth) ≡ record { reply = full eight; next = dropped eight }
unfolding entry pairs_of
eighth-entry = refl

agrees : Agrees (after_calls worked_start worked_calls) (book_after worked_calls) worked_eighth
agrees = sums-follow worked_start worked_calls worked_eighth begun (with-eighth worked_calls typed)
  where
    with-eighth : (calls : List Call) → Typed calls → Typed (calls ++ (worked_eighth ∷ []))
    with-eighth [] f = (small (pos 32) (pos 1) (omega arith) (omega arith), tt)
    with-eighth (c ∷ calls) f = (f.0, with-eighth calls f.1)

-- the sums of each bin
first-sum : (k : ℕ) → k < 1024 → exact_sum 0x03 components k ≡ 25 + 2 ^ 31
first-sum k h = rw (pairs-power 1024 (pos 3) (negsuc 3) k h, pairs-power 1024 (negsuc 32767) (negsuc 32767) k h) refl

second-sum : (k : ℕ) → k < 1024 → exact_sum 0xC1 components k ≡ 1052
second-sum k h = rw (pairs-power 1024 (pos 3) (negsuc 3) k h, pairs-power 1024 (pos 1) (negsuc 0) k h, pairs-power 1024 (pos 32) (pos 1) k h) refl

first-pair : pair_bytes (sum_code (25 + 2 ^ 31)) ≡ 0x5A ∷ 0x00 ∷ []
unfolding sum_code code_of exponent least_from
first-pair = refl

second-pair : pair_bytes (sum_code 1052) ≡ 0x06 ∷ 0x0E ∷ []
unfolding sum_code code_of exponent least_from
second-pair = refl

abbrev first_bytes : List ℕ
first_bytes = run_codes 0x03 components

abbrev second_bytes : List ℕ
second_bytes = run_codes 0xC1 components

first-bytes : first_bytes ≡ concat_to 1024 (λ k. 0x5A ∷ 0x00 ∷ [])
first-bytes = concat_to-ext 1024 _ _ (λ k h. ap (λ (v : ℕ). pair_bytes (sum_code v)) (first-sum k h) ∙ first-pair)

second-bytes : second_bytes ≡ concat_to 1024 (λ k. 0x06 ∷ 0x0E ∷ [])
second-bytes = concat_to-ext 1024 _ _ (λ k h. ap (λ (v : ℕ). pair_bytes (sum_code v)) (second-sum k h) ∙ second-pair)

both-length : length (first_bytes ++ second_bytes) ≡ 4096
both-length =
    omega (
      arith,
      length-append first_bytes second_bytes,
      length-parts 1024 (λ k. pair_bytes (sum_code (exact_sum 0x03 components k))) 2 (λ i. refl),
      length-parts 1024 (λ k. pair_bytes (sum_code (exact_sum 0xC1 components k))) 2 (λ i. refl),
    )

out-bytes : overwrite (first_bytes ++ second_bytes) (replicate 4097 7) ≡ concat_to 1024 (λ k. 0x5A ∷ 0x00 ∷ []) ++ concat_to 1024 (λ k. 0x06 ∷ 0x0E ∷ []) ++ (7 ∷ [])
out-bytes =
    let rest : drop 4096 (replicate {A = ℕ} 4097 7) ≡ 7 ∷ [] = refl in
    ap (λ (n : ℕ). (first_bytes ++ second_bytes) ++ drop n (replicate 4097 7)) both-length ∙ ap (λ (l : List ℕ). (first_bytes ++ second_bytes) ++ l) rest
    ∙ ap₂ (λ (a b : List ℕ). a ++ b ++ (7 ∷ [])) first-bytes second-bytes

pub worked-sums : WorkedSums
worked-sums =
    record {
      earlier = earlier;
      answer = agrees.answer ∙ ap (λ (e : Entry). answer_of e.reply) eighth-entry;
      state = same-state _ (agrees.keeps.place ∙ ap (λ (e : Entry). length e.next.components) eighth-entry)
          (masks.0 ∙ ap (λ (e : Entry). e.next.first) eighth-entry) (masks.1 ∙ ap (λ (e : Entry). e.next.second) eighth-entry);
      totals = zeros;
      out = written.written ∙ out-bytes;
    }
  where
    same-state : (s : SumState) → s.next ≡ 0 → s.first ≡ 0x03 → s.second ≡ 0xC1 → s ≡ record { next = 0; first = 0x03; second = 0xC1 }
    same-state s e f g =
        ap₂ (λ (n m : ℕ). record { next = n; first = m; second = s.second }) e f ∙ ap (λ (m : ℕ). record { next = 0; first = 0x03; second = m }) g

    masks : ((after_call (after_calls worked_start worked_calls) worked_eighth).state.first ≡ (entry (book_after worked_calls) (input_of worked_eighth)).next.first)
        × ((after_call (after_calls worked_start worked_calls) worked_eighth).state.second ≡ (entry (book_after worked_calls) (input_of worked_eighth)).next.second)
    masks = agrees.masks (subst (λ (e : Entry). Accepted e.reply) (sym eighth-entry) tt)

    written : CodesWritten eight (replicate 4097 7) (call_on (after_calls worked_start worked_calls) worked_eighth).out
    written = subst (λ (e : Entry). OutAfter e.reply (replicate 4097 7) (call_on (after_calls worked_start worked_calls) worked_eighth).out) eighth-entry agrees.out

    empty : TotalsOf (dropped eight) (call_on (after_calls worked_start worked_calls) worked_eighth).totals
    empty = subst (λ (e : Entry). TotalsOf e.next (call_on (after_calls worked_start worked_calls) worked_eighth).totals) eighth-entry agrees.keeps.totals

    zeros : (k : ℕ) → k < 2048 → get_or (call_on (after_calls worked_start worked_calls) worked_eighth).totals k 0 ≡ 0
    zeros = by-run (λ k. get_or (call_on (after_calls worked_start worked_calls) worked_eighth).totals k 0 ≡ 0) empty.first_run empty.second_run
