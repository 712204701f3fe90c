-- The claims of specs/Claims.antt. Assumes nothing.
use Prim.Native.Nat.{ℕ, ◌+◌, ◌^◌, ◌≤◌, ◌<◌}
use mathlib.Core.Path.{◌≡◌, refl, sym, ap, subst, ◌∙◌}
use mathlib.Core.Bool.{Bool, true, false, not, ◌&&◌, false≢true}
use mathlib.Core.List.{List, [], ◌∷◌}
use native.Mathlib.Omega.{arith}
use borrow.Author.Tests.{le-ltb, leb-true, leb-false, eq-eqb, ne_eqb, not-false}
use lib.Dec.{leb, ltb, eqb}
use lib.ListN.{length, get_or, length-set, get_or-append}
use Rattle.lists.specs.Tables.{overwrite}
use Rattle.lists.proofs.Overwriting.{length-overwrite, get_d-overwrite}
use Rattle.lists.proofs.Choices.{cond-at, by_cases, both}
use Rattle.refusal.specs.Outcome.{Outcome, given, refused, is_given}
use Rattle.refusal.proofs.Outcomes.{given-refused}
use Rattle.registers.specs.declared.Registers.{Registers}
use Rattle.registers.specs.Access.{at_reset, stored_to}
use Rattle.board_log.specs.declared.Record.{Record}
use Rattle.board_log.specs.Append.{used_with_all}
use Rattle.walk.specs.Outcomes.{Ending, end, refused_at}
use Rattle.walk.specs.declared.Item.{Item}
use Rattle.walk.specs.Walked.{walked}
use Rattle.walk.specs.Claims.{refuses_record, registers_after, items_of}
use Rattle.walk.proofs.Claims.{walk-refusals, walk-offsets, registers-at-end}
use Rattle.counts.specs.declared.Tally.{Tally}
use Rattle.counts.specs.Counts.{counts_of, tally_sound, sets_counted}
use Rattle.counting.specs.Writer.{Call, records_of, tally_after, CountedOutcome, counted_records, counted}
use Rattle.counting.proofs.Theorems.{refused-unchanged}
use Rattle.dfb_refusals.specs.Numbers.{above63, outcome_number, with_offset, Parts}
use Rattle.dfb_refusals.proofs.Apart.{Below, given_below, refused-below, told-apart, offset-parts}
use Rattle.dfb_counts.specs.Calls.{tally_lists, CountedCall, counted_left, are_seven}
use Rattle.dfb_counts.specs.Calls.{CountOutcome, count_refused, ending_answer, count_answer}
use Rattle.dfb_counts.specs.Claims.{CountedCallApart, OtherLengthRefused, RefusedCallUnchanged, CountSetsApart, RefusedCountUnchanged, ShortListRefused, Front, Given, CountSetsGiven, CountSetsParts}
use Rattle.dfb_counts.proofs.Calls.{sevens, call-other, call-seven, tally-fits, ending-answered}

-- ---- a call of the writer

-- the bytes used lie within the log
module _ (log : List ℕ) (used : ℕ) (t : Tally) (long : length log < 2 ^ 63) where
  abbrev Under : CountedOutcome → Type 0
  Under o = Below above63 o.answer

  records-below : (after : Tally) (q : Outcome (List Record)) → Under (counted_records log used t after q)
  records-below after (refused n) = refused-below above63 n
  records-below after (given rs) =
      cond-at Under (not (leb (used_with_all used rs) (length log))) (λ e. refused-below above63 2)
      (λ e. given_below above63 (used_with_all used rs) (omega (arith, leb-true (used_with_all used rs) (length log) (not-false _ e))))

  counted-below : (c : Call) → Under (counted log used t c)
  unfolding counted
  counted-below c = cond-at Under (not (tally_sound t used)) (λ e. refused-below above63 3) (λ e. records-below (tally_after t c) (records_of t.registers c))

pub counted-call-apart : CountedCallApart
counted-call-apart log used counts registers c long =
    by_cases (are_seven counts registers)
    (λ e.
    let o = counted log used (tally_lists counts registers) c in
    ap (λ (x : CountedCall). ltb x.lists.answer above63) (sym (call-seven log used counts registers c e))
    ∙ told-apart above63 o.answer (counted-below log used (tally_lists counts registers) long c)
    ∙ ap (λ (b : Bool). b && is_given o.answer) (sym e))
    (λ e.
    ap (λ (x : CountedCall). ltb x.lists.answer above63) (sym (call-other log used counts registers c e))
    ∙ le-ltb (above63 + 2) above63 (omega arith)
    ∙ ap (λ (b : Bool). b && is_given (counted log used (tally_lists counts registers) c).answer) (sym e))

pub other-length-refused : OtherLengthRefused
other-length-refused log used counts registers c h =
    by_cases (are_seven counts registers) (λ e. absurd (h (sevens counts registers e))) (λ e. sym (call-other log used counts registers c e))

pub refused-call-unchanged : RefusedCallUnchanged
refused-call-unchanged log used counts registers c n k l e =
    let seven : are_seven counts registers ≡ true = rw (eq-eqb (length counts) 7 k, eq-eqb (length registers) 7 l) in
    sym (call-seven log used counts registers c seven)
    ∙ ap counted_left (refused-unchanged log used (tally_lists counts registers) c n e)

-- ---- the count of a log

abbrev UnderCount : CountOutcome → Type 0
UnderCount o = Below above63 o.answer

ending-below : (g : Ending) (t : Tally) (counts registers : List ℕ) → UnderCount (ending_answer g t counts registers)
ending-below (end n) t counts registers =
    cond-at UnderCount (not (leb 7 (length counts) && leb 7 (length registers))) (λ e. refused-below above63 2) (λ e. given_below above63 0 (omega arith))
ending-below (refused_at n offset) t counts registers = refused-below above63 (with_offset n offset)

count-below : (log counts registers : List ℕ) → UnderCount (count_answer log counts registers)
unfolding count_answer
count-below log counts registers =
    cond-at UnderCount (leb (2 ^ 55) (length log)) (λ e. refused-below above63 2)
    (λ e. ending-below (sets_counted log).ending (sets_counted log).tally counts registers)

pub count-sets-apart : CountSetsApart
count-sets-apart log counts registers = told-apart above63 _ (count-below log counts registers)

-- what holds of an outcome that leaves the lists, and of one that is not a refusal
count-cases : (P : CountOutcome → Type 0) (log counts registers : List ℕ) → ((n : ℕ) → P (count_refused n counts registers))
    → ((t : Tally) → P (record { answer = given 0; counts = overwrite t.counts.value counts; registers = overwrite t.registers.value registers }))
    → P (count_answer log counts registers)
unfolding count_answer
count-cases P log counts registers none one =
    cond-at P (leb (2 ^ 55) (length log)) (λ e. none 2) (λ e. by (sets_counted log).ending)
  where
    by : (g : Ending) → P (ending_answer g (sets_counted log).tally counts registers)
    by (end n) = cond-at P (not (leb 7 (length counts) && leb 7 (length registers))) (λ e. none 2) (λ e. one (sets_counted log).tally)
    by (refused_at n offset) = none (with_offset n offset)

pub refused-count-unchanged : RefusedCountUnchanged
refused-count-unchanged log counts registers n =
    count-cases (λ (o : CountOutcome). o.answer ≡ refused n → o ≡ record { answer = refused n; counts = counts; registers = registers }) log counts registers
    (λ m e. ap (λ (a : Outcome ℕ). record { answer = a; counts = counts; registers = registers }) e)
    (λ t e. absurd (given-refused 0 n e))

pub short-list-refused : ShortListRefused
short-list-refused log counts registers n short e h =
    ap (λ (o : CountOutcome). o.answer) (ending-answered log counts registers (end n) short e)
    ∙ by_cases (leb 7 (length counts) && leb 7 (length registers))
    (λ t.
    let s = both (leb 7 (length counts)) (leb 7 (length registers)) t in
    absurd (h (leb-true 7 (length counts) s.0, leb-true 7 (length registers) s.1)))
    (λ t. rw t)

-- the numbers of the walk's refusals are below 256
refuses-most : (n : ℕ) → refuses_record n ≡ true → n ≤ 10
refuses-most n e =
    by_cases (leb n 10) (λ t. leb-true n 10 t)
    (λ t.
    let h : 10 < n = leb-false n 10 t in
    let other : (k : ℕ) → k ≤ 10 → eqb n k ≡ false = λ k l. ne_eqb n k (λ q. absurd (omega (arith, q))) in
    absurd (false≢true (rw (other 9 (omega arith), other 10 (omega arith), other 5 (omega arith), other 1 (omega arith), other 4 (omega arith), other 6 (omega arith), other 7 (omega arith)) at e)))

pub count-sets-parts : CountSetsParts
unfolding sets_counted
count-sets-parts log counts registers n offset short e =
    subst (λ (o : CountOutcome). Parts (outcome_number above63 o.answer) n offset) (sym (ending-answered log counts registers (refused_at n offset) short e))
    (offset-parts n offset (omega (arith, refuses-most n (walk-refusals log n offset e))) (omega (arith, walk-offsets log n offset e)))

front-put : (values list : List ℕ) → length values ≡ 7 → 7 ≤ length list → Front (λ n. get_or values n 0) list (overwrite values list)
front-put values list e h =
    record {
      same = length-overwrite values list (omega (arith, e));
      front = λ n l. get_or-append values _ 0 n (omega (arith, e));
      rest = λ n l. get_d-overwrite values list n 0 (omega (arith, e));
    }

-- a count has seven counts and seven registers
registers-long : (r : Registers) (is : List Item) → length r.value ≡ 7 → length (registers_after r is).value ≡ 7
registers-long r [] e = e
registers-long r (Item.Command c ∷ is) e = registers-long (stored_to r c.id c.information) is (length-set r.value _ _ ∙ e)
registers-long r (Item.SecondMark s ∷ is) e = registers-long r is e
registers-long r (Item.Tick ∷ is) e = registers-long r is e
registers-long r (Item.Waveform s ∷ is) e = registers-long r is e
registers-long r (Item.Spectra s ∷ is) e = registers-long r is e

counts-long : (is : List Item) → length (counts_of is).value ≡ 7
unfolding counts_of
counts-long is = refl

pub count-sets-given : CountSetsGiven
unfolding sets_counted
count-sets-given log counts registers n short e h k =
    let t = (sets_counted log).tally in
    let put = ending-answered log counts registers (end n) short e ∙ sym (tally-fits t counts registers h k) in
    let held : length t.registers.value ≡ 7 =
    ap (λ (r : Registers). length r.value) (registers-at-end log) ∙ registers-long at_reset (items_of (walked log).items) refl in
    subst (λ (o : CountOutcome). Given t counts registers o.counts o.registers (outcome_number above63 o.answer)) (sym put)
    (record {
      zero = refl;
      counted = front-put t.counts.value counts (counts-long (items_of (walked log).items)) h;
      held = front-put t.registers.value registers held k;
    })
