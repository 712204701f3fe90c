-- The rules by their cases, as the functions come to them. Assumes nothing.
use Prim.Native.Nat.{ℕ, ◌+◌, ◌^◌, ◌≤◌, ◌<◌}
use mathlib.Core.Bool.{Bool, true, false, cond}
use mathlib.Core.List.{List}
use mathlib.Core.Path.{◌≡◌, refl, ap, ap₂, sym, ◌∙◌}
use native.Mathlib.Omega.{arith}
use borrow.Author.Tests.{eqb-true, le-leb, lt-leb}
use lib.Dec.{eqb}
use lib.IntN.{ℤ}
use lib.ListN.{length}
use Rattle.lists.specs.Tables.{overwrite}
use Rattle.lists.proofs.Choices.{both}
use Rattle.lists.proofs.Overwriting.{overwrite-all}
use Rattle.std.specs.Prelude.{Some, None}
use Rattle.refusal.specs.Outcome.{given, answer_outcome}
use Rattle.counting.specs.declared.Counted.{Counted}
use Rattle.dfb_counts.specs.Private.{tally_loaded}
use Rattle.walk.specs.Outcomes.{Ending}
use Rattle.registers.specs.declared.Registers.{Registers}
use Rattle.counts.specs.declared.Counts.{Counts}
use Rattle.counts.specs.declared.Tally.{Tally}
use Rattle.counts.specs.Counts.{sets_counted}
use Rattle.counting.specs.Writer.{Call, command, mark, tick, set, report, tally_after, CountedOutcome, counted_outcome, counted}
use Rattle.counting.specs.History.{Kept, call_on}
use Rattle.counting.proofs.Theorems.{by_call}
use Rattle.dfb_refusals.specs.Numbers.{above63, outcome_number}
use Rattle.dfb_counts.specs.Calls.{tally_lists, lists_left, CountedCall, call_left, counted_left, are_seven, counted_call}
use Rattle.dfb_counts.specs.Calls.{CountOutcome, count_refused, tally_put, ending_answer, count_answer}

-- ---- a call of the writer

pub sevens : (counts registers : List ℕ) → are_seven counts registers ≡ true → (length counts ≡ 7) × (length registers ≡ 7)
sevens counts registers e =
    let t = both (eqb (length counts) 7) (eqb (length registers) 7) e in
    (eqb-true (length counts) 7 t.0, eqb-true (length registers) 7 t.1)

module _ (log : List ℕ) (used : ℕ) (counts registers : List ℕ) (c : Call) where
  pub call-other : are_seven counts registers ≡ false → call_left log (lists_left (above63 + 2) counts registers) ≡ counted_call log used counts registers c
  unfolding counted_call
  call-other e = rw e

  pub call-seven : are_seven counts registers ≡ true → counted_left (counted log used (tally_lists counts registers) c) ≡ counted_call log used counts registers c
  unfolding counted_call
  call-seven e = rw e

-- lists that were loaded, and lists that were not
pub was_loaded : (counts registers : List ℕ) (t : Tally) → Some t ≡ tally_loaded counts registers → (are_seven counts registers ≡ true) × (t ≡ tally_lists counts registers)
was_loaded counts registers t e = by (are_seven counts registers) refl e
  where
    by : (b : Bool) → are_seven counts registers ≡ b → Some t ≡ cond b (Some (tally_lists counts registers)) None
        → (are_seven counts registers ≡ true) × (t ≡ tally_lists counts registers)
    by true f h = (f, cc)
    by false f h = let z : ◌≡◌ {A = ℕ} 0 1 = cc in absurd (omega arith)

pub not_loaded : (counts registers : List ℕ) → None ≡ tally_loaded counts registers → are_seven counts registers ≡ false
not_loaded counts registers e = by (are_seven counts registers) refl e
  where
    by : (b : Bool) → are_seven counts registers ≡ b → None ≡ cond b (Some (tally_lists counts registers)) None → are_seven counts registers ≡ false
    by true f h = let z : ◌≡◌ {A = ℕ} 0 1 = cc in absurd (omega arith)
    by false f h = f

-- the call as the library makes it
module _ (log : List ℕ) (used : ℕ) (counts registers : List ℕ) (c : Call) (t : Tally) (o : Counted) (log' : List ℕ) (loaded : Some t ≡ tally_loaded counts registers)
    (done : counted_outcome o log' ≡ counted log used t c) where
  pub call-done : (n : ℕ) (counts' registers' : List ℕ) → n ≡ outcome_number above63 (answer_outcome o.answer) → counts' ≡ o.tally.counts.value → registers' ≡ o.tally.registers.value
      → call_left log' (lists_left n counts' registers') ≡ counted_call log used counts registers c
  call-done n counts' registers' answer p q =
      let l = was_loaded counts registers t loaded in
      ap (λ (m : ℕ). call_left log' (lists_left m counts' registers')) answer
      ∙ ap₂ {C = CountedCall} (λ (a b : List ℕ). call_left log' (lists_left (outcome_number above63 (answer_outcome o.answer)) a b)) p q
      ∙ ap counted_left (done ∙ ap (λ (x : Tally). counted log used x c) l.1)
      ∙ call-seven log used counts registers c l.0

  -- a list that the call does not change
  pub counts-kept : ((k : Kept) → (call_on k c).tally.counts ≡ k.tally.counts) → counts ≡ o.tally.counts.value
  counts-kept kept =
      let l = was_loaded counts registers t loaded in
      sym (ap (λ (x : CountedOutcome). x.tally.counts.value) done ∙ ap (λ (x : Counts). x.value) (kept (record { log = log; used = used; tally = t })) ∙ ap (λ (x : Tally). x.counts.value) l.1)

  pub registers-kept : ((k : Kept) → (call_on k c).tally.registers ≡ k.tally.registers) → registers ≡ o.tally.registers.value
  registers-kept kept =
      let l = was_loaded counts registers t loaded in
      sym (ap (λ (x : CountedOutcome). x.tally.registers.value) done ∙ ap (λ (x : Registers). x.value) (kept (record { log = log; used = used; tally = t })) ∙ ap (λ (x : Tally). x.registers.value) l.1)

-- commands, second marks and ticks change no count; second marks, ticks and sets no register
same-counts : (k : Kept) (c : Call) → (tally_after k.tally c).counts ≡ k.tally.counts → (call_on k c).tally.counts ≡ k.tally.counts
same-counts k c e = by_call k c (λ (o : CountedOutcome). o.tally.counts ≡ k.tally.counts) (λ m. refl) (λ rs r f. e)

same-registers : (k : Kept) (c : Call) → (tally_after k.tally c).registers ≡ k.tally.registers → (call_on k c).tally.registers ≡ k.tally.registers
same-registers k c e = by_call k c (λ (o : CountedOutcome). o.tally.registers ≡ k.tally.registers) (λ m. refl) (λ rs r f. e)

pub command-counts : (id v : ℕ) (k : Kept) → (call_on k (command id v)).tally.counts ≡ k.tally.counts
command-counts id v k = same-counts k (command id v) refl

pub mark-counts : (s : ℕ) (k : Kept) → (call_on k (mark s)).tally.counts ≡ k.tally.counts
mark-counts s k = same-counts k (mark s) refl

pub mark-registers : (s : ℕ) (k : Kept) → (call_on k (mark s)).tally.registers ≡ k.tally.registers
mark-registers s k = same-registers k (mark s) refl

pub tick-counts : (k : Kept) → (call_on k tick).tally.counts ≡ k.tally.counts
tick-counts k = same-counts k tick refl

pub tick-registers : (k : Kept) → (call_on k tick).tally.registers ≡ k.tally.registers
tick-registers k = same-registers k tick refl

pub set-registers : (apid : ℕ) (samples : List ℤ) (k : Kept) → (call_on k (set apid samples)).tally.registers ≡ k.tally.registers
set-registers apid samples k = same-registers k (set apid samples) refl

pub report-registers : (words : List ℕ) (k : Kept) → (call_on k (report words)).tally.registers ≡ k.tally.registers
report-registers words k = same-registers k (report words) refl

-- ---- lists of seven that were put

pub all_put : (values list after : List ℕ) → length values ≡ 7 → length list ≡ 7 → after ≡ overwrite values list → after ≡ values
all_put values list after k l e = e ∙ overwrite-all values list (k ∙ sym l)

-- ---- the count of a log

module _ (t : Tally) (counts registers : List ℕ) where
  pub counts-short : length counts < 7 → count_refused 2 counts registers ≡ tally_put t counts registers
  counts-short h = rw (lt-leb 7 (length counts) h)

  pub registers-short : 7 ≤ length counts → length registers < 7 → count_refused 2 counts registers ≡ tally_put t counts registers
  registers-short h k = rw (le-leb 7 (length counts) h, lt-leb 7 (length registers) k)

  pub tally-fits : 7 ≤ length counts → 7 ≤ length registers
      → ◌≡◌ {A = CountOutcome} (record { answer = given 0; counts = overwrite t.counts.value counts; registers = overwrite t.registers.value registers }) (tally_put t counts registers)
  tally-fits h k = rw (le-leb 7 (length counts) h, le-leb 7 (length registers) k)

module _ (log counts registers : List ℕ) where
  pub too_long : 2 ^ 55 ≤ length log → count_refused 2 counts registers ≡ count_answer log counts registers
  unfolding count_answer
  too_long h = rw (le-leb (2 ^ 55) (length log) h)

  pub ending-answered : (g : Ending) → length log < 2 ^ 55 → (sets_counted log).ending ≡ g → count_answer log counts registers ≡ ending_answer g (sets_counted log).tally counts registers
  unfolding count_answer
  ending-answered g h e = rw (lt-leb (2 ^ 55) (length log) h) (ap (λ (x : Ending). ending_answer x (sets_counted log).tally counts registers) e)
