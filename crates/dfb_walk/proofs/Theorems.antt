-- The claims of specs/Claims.antt. Assumes nothing.
use Prim.Native.Nat.{ℕ, zero, suc, ◌+◌, ◌≤◌, ◌<◌}
use mathlib.Core.Path.{◌≡◌, refl, sym, ap, subst, ◌∙◌}
use mathlib.Core.Bool.{true, false, false≢true}
use mathlib.Core.List.{List, [], ◌∷◌}
use native.Mathlib.Omega.{arith}
use borrow.Author.Tests.{lt-ltb, le-ltb, ltb-true, ltb-false, leb-true, leb-false, ne_eqb}
use lib.Dec.{leb, ltb, eqb}
use lib.ListN.{length, replicate, length-set, length-drop, get_or-append}
use Rattle.lists.specs.Tables.{overwrite}
use Rattle.lists.proofs.Overwriting.{length-overwrite, get_d-overwrite}
use Rattle.lists.proofs.Choices.{cond-at, by_cases}
use Rattle.refusal.specs.Outcome.{Outcome, given, refused}
use Rattle.refusal.proofs.Outcomes.{given-refused}
use Rattle.registers.specs.declared.Registers.{Registers}
use Rattle.walk.specs.declared.Walk.{Walk}
use Rattle.walk.specs.declared.Item.{Item}
use Rattle.walk.specs.Outcomes.{Ending, end, refused_at, Stepped, item, last, Advanced}
use Rattle.walk.specs.Walk.{walk_sound, next_at}
use Rattle.walk.specs.Walked.{walk_from, walked}
use Rattle.walk.specs.Claims.{refuses_record}
use Rattle.walk.proofs.Laws.{Passes, item-passes, refused-known, next_past, next-unsound, ending-stays}
use Rattle.walk.proofs.Walked.{from-item, from_last}
use Rattle.dfb_refusals.specs.Numbers.{above63, outcome_number, with_offset, Parts}
use Rattle.dfb_refusals.proofs.Apart.{Below, given_below, refused-below, told-apart, offset-parts}
use Rattle.dfb_walk.specs.Next.{place_of, walk_of, walk_numbers, item_numbers, end_numbers, WalkOutcome, walk_number, walk_refused, numbers_put, step_answer, is_outside, walk_next}
use Rattle.dfb_walk.specs.Calls.{Called, called_on, called, ending_numbers, walked_numbers}
use Rattle.dfb_walk.specs.Claims.{WalkNextApart, RefusedWalkUnchanged, Inside, OutsideRefused, WalkNextParts, WideRegisterRefused, ShortItemRefused, Given, WalkNextGiven, WalkEndGiven, ItemsFromWalk, ItemsByCalls}
use Rattle.dfb_walk.proofs.Numbers.{numbers-return}
use Rattle.dfb_walk.proofs.Narrowing.{wide-unsound}
use Rattle.dfb_walk.proofs.Rule.{inside_of, outside-refused-by, advance-answered, offset-lt}

-- ---- one call

-- what holds of a refusal, and of five numbers put, holds of a call
module _ (P : WalkOutcome → Type 0) (walk list : List ℕ) (none : (n : ℕ) → P (walk_refused n walk list))
    (one : (numbers later : List ℕ) → P (record { answer = given 0; walk = later; item = overwrite numbers list })) where
  put-cases : (numbers later : List ℕ) → P (numbers_put numbers later walk list)
  put-cases numbers later = cond-at P (ltb (length list) 5) (λ e. none 2) (λ e. one numbers later)

  step-cases : (s : Stepped) (later : Walk) → P (step_answer s later walk list)
  step-cases (item i) later = put-cases (item_numbers (place_of walk) i) (walk_numbers later)
  step-cases (last (end n)) later = put-cases (end_numbers (place_of walk) n) walk
  step-cases (last (refused_at n offset)) later = none (with_offset n offset)

  next-cases : (log : List ℕ) → P (walk_next log walk list)
  unfolding walk_next
  next-cases log =
      cond-at P (is_outside (length log) walk) (λ e. none 2)
      (λ e. step-cases (next_at log (walk_of walk)).step (next_at log (walk_of walk)).walk)

pub walk-next-apart : WalkNextApart
walk-next-apart log walk list =
    told-apart above63 _
    (next-cases (λ (o : WalkOutcome). Below above63 o.answer) walk list (refused-below above63) (λ numbers later. given_below above63 0 (omega arith)) log)

pub refused-walk-unchanged : RefusedWalkUnchanged
refused-walk-unchanged log walk list n =
    next-cases (λ (o : WalkOutcome). o.answer ≡ refused n → o ≡ walk_refused n walk list) walk list
    (λ m e. ap (λ (a : Outcome ℕ). record { answer = a; walk = walk; item = list }) e)
    (λ numbers later e. absurd (given-refused 0 n e)) log

pub outside-refused : OutsideRefused
outside-refused log walk list h =
    by_cases (is_outside (length log) walk) (λ e. sym (outside-refused-by log walk list e)) (λ e. absurd (h (inside_of log walk e)))

-- the numbers of the walk's refusals are below 256
refuses-most : (n : ℕ) → refuses_record n ≡ true → n ≤ 10
refuses-most n e =
    by_cases (leb n 10) (λ t. leb-true n 10 t)
    (λ t.
    let h : 10 < n = leb-false n 10 t in
    let other : (k : ℕ) → k ≤ 10 → eqb n k ≡ false = λ k l. ne_eqb n k (λ q. absurd (omega (arith, q))) in
    absurd (false≢true (rw (other 9 (omega arith), other 10 (omega arith), other 5 (omega arith), other 1 (omega arith), other 4 (omega arith), other 6 (omega arith), other 7 (omega arith)) at e)))

abbrev number_in : Stepped → ℕ
number_in (item i) = 0
number_in (last (end n)) = 0
number_in (last (refused_at n offset)) = n

number-le : (log : List ℕ) (walk later : Walk) (n offset : ℕ) → next_at log walk ≡ record { step = last (refused_at n offset); walk = later } → n ≤ 10
number-le log walk later n offset e =
    by_cases (ltb (length log) walk.at)
    (λ t.
    let same : 2 ≡ n = ap (λ (a : Advanced). number_in a.step) (next_past log walk (ltb-true (length log) walk.at t) ∙ e) in
    omega (arith, same))
    (λ t. by_cases (walk_sound walk)
    (λ s. refuses-most n (refused-known log walk n offset later e (ltb-false (length log) walk.at t) s))
    (λ s.
    let same : 3 ≡ n = ap (λ (a : Advanced). number_in a.step) (next-unsound log walk (ltb-false (length log) walk.at t) s ∙ e) in
    omega (arith, same)))

-- a step as a whole
stepped : (log : List ℕ) (walk : Walk) (s : Stepped) → (next_at log walk).step ≡ s → next_at log walk ≡ record { step = s; walk = (next_at log walk).walk }
stepped log walk s e = ap (λ (x : Stepped). record { step = x; walk = (next_at log walk).walk }) e

pub walk-next-parts : WalkNextParts
walk-next-parts log walk list n offset i s =
    let later = (next_at log (walk_of walk)).walk in
    let e = stepped log (walk_of walk) (last (refused_at n offset)) s in
    subst (λ (o : WalkOutcome). Parts (outcome_number above63 o.answer) n offset)
    (sym (advance-answered log walk list (record { step = last (refused_at n offset); walk = later }) i e))
    (offset-parts n offset (omega (arith, number-le log (walk_of walk) later n offset e)) (offset-lt log (walk_of walk) later n offset i.short i.near e))

pub wide-register-refused : WideRegisterRefused
wide-register-refused log walk list n i h l wide =
    advance-answered log walk list _ i (sym (next-unsound log (walk_of walk) h (wide-unsound walk n l wide)))

module _ (numbers later walk list : List ℕ) where
  pub put-short : length list < 5 → numbers_put numbers later walk list ≡ walk_refused 2 walk list
  put-short h = rw (lt-ltb (length list) 5 h)

  pub put-fits : 5 ≤ length list → numbers_put numbers later walk list ≡ record { answer = given 0; walk = later; item = overwrite numbers list }
  put-fits h = rw (le-ltb (length list) 5 h)

pub short-item-refused : ShortItemRefused
short-item-refused log walk list i h short =
    advance-answered log walk list (next_at log (walk_of walk)) i refl ∙ by (next_at log (walk_of walk)).step (next_at log (walk_of walk)).walk refl
  where
    by : (s : Stepped) (later : Walk) → (next_at log (walk_of walk)).step ≡ s → step_answer s later walk list ≡ walk_refused 2 walk list
    by (item i) later e = put-short (item_numbers (place_of walk) i) (walk_numbers later) walk list short
    by (last (end n)) later e = put-short (end_numbers (place_of walk) n) walk walk list short
    by (last (refused_at n offset)) later e = absurd (h n offset e)

given-five : (numbers later list : List ℕ) → length numbers ≡ 5 → length later ≡ 9 → 5 ≤ length list
    → Given later numbers list (walk_number (record { answer = given 0; walk = later; item = overwrite numbers list }))
given-five numbers later list five nine h =
    record {
      zero = refl;
      walk = refl;
      nine = nine;
      same = length-overwrite numbers list (omega (arith, five));
      front = λ n l. get_or-append numbers _ 0 n (omega (arith, five));
      rest = λ n l. get_d-overwrite numbers list n 0 (omega (arith, five));
    }

-- the walk after an item has nine numbers
registers-long : (log : List ℕ) (walk later : Walk) (i : Item) → Passes log walk i later → length later.registers.value ≡ length walk.registers.value
registers-long log walk later (Item.Command c) p = ap (λ (r : Registers). length r.value) p.kind.changed ∙ length-set walk.registers.value _ _
registers-long log walk later (Item.SecondMark s) p = ap (λ (r : Registers). length r.value) p.kind
registers-long log walk later Item.Tick p = ap (λ (r : Registers). length r.value) p.kind
registers-long log walk later (Item.Waveform s) p = ap (λ (r : Registers). length r.value) p.kind.same
registers-long log walk later (Item.Spectra s) p = ap (λ (r : Registers). length r.value) p.kind.same

nine-after : (log walk : List ℕ) (later : Walk) (i : Item) → length walk ≡ 9 → Passes log (walk_of walk) i later → length (walk_numbers later) ≡ 9
nine-after log walk later i nine p = omega (arith, registers-long log (walk_of walk) later i p, length-drop 2 walk)

pub walk-next-given : WalkNextGiven
walk-next-given log walk list i later inside e h =
    let put = advance-answered log walk list _ inside e ∙ put-fits (item_numbers (place_of walk) i) (walk_numbers later) walk list h in
    subst (λ (o : WalkOutcome). Given (walk_numbers later) (item_numbers (place_of walk) i) list (walk_number o)) (sym put)
    (given-five (item_numbers (place_of walk) i) (walk_numbers later) list refl (nine-after log walk later i inside.nine (item-passes log (walk_of walk) i later e)) h)

pub walk-end-given : WalkEndGiven
walk-end-given log walk list n inside s h =
    let e = stepped log (walk_of walk) (last (end n)) s in
    let put = advance-answered log walk list _ inside e ∙ put-fits (end_numbers (place_of walk) n) walk walk list h in
    subst (λ (o : WalkOutcome). Given walk (end_numbers (place_of walk) n) list (walk_number o)) (sym put)
    (given-five (end_numbers (place_of walk) n) walk list refl inside.nine h)

-- ---- calls one after the other

abbrev item_before : List ℕ → Called → Called
item_before numbers c = record { items = numbers ∷ c.items; ending = c.ending; walk = c.walk }

-- an item's kind is not that of the end
item_on : (i : Item) (at : ℕ) (later list : List ℕ) (rest : List ℕ → List ℕ → Called)
    → called_on (record { answer = given 0; walk = later; item = overwrite (item_numbers at i) list }) rest
    ≡ item_before (item_numbers at i) (rest later (overwrite (item_numbers at i) list))
item_on (Item.Command c) at later list rest = refl
item_on (Item.SecondMark s) at later list rest = refl
item_on Item.Tick at later list rest = refl
item_on (Item.Waveform s) at later list rest = refl
item_on (Item.Spectra s) at later list rest = refl

module _ (log : List ℕ) (k : ℕ) (walk list : List ℕ) (inside : Inside log walk) (room : 5 ≤ length list) where
  call-item : (i : Item) (later : Walk) → next_at log (walk_of walk) ≡ record { step = item i; walk = later }
      → called (suc k) log walk list
      ≡ item_before (item_numbers (place_of walk) i) (called k log (walk_numbers later) (overwrite (item_numbers (place_of walk) i) list))
  unfolding called
  call-item i later e =
      ap (λ (o : WalkOutcome). called_on o (called k log))
      (advance-answered log walk list _ inside e ∙ put-fits (item_numbers (place_of walk) i) (walk_numbers later) walk list room)
      ∙ item_on i (place_of walk) (walk_numbers later) list (called k log)

  call-last : (g : Ending) (later : Walk) → next_at log (walk_of walk) ≡ record { step = last g; walk = later }
      → called (suc k) log walk list ≡ record { items = []; ending = ending_numbers (place_of walk) g; walk = walk }
  unfolding called
  call-last (end n) later e =
      ap (λ (o : WalkOutcome). called_on o (called k log))
      (advance-answered log walk list _ inside e ∙ put-fits (end_numbers (place_of walk) n) walk walk list room)
  call-last (refused_at n offset) later e =
      ap (λ (o : WalkOutcome). called_on o (called k log)) (advance-answered log walk list _ inside e)

  -- the items and the ending are those of the walk, if the calls after an item's are
  call-walked : ((i : Item) (later : Walk) → Passes log (walk_of walk) i later
      → called k log (walk_numbers later) (overwrite (item_numbers (place_of walk) i) list) ≡ walked_numbers later.at (walk_from log later))
      → (s : Stepped) (later : Walk) → next_at log (walk_of walk) ≡ record { step = s; walk = later }
      → called (suc k) log walk list ≡ walked_numbers (place_of walk) (walk_from log (walk_of walk))
  call-walked rest (item i) later e =
      let p = item-passes log (walk_of walk) i later e in
      call-item i later e
      ∙ ap (item_before (item_numbers (place_of walk) i)) (rest i later p ∙ ap (λ (at : ℕ). walked_numbers at (walk_from log later)) p.place)
      ∙ ap (walked_numbers (place_of walk)) (sym (from-item log (walk_of walk) i later e))
  call-walked rest (last g) later e =
      call-last g later e
      ∙ ap (λ (w : List ℕ). record { items = []; ending = ending_numbers (place_of walk) g; walk = w }) (sym (numbers-return walk (omega (arith, inside.nine))))
      ∙ ap (λ (w : Walk). walked_numbers (place_of walk) (record { items = []; ending = g; walk = w })) (sym (ending-stays log (walk_of walk) g later e))
      ∙ ap (walked_numbers (place_of walk)) (sym (from_last log (walk_of walk) g later e))

inside-after : (log walk : List ℕ) (later : Walk) (i : Item) → Inside log walk → Passes log (walk_of walk) i later → Inside log (walk_numbers later)
inside-after log walk later i inside p =
    record { short = inside.short; nine = nine-after log walk later i inside.nine p; near = omega (arith, p.inside, inside.short) }

calls-walked : (k : ℕ) (log walk list : List ℕ) → Inside log walk → 5 ≤ length list → length log < place_of walk + suc k
    → called (suc k) log walk list ≡ walked_numbers (place_of walk) (walk_from log (walk_of walk))
calls-walked zero log walk list inside room h =
    call-walked log zero walk list inside room (λ i later p. absurd (omega (arith, p.place, p.some, p.inside)))
    (next_at log (walk_of walk)).step (next_at log (walk_of walk)).walk refl
calls-walked (suc k) log walk list inside room h =
    call-walked log (suc k) walk list inside room
    (λ i later p.
    calls-walked k log (walk_numbers later) (overwrite (item_numbers (place_of walk) i) list) (inside-after log walk later i inside p)
    (omega (arith, length-overwrite (item_numbers (place_of walk) i) list room)) (omega (arith, p.place, p.some)))
    (next_at log (walk_of walk)).step (next_at log (walk_of walk)).walk refl

pub items-from-walk : ItemsFromWalk
items-from-walk zero log walk list inside room h = absurd (omega arith)
items-from-walk (suc k) log walk list inside room h = calls-walked k log walk list inside room (omega arith)

pub items-by-calls : ItemsByCalls
unfolding walked
items-by-calls k log list short room h = items-from-walk k log (replicate 9 0) list (record { short = short; nine = refl; near = omega arith }) room h
