-- What the searches of the slots looked at say of the three calls' answers. Assumes nothing.
use Prim.Native.Nat.{ℕ, ◌+◌, ◌≤◌, ◌<◌}
use mathlib.Core.Path.{◌≡◌, refl, sym, ap, ap₂, ◌∙◌}
use mathlib.Core.Bool.{Bool, true, false, not, true≢false}
use mathlib.Core.List.{List}
use native.Mathlib.Omega.{arith}
use borrow.Author.Tests.{ltb-true, ltb-false, lt-ltb, le-ltb}
use lib.Dec.{ltb}
use lib.ListN.{length, take}
use Rattle.std.specs.Prelude.{Option, Some, None}
use Rattle.std.specs.Option.{is_some, ok_or}
use Rattle.std.specs.List.{position}
use Rattle.refusal.specs.declared.Refusal.{Refusal}
use Rattle.refusal.specs.Outcome.{Outcome, given, refused, answer_outcome}
use Rattle.lists.proofs.Choices.{by_cases}
use Rattle.lists.proofs.Lowest.{none_passes}
use Rattle.bursts.specs.declared.Slot.{Slot}
use Rattle.bursts.specs.declared.Slots.{Slots}
use Rattle.bursts.specs.declared.SlotState.{SlotState}
use Rattle.bursts.specs.declared.SlotState.TheVariants.{Free, Sending}
use Rattle.bursts.specs.Slots.{slot_state_of, is_free, is_sending, lowest_slot, no_slot, greatest_held, sound, looked_at, takes, refused_after, refused_alone, changed, OfferAnswered, OfferOutcome, SlotsOutcome, offer_outcome, choose_outcome, finish_outcome}
use Rattle.bursts.specs.Searches.{listed, slot_below, slot_found, smallest_below, place_for, place_answer}
use Rattle.bursts.proofs.Cases.{some-passes}
use Rattle.bursts.proofs.Rules.{choose-by-place, finish-by-place, offer-by-place}
use Rattle.bursts.proofs.Looking.{same-lowest, same-greatest, same-search}
use Rattle.bursts.proofs.Listed.{position-listed, front, as_many, alike}

slot-some : (n i j : ℕ) → slot_below n i ≡ Some j → (i ≡ j) × (i < n)
slot-some n i j e =
    by_cases (ltb i n) (λ l. (let h : ◌≡◌ {A = Option ℕ} (Some i) (Some j) = rw l at e in cc, ltb-true i n l))
    (λ l. let h : ◌≡◌ {A = Option ℕ} None (Some j) = rw l at e in let z : ◌≡◌ {A = ℕ} 0 1 = cc in absurd (omega arith))

slot-none : (n i : ℕ) → slot_below n i ≡ None → n ≤ i
slot-none n i e =
    by_cases (ltb i n) (λ l. let h : ◌≡◌ {A = Option ℕ} (Some i) None = rw l at e in let z : ◌≡◌ {A = ℕ} 0 1 = cc in absurd (omega arith))
    (λ l. ltb-false i n l)

-- ---- the search for an offer's slot

module _ (l : List Slot) (x : ℕ) where
  abbrev slots : Slots
  slots = listed l

  none-free : no_slot slots is_free ≡ not (ltb (lowest_slot slots is_free) (length l))
  none-free = none_passes (length l) (λ i. is_free (slot_state_of slots i))

  pub place-free : (i : ℕ) → position (λ b. is_free b.state) l ≡ Some i → takes i (i + 1) ≡ place_answer slots x
  unfolding place_for looked_at
  place-free i e =
      let h = slot-some (length l) (lowest_slot slots is_free) i (sym (position-listed is_free l) ∙ e) in
      let t = lt-ltb (lowest_slot slots is_free) (length l) h.1 in
      let free : no_slot slots is_free ≡ false = none-free ∙ ap not t in
      simp (free, t) (ap (λ (j : ℕ). takes j (j + 1)) (sym h.0))

  not-free : position (λ b. is_free b.state) l ≡ None → no_slot slots is_free ≡ true
  not-free e = none-free ∙ ap not (le-ltb _ _ (slot-none (length l) (lowest_slot slots is_free) (sym (position-listed is_free l) ∙ e)))

  pub place-held : (i : ℕ) → position (λ b. is_free b.state) l ≡ None → smallest_below slots x ≡ Some i → takes i (length l) ≡ place_answer slots x
  unfolding place_for looked_at smallest_below
  place-held i e f =
      let h = slot-some (length l) _ i f in
      simp (not-free e, lt-ltb _ _ h.1) (ap (λ (j : ℕ). takes j (length l)) (sym h.0))

  pub place-away : position (λ b. is_free b.state) l ≡ None → smallest_below slots x ≡ None → refused_after 25 (length l) ≡ place_answer slots x
  unfolding place_for looked_at smallest_below
  place-away e f = simp (not-free e, le-ltb _ _ (slot-none (length l) _ f))

-- ---- the calls

looked-le : (s : Slots) → looked_at s ≤ s.count
unfolding looked_at
looked-le s =
    let test : ℕ → Bool = λ i. is_free (slot_state_of s i) in
    by_cases (no_slot s is_free) (λ e. simp e (omega arith)) (λ e. simp e (omega (arith, some-passes s.count test (no_slot s is_free) (none_passes s.count test) e)))

module _ (s : Slots) (room : s.count ≤ length s.slot) where
  abbrev first : Slots
  first = front s room

  found-first : (f g : SlotState → Bool) → ((a : SlotState) → f a ≡ g a) → slot_found first f ≡ slot_found s g
  found-first f g same = ap₂ slot_below (as_many s room) (same-lowest first s (as_many s room) (alike s room) f g same)

  pub sending-first : position (λ b. is_sending b.state) (take s.count s.slot) ≡ slot_found s is_sending
  sending-first = position-listed is_sending (take s.count s.slot) ∙ found-first is_sending is_sending (λ a. refl)

  pub greatest-first : slot_found first (greatest_held first) ≡ slot_found s (greatest_held s)
  greatest-first = found-first (greatest_held first) (greatest_held s) (same-greatest first s (as_many s room) (alike s room))

  pub place-first : (x : ℕ) → place_answer first x ≡ place_answer s x
  place-first x =
      let many = as_many s room in
      let same = same-search first s many x (λ j l. alike s room j (omega (arith, l, looked-le first))) in
      rw (same.0, same.1, many) refl

-- an unsound state

offer-answer : (o : OfferOutcome) {a : OfferAnswered} {t : Slots} → o ≡ record { answer = a; slots = t } → a ≡ o.answer
offer-answer o e = ap (λ (p : OfferOutcome). p.answer) (sym e)

answer : (o : SlotsOutcome) {a : Outcome ℕ} {t : Slots} → o ≡ record { answer = a; slots = t } → a ≡ o.answer
answer o e = ap (λ (p : SlotsOutcome). p.answer) (sym e)

pub offer-unsound : (s : Slots) (x : ℕ) → sound s ≡ false → refused_alone 3 ≡ (offer_outcome s x).answer
offer-unsound s x e = offer-answer (offer_outcome s x) {t = s} (offer-by-place s x ∙ simp e)

pub choose-unsound : (s : Slots) → sound s ≡ false → refused 3 ≡ (choose_outcome s).answer
choose-unsound s e = answer (choose_outcome s) {t = s} (choose-by-place s ∙ simp e)

pub finish-unsound : (s : Slots) → sound s ≡ false → refused 3 ≡ (finish_outcome s).answer
finish-unsound s e = answer (finish_outcome s) {t = s} (finish-by-place s ∙ simp e)

-- a sound state

module _ (s : Slots) (ok : sound s ≡ true) where
  pub choose-busy : is_some (slot_found s is_sending) ≡ true → refused 27 ≡ (choose_outcome s).answer
  choose-busy e =
      by_cases (ltb (lowest_slot s is_sending) s.count) (λ t. answer (choose_outcome s) {t = s} (choose-by-place s ∙ simp (ok, t)))
      (λ t. absurd (true≢false (sym (rw t at e))))

  pub choose-greatest : is_some (slot_found s is_sending) ≡ false → answer_outcome (ok_or (slot_found s (greatest_held s)) Refusal.NothingToSend) ≡ (choose_outcome s).answer
  choose-greatest e =
      let p = lowest_slot s (greatest_held s) in
      by_cases (ltb (lowest_slot s is_sending) s.count) (λ t. absurd (true≢false (rw t at e)))
      (λ t.
      by_cases (ltb p s.count)
      (λ u. rw u (answer (choose_outcome s) {a = given p} {t = changed s p Sending} (choose-by-place s ∙ simp (ok, t, u))))
      (λ u. rw u (answer (choose_outcome s) {a = refused 26} {t = s} (choose-by-place s ∙ simp (ok, t, u)))))

  pub finish-sending : answer_outcome (ok_or (slot_found s is_sending) Refusal.NoneSending) ≡ (finish_outcome s).answer
  finish-sending =
      let p = lowest_slot s is_sending in
      by_cases (ltb p s.count)
      (λ t. rw t (answer (finish_outcome s) {a = given p} {t = changed s p Free} (finish-by-place s ∙ simp (ok, t))))
      (λ t. rw t (answer (finish_outcome s) {a = refused 28} {t = s} (finish-by-place s ∙ simp (ok, t))))
