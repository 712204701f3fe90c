-- What 02's ticket 9 claims of whole lists of calls, from any sound state. Assumes nothing.
use Prim.Native.Nat.{ℕ, ◌+◌, ◌≤◌, ◌<◌, min}
use mathlib.Core.Path.{◌≡◌, refl, sym, ap, ◌∙◌}
use mathlib.Core.Bool.{true, false, cond, not, true≢false}
use mathlib.Core.List.{List, [], ◌∷◌}
use native.Mathlib.Omega.{arith}
use borrow.Author.Tests.{le-leb, leb-true, le-ltb, ltb-true, ltb-false, not-true}
use lib.ListN.{length}
use lib.Dec.{leb, ltb}
use Rattle.lists.proofs.Sums.{all_to-of, all_to-at}
use Rattle.lists.proofs.Choices.{by_cases}
use Rattle.bursts.specs.declared.Slots.{Slots}
use Rattle.bursts.specs.declared.SlotState.{SlotState}
use Rattle.bursts.specs.declared.SlotState.TheVariants.{Free, Held, Sending}
use Rattle.bursts.specs.Slots.{slot_state_of, is_free, is_sending, held_below, smallest_held, no_slot, sending_slots, changed, looked_at, takes, refused_after, offer_outcome}
use Rattle.bursts.specs.Calls.{Call, offer, choose, finish, perform, after_calls, offers, NoFinish}
use Rattle.bursts.specs.Claims.{Sound, held_from, held_at_least, offered_at_least, BurstsKept, TurnedAwayExactly}
use Rattle.bursts.proofs.Rules.{sound-few}
use Rattle.bursts.proofs.Cases.{offer-cases}
use Rattle.bursts.proofs.Totals.{passing-changed, passing-le, passing-all, passing-none}
use Rattle.bursts.proofs.Kept as kept

-- ---- lists of calls

all_sound : (cs : List Call) (s : Slots) → Sound s → Sound (after_calls s cs)
unfolding after_calls
all_sound [] s ok = ok
all_sound (c ∷ cs) s ok = all_sound cs (perform s c) (kept.stays-sound c s ok)

all-many : (cs : List Call) (s : Slots) → Sound s → (after_calls s cs).count ≡ s.count
unfolding after_calls
all-many [] s ok = refl
all-many (c ∷ cs) s ok = all-many cs (perform s c) (kept.stays-sound c s ok) ∙ kept.as_many c s ok

all-stays : (cs : List Call) (s : Slots) → Sound s → NoFinish cs → (i : ℕ) → i < s.count → slot_state_of s i ≡ Sending →
    slot_state_of (after_calls s cs) i ≡ Sending
unfolding after_calls
all-stays [] s ok h i l e = e
all-stays (offer x ∷ cs) s ok h i l e =
    all-stays cs (perform s (offer x)) (kept.stays-sound (offer x) s ok) h i (omega (arith, kept.as_many (offer x) s ok))
    (kept.offer-stays x s ok i e)
all-stays (choose ∷ cs) s ok h i l e =
    all-stays cs (perform s choose) (kept.stays-sound choose s ok) h i (omega (arith, kept.as_many choose s ok))
    (kept.choose-stays s i l e)
all-stays (finish ∷ cs) s ok h i l e = absurd h

-- ---- the best are held

-- every slot is held with a criterion of at least m
held_all : (a : SlotState) (m x : ℕ) → x ≤ m → not (is_free a) ≡ true → is_sending a ≡ false → not (held_below m a) ≡ true → held_from x a ≡ true
held_all Free m x h f g k = absurd (true≢false (sym f))
held_all (Held c) m x h f g k = le-leb x c (omega (arith, ltb-false c m (not-true _ k)))
held_all Sending m x h f g k = absurd (true≢false g)

full : (s : Slots) (m x : ℕ) → x ≤ m → no_slot s is_free ≡ true → sending_slots s ≡ 0 → no_slot s (held_below m) ≡ true → held_at_least x s ≡ s.count
unfolding held_at_least sending_slots
full s m x h f g k =
    passing-all (held_from x) s
    (λ i l.
    held_all (slot_state_of s i) m x h (all_to-at s.count (λ j. not (is_free (slot_state_of s j))) f i l) (passing-none is_sending s g i l)
    (all_to-at s.count (λ j. not (held_below m (slot_state_of s j))) k i l))

-- one offer
free-none : (x : ℕ) (a : SlotState) → is_free a ≡ true → ◌≡◌ {A = ℕ} (cond (held_from x a) 1 0) 0
free-none x Free f = refl
free-none x (Held c) f = absurd (true≢false (sym f))
free-none x Sending f = refl

-- where the smallest criterion is m, and some criterion is smaller than y, m is
smaller-than : (s : Slots) (m y : ℕ) → no_slot s (held_below m) ≡ true → no_slot s (held_below y) ≡ false → m < y
smaller-than s m y k g =
    by_cases (ltb m y) (ltb-true m y)
    (λ e.
    let none : no_slot s (held_below y) ≡ true =
    all_to-of s.count (λ j. not (held_below y (slot_state_of s j)))
    (λ j l. less (slot_state_of s j) (ltb-false m y e) (all_to-at s.count (λ i. not (held_below m (slot_state_of s i))) k j l)) in
    absurd (true≢false (sym none ∙ g)))
  where
    less : (a : SlotState) → y ≤ m → not (held_below m a) ≡ true → not (held_below y a) ≡ true
    less Free h k = refl
    less (Held c) h k = ap not (le-ltb c y (omega (arith, ltb-false c m (not-true _ k))))
    less Sending h k = refl

replaced-best : (s : Slots) (y x n : ℕ) (a : SlotState) → no_slot s is_free ≡ true → sending_slots s ≡ 0 → no_slot s (held_below y) ≡ false →
    smallest_held s a ≡ true → n ≤ s.count → held_at_least x s ≤ s.count →
    n + cond (held_from x a) 1 0 ≡ held_at_least x s + cond (leb x y) 1 0 → n ≡ min s.count (held_at_least x s + cond (leb x y) 1 0)
replaced-best s y x n Free f z g k few most e = absurd (true≢false (sym k))
replaced-best s y x n (Held m) f z g k few most e =
    by_cases (leb x m)
    (λ t.
    let h : leb x y ≡ true = le-leb x y (omega (arith, leb-true x m t, smaller-than s m y k g)) in
    let e' : n + 1 ≡ held_at_least x s + 1 = simp (t, h) at e in
    simp h (omega (arith, e', full s m x (leb-true x m t) f z k)))
    (λ t. let e' : n + 0 ≡ held_at_least x s + cond (leb x y) 1 0 = rw t at e in omega (arith, e'))
replaced-best s y x n Sending f z g k few most e = absurd (true≢false (sym k))

offer-best : (s : Slots) → Sound s → sending_slots s ≡ 0 → (y x : ℕ) →
    held_at_least x (perform s (offer y)) ≡ min s.count (held_at_least x s + cond (leb x y) 1 0)
unfolding held_at_least
offer-best s ok z y x =
    let within : (p : ℕ) → p < s.count → p < length s.slot = λ p l. omega (arith, ok.whole, sound-few s ok.state) in
    let one : (p : ℕ) → p < s.count → held_at_least x (changed s p (Held y)) + cond (held_from x (slot_state_of s p)) 1 0 ≡ held_at_least x s + cond (leb x y) 1 0 =
    λ p l. passing-changed (held_from x) s p (Held y) l (within p l) in
    let most = passing-le (held_from x) s in
    offer-cases s (λ (t : Slots). held_at_least x t ≡ min s.count (held_at_least x s + cond (leb x y) 1 0)) y
    (λ p l f. omega (arith, one p l, free-none x (slot_state_of s p) f, passing-le (held_from x) (changed s p (Held y))))
    (λ n g p l k. replaced-best s y x _ (slot_state_of s p) n z g k (passing-le (held_from x) (changed s p (Held y))) most (one p l))
    (λ n g.
    by_cases (leb x y)
    (λ t. simp t (omega (arith, full s y x (leb-true x y t) n z g)))
    (λ t. simp t (omega (arith, most))))
    ok.state

held-le : (s : Slots) (x : ℕ) → held_at_least x s ≤ s.count
unfolding held_at_least
held-le s x = passing-le (held_from x) s

all-best : (xs : List ℕ) (s : Slots) → Sound s → sending_slots s ≡ 0 → (x : ℕ) →
    held_at_least x (after_calls s (offers xs)) ≡ min s.count (held_at_least x s + offered_at_least x xs)
unfolding after_calls offered_at_least
all-best [] s ok z x = omega (arith, held-le s x)
all-best (y ∷ ys) s ok z x =
    let t = perform s (offer y) in
    omega (
      arith,
      all-best ys t (kept.stays-sound (offer y) s ok) (omega (arith, kept.offer-sending s ok y)) x,
      offer-best s ok z y x,
      kept.as_many (offer y) s ok,
    )

-- an offer that is not greater than the smallest changes nothing
turned-away-stays : (s : Slots) → Sound s → (x : ℕ) → no_slot s is_free ≡ true → no_slot s (held_below x) ≡ true → perform s (offer x) ≡ s
turned-away-stays s ok x f g =
    offer-cases s (λ (t : Slots). t ≡ s) x
    (λ p l e. absurd (true≢false (sym (all_to-at s.count (λ j. not (is_free (slot_state_of s j))) f p l) ∙ ap not e)))
    (λ n h p l k. absurd (true≢false (sym g ∙ h)))
    (λ n h. refl)
    ok.state

-- ---- all of it

pub bursts-kept : BurstsKept
bursts-kept s ok =
    record {
      stays-sound = λ cs. all_sound cs s ok;
      as_many = λ cs. all-many cs s ok;
      sending-stays = λ cs. all-stays cs s ok;
      sending-finished = kept.sending-finished s ok;
      best-held = λ z xs x. all-best xs s ok z x;
      turned-away-stays = turned-away-stays s ok;
    }

-- ---- turned away, in both directions

takes-refused : {A : Type 0} (i n k m : ℕ) → takes i n ≡ refused_after k m → A
takes-refused i n k m e = let z : ◌≡◌ {A = ℕ} 0 1 = cc in absurd (omega arith)

pub turned-away-exactly : TurnedAwayExactly
unfolding offer_outcome
turned-away-exactly s x ok = (λ t. only t.0 t.1, λ p. (looked_at s, rw (ok, p.0, p.1)))
  where
    only : (looked : ℕ) → (offer_outcome s x).answer ≡ refused_after 25 looked → (no_slot s is_free ≡ true) × (no_slot s (held_below x) ≡ true)
    only looked e =
        by_cases (no_slot s is_free)
        (λ f. by_cases (no_slot s (held_below x)) (λ g. (f, g)) (λ g. takes-refused _ _ 25 looked (rw (ok, f, g) at e)))
        (λ f. takes-refused _ _ 25 looked (rw (ok, f) at e))
