-- What each call keeps of a sound state: that it is sound, how many slots it has, and a slot that is sending. Assumes nothing.
use Prim.Native.Nat.{ℕ, ◌+◌, ◌≤◌, ◌<◌}
use mathlib.Core.Path.{◌≡◌, refl, sym, ap, ◌∙◌}
use mathlib.Core.Bool.{Bool, true, false, cond, not, true≢false}
use native.Mathlib.Omega.{arith}
use borrow.Author.Tests.{leb-true, le-leb}
use lib.ListN.{length, length-set}
use lib.Dec.{leb}
use Rattle.lists.proofs.Sums.{all_to-false}
use Rattle.lists.proofs.Choices.{both}
use Rattle.bursts.specs.declared.Slots.{Slots}
use Rattle.bursts.specs.declared.SlotState.{SlotState}
use Rattle.bursts.specs.declared.SlotState.TheVariants.{Free, Held, Sending}
use Rattle.bursts.specs.Slots.{slot_state_of, is_free, is_sending, smallest_held, no_slot, sending_slots, sound, changed, becomes, finish_outcome}
use Rattle.bursts.specs.Calls.{Call, offer, choose, finish, perform}
use Rattle.bursts.specs.Claims.{Sound}
use Rattle.lists.proofs.Lowest.{lowest-at}
use Rattle.bursts.proofs.Rules.{sound-few}
use Rattle.bursts.proofs.Cases.{offer-cases, choose-cases, finish-cases}
use Rattle.bursts.proofs.Totals.{passing, changed-other, passing-changed, passing-zero, passing-none}

-- at most one is sending
pub sound-sending : (s : Slots) → sound s ≡ true → sending_slots s ≤ 1
unfolding sound
sound-sending s e = leb-true (sending_slots s) 1 (both (leb s.count 32) (leb (sending_slots s) 1) e).1

sound-of : (s : Slots) → s.count ≤ 32 → sending_slots s ≤ 1 → sound s ≡ true
unfolding sound
sound-of s h k = rw (le-leb s.count 32 h, le-leb (sending_slots s) 1 k)

within : (s : Slots) → Sound s → (p : ℕ) → p < s.count → p < length s.slot
within s ok p l = omega (arith, ok.whole, sound-few s ok.state)

sending-changed : (s : Slots) → Sound s → (p : ℕ) (a : SlotState) → p < s.count →
    sending_slots (changed s p a) + cond (is_sending (slot_state_of s p)) 1 0 ≡ sending_slots s + cond (is_sending a) 1 0
unfolding sending_slots
sending-changed s ok p a l = passing-changed is_sending s p a l (within s ok p l)

none-sending : (s : Slots) → no_slot s is_sending ≡ true → sending_slots s ≡ 0
unfolding sending_slots
none-sending s e = passing-zero is_sending s e

-- no more are sending after an offer
pub offer-sending : (s : Slots) → Sound s → (x : ℕ) → sending_slots (perform s (offer x)) ≤ sending_slots s
offer-sending s ok x =
    offer-cases s (λ (t : Slots). sending_slots t ≤ sending_slots s) x
    (λ p l f. omega (arith, sending-changed s ok p (Held x) l))
    (λ n g p l f. omega (arith, sending-changed s ok p (Held x) l))
    (λ n g. omega arith)
    ok.state

changed-sound : (s : Slots) → Sound s → (p : ℕ) (a : SlotState) → sending_slots (changed s p a) ≤ 1 → Sound (changed s p a)
changed-sound s ok p a h =
    record { whole = length-set s.slot p _ ∙ ok.whole; state = sound-of (changed s p a) (sound-few s ok.state) h }

pub stays-sound : (c : Call) (s : Slots) → Sound s → Sound (perform s c)
stays-sound (offer x) s ok =
    offer-cases s Sound x
    (λ p l f. changed-sound s ok p (Held x) (omega (arith, sending-changed s ok p (Held x) l, sound-sending s ok.state)))
    (λ n g p l f. changed-sound s ok p (Held x) (omega (arith, sending-changed s ok p (Held x) l, sound-sending s ok.state)))
    (λ n g. ok)
    ok.state
stays-sound choose s ok =
    choose-cases s Sound ok (λ p l e. changed-sound s ok p Sending (omega (arith, sending-changed s ok p Sending l, none-sending s e)))
stays-sound finish s ok =
    finish-cases s Sound ok (λ p l. changed-sound s ok p Free (omega (arith, sending-changed s ok p Free l, sound-sending s ok.state)))

pub as_many : (c : Call) (s : Slots) → Sound s → (perform s c).count ≡ s.count
as_many (offer x) s ok = offer-cases s (λ (t : Slots). t.count ≡ s.count) x (λ p l f. refl) (λ n g p l f. refl) (λ n g. refl) ok.state
as_many choose s ok = choose-cases s (λ (t : Slots). t.count ≡ s.count) refl (λ p l e. refl)
as_many finish s ok = finish-cases s (λ (t : Slots). t.count ≡ s.count) refl (λ p l. refl)

-- a slot that is free or has the smallest criterion is not sending
never : {A : Type 0} (test : SlotState → Bool) (a : SlotState) → test Sending ≡ false → a ≡ Sending → test a ≡ true → A
never test a f e t = absurd (true≢false (sym t ∙ ap test e ∙ f))

pub offer-stays : (x : ℕ) (s : Slots) → Sound s → (i : ℕ) → slot_state_of s i ≡ Sending → slot_state_of (perform s (offer x)) i ≡ Sending
offer-stays x s ok i e =
    offer-cases s (λ (t : Slots). slot_state_of t i ≡ Sending) x
    (λ p l f. changed-other s p i (Held x) (λ q. never is_free (slot_state_of s p) refl (ap (slot_state_of s) (sym q) ∙ e) f) ∙ e)
    (λ n g p l f. changed-other s p i (Held x) (λ q. never (smallest_held s) (slot_state_of s p) refl (ap (slot_state_of s) (sym q) ∙ e) f) ∙ e)
    (λ n g. e)
    ok.state

some-sending : (s : Slots) (i : ℕ) → i < s.count → slot_state_of s i ≡ Sending → no_slot s is_sending ≡ false
some-sending s i l e = all_to-false (λ j. not (is_sending (slot_state_of s j))) s.count i l (ap (λ (a : SlotState). not (is_sending a)) e)

-- only one is sending, so it is the one that is finished
pub sending-finished : (s : Slots) → Sound s → (i : ℕ) → i < s.count → slot_state_of s i ≡ Sending → finish_outcome s ≡ becomes s i Free
unfolding finish_outcome sending_slots
sending-finished s ok i l e =
    let here : ◌≡◌ {A = ℕ} (cond (is_sending (slot_state_of s i)) 1 0) 1 = ap (λ (a : SlotState). cond (is_sending a) 1 0) e in
    let none : passing is_sending (changed s i Free) ≡ 0 =
    omega (arith, here, passing-changed is_sending s i Free l (within s ok i l), sound-sending s ok.state) in
    let before : (j : ℕ) → j < i → is_sending (slot_state_of s j) ≡ false =
    λ j h. ap is_sending (sym (changed-other s i j Free (λ q. omega arith))) ∙ passing-none is_sending (changed s i Free) none j (omega arith) in
    simp (ok.state, some-sending s i l e, lowest-at s.count (λ j. is_sending (slot_state_of s j)) i l (ap is_sending e) before)

pub choose-stays : (s : Slots) (i : ℕ) → i < s.count → slot_state_of s i ≡ Sending → slot_state_of (perform s choose) i ≡ Sending
choose-stays s i l e =
    choose-cases s (λ (t : Slots). slot_state_of t i ≡ Sending) e (λ p h n. absurd (true≢false (sym n ∙ some-sending s i l e)))
