-- The slots of two lists, and the bounds of the answers. Assumes nothing.
use Prim.Native.Nat.{ℕ, zero, suc, ◌+◌, ◌^◌, ◌≤◌, ◌<◌}
use mathlib.Core.Path.{◌≡◌, refl, sym, ap, ◌∙◌, subst}
use mathlib.Core.Bool.{Bool, true, false, cond, not, ◌&&◌}
use mathlib.Core.List.{List, [], ◌∷◌}
use native.Mathlib.Omega.{arith}
use borrow.Author.Tests.{lt-ltb, ltb-true, leb-true, eq-eqb, ne_eqb, eqb-true, not-false}
use lib.Dec.{leb, ltb, eqb}
use lib.ListN.{length, get_or, replicate, get_or-replicate}
use Rattle.std.specs.List.{list_all}
use Rattle.lists.specs.Sums.{all_to}
use Rattle.lists.specs.Tables.{tabulate, overwrite}
use Rattle.lists.proofs.Choices.{both, cond-at}
use Rattle.lists.proofs.Lowest.{lowest-le}
use Rattle.lists.proofs.Overwriting.{overwrite-tabulate}
use Rattle.bursts.specs.declared.Slot.{Slot}
use Rattle.bursts.specs.declared.Slots.{Slots}
use Rattle.bursts.specs.declared.SlotState.TheVariants.{Free}
use Rattle.refusal.specs.Outcome.{given, refused}
use Rattle.bursts.specs.Slots.{slot_state_of, is_free, is_sending, greatest_held, lowest_slot, no_slot, sound, looked_at, SlotsOutcome, takes, refused_after, OfferOutcome, offer_outcome, choose_outcome, finish_outcome}
use Rattle.bursts.specs.Searches.{place_for}
use Rattle.bursts.proofs.Rules.{sound-few, offer-by-place, choose-by-place, finish-by-place}
use Rattle.dfb_refusals.specs.Numbers.{above16}
use Rattle.dfb_refusals.proofs.Apart.{Below, given_below, refused-below}
use Rattle.dfb_bursts.specs.Claims.{OfferParts}
use Rattle.dfb_bursts.specs.Bursts.{are_slots, lists_refused, slot_from, slots_of, statuses, criteria_of, BurstCall, burst_left, slots_left, on_slots, done_call, offer_call}

all-first : (n : ℕ) (f : ℕ → Bool) → all_to (suc n) f ≡ (f 0 && all_to n (λ i. f (suc i)))
unfolding all_to
all-first zero f = and-true (f 0)
  where
    and-true : (t : Bool) → t ≡ (t && true)
    and-true true = refl
    and-true false = refl
all-first (suc n) f = ap (λ (t : Bool). t && f (suc n)) (all-first n f) ∙ and-assoc (f 0) _ _
  where
    and-assoc : (a b c : Bool) → ((a && b) && c) ≡ (a && (b && c))
    and-assoc true b c = refl
    and-assoc false b c = refl

all-listed : (l : List ℕ) → list_all (λ entry. leb entry 2) l ≡ all_to (length l) (λ i. leb (get_or l i 0) 2)
unfolding all_to
all-listed [] = refl
all-listed (x ∷ l) = ap (λ (t : Bool). leb x 2 && t) (all-listed l) ∙ sym (all-first (length l) (λ i. leb (get_or (x ∷ l) i 0) 2))

pub statuses-all : (status : List ℕ) → (leb (length status) 32 && list_all (λ entry. leb entry 2) status) ≡ are_slots status
unfolding are_slots
statuses-all status = ap (λ (t : Bool). leb (length status) 32 && t) (all-listed status)

get_d_past : (l : List ℕ) (i : ℕ) → length l ≤ i → get_or l i 0 ≡ 0
get_d_past [] i h = refl
get_d_past (x ∷ l) zero h = absurd (omega arith)
get_d_past (x ∷ l) (suc i) h = get_d_past l i (omega arith)

-- the slots filled from the lists, over slots that are free
pub loaded : (status criteria : List ℕ) (slot : List Slot) (i : ℕ) → length status ≤ 32 → i ≡ length status →
    slot ≡ overwrite (tabulate i (λ j. slot_from (get_or status j 0) (get_or criteria j 0))) (replicate 32 (record { state = Free })) →
    ◌≡◌ {A = Slots} (record { slot = slot; count = length status }) (slots_of status criteria)
unfolding slots_of
loaded status criteria slot i few end e =
    let f : ℕ → Slot = λ j. slot_from (get_or status j 0) (get_or criteria j 0) in
    let free : Slot = record { state = Free } in
    ap (λ (l : List Slot). record { slot = l; count = length status })
    (e ∙ overwrite-tabulate f i 32 (replicate 32 free) free (omega arith) refl
    (λ j p q. get_or-replicate 32 j free free q ∙ sym (ap (λ (n : ℕ). slot_from n (get_or criteria j 0)) (get_d_past status j (omega arith)))))

-- a list of which every entry is replaced
pub stored : (f : ℕ → ℕ) (l l₀ : List ℕ) (i n : ℕ) → n ≡ length l₀ → i ≡ n → l ≡ overwrite (tabulate i f) l₀ → l ≡ tabulate n f
stored f l l₀ i n long end e =
    e ∙ overwrite-tabulate f i n l₀ 0 (omega arith) (sym long) (λ j p q. absurd (omega arith))

-- the two lists after an accepted call
pub written-lists : (n : ℕ) (status l k : List ℕ) (s : Slots) → l ≡ statuses (length status) s → k ≡ criteria_of (length status) s →
    ◌≡◌ {A = BurstCall} (record { answer = n; status = l; criteria = k }) (slots_left n status s)
written-lists n status l k s e f =
    ap (λ (m : List ℕ). record { answer = n; status = m; criteria = k }) e
    ∙ ap (λ (m : List ℕ). record { answer = n; status = statuses (length status) s; criteria = m }) f

pub few-slots : (status : List ℕ) → are_slots status ≡ true → length status ≤ 32
unfolding are_slots
few-slots status e = leb-true (length status) 32 (both _ _ e).0

-- the cases of two lists
module _ (status criteria : List ℕ) where
  pub lists-unsound : length status ≡ length criteria → are_slots status ≡ false → above16 + 3 ≡ lists_refused status criteria
  lists-unsound same e = simp (eq-eqb (length status) (length criteria) same, e)

  pub lists-of-slots : length status ≡ length criteria → are_slots status ≡ true → 0 ≡ lists_refused status criteria
  lists-of-slots same e = simp (eq-eqb (length status) (length criteria) same, e)

  neither : (p q : Bool) → cond p (above16 + 2) (cond q (above16 + 3) 0) ≡ 0 → (p ≡ false) × (q ≡ false)
  neither true q e = absurd (omega (arith, e))
  neither false true e = absurd (omega (arith, e))
  neither false false e = (refl, refl)

  pub slots-alike : lists_refused status criteria ≡ 0 → length status ≡ length criteria
  slots-alike e = eqb-true (length status) (length criteria) (not-false _ (neither (not (eqb (length status) (length criteria))) (not (are_slots status)) e).0)

  pub slots-few : lists_refused status criteria ≡ 0 → length status ≤ 32
  slots-few e = few-slots status (not-false _ (neither (not (eqb (length status) (length criteria))) (not (are_slots status)) e).1)

  -- refused as the lists are
  pub on-refused : (n : ℕ) (call : BurstCall) → lists_refused status criteria ≡ above16 + n → burst_left (above16 + n) status criteria ≡ on_slots status criteria call
  on-refused n call e = simp (e, ne_eqb (above16 + n) 0 (λ z. absurd (omega arith)))

  pub on-slots : (call : BurstCall) → lists_refused status criteria ≡ 0 → call ≡ on_slots status criteria call
  on-slots call e = simp (eq-eqb (lists_refused status criteria) 0 e)

-- the answers fit 32 bits, and a slot is below the refusals
module _ (status criteria : List ℕ) where
  pub record SmallDone (o : SlotsOutcome) : Type 0 where
    pub fits : (done_call status criteria o.answer o.slots).answer < 2 ^ 32
    pub below : Below above16 o.answer

  pub record SmallOffer (o : OfferOutcome) : Type 0 where
    pub fits : (offer_call status criteria o.answer o.slots).answer < 2 ^ 32
    pub apart : OfferParts (offer_call status criteria o.answer o.slots).answer o.answer

  done_refused : (n : ℕ) (s : Slots) → n ≤ 29 → SmallDone (record { answer = refused n; slots = s })
  done_refused n s h = record { fits = omega arith; below = refused-below above16 n }

  done-slot : (i : ℕ) (s : Slots) → i < 32 → SmallDone (record { answer = given i; slots = s })
  done-slot i s h = record { fits = omega arith; below = given_below above16 i (omega arith) }

  pub choose-small : (s : Slots) → SmallDone (choose_outcome s)
  choose-small s =
      subst SmallDone (sym (choose-by-place s))
      (cond-at SmallDone (not (sound s)) (λ e. done_refused 3 s (omega arith))
      (λ e. cond-at SmallDone (ltb (lowest_slot s is_sending) s.count) (λ f. done_refused 27 s (omega arith))
      (λ f. cond-at SmallDone (ltb (lowest_slot s (greatest_held s)) s.count)
      (λ g. done-slot (lowest_slot s (greatest_held s)) _ (omega (arith, sound-few s (not-false _ e), ltb-true (lowest_slot s (greatest_held s)) s.count g)))
      (λ g. done_refused 26 s (omega arith)))))

  pub finish-small : (s : Slots) → SmallDone (finish_outcome s)
  finish-small s =
      subst SmallDone (sym (finish-by-place s))
      (cond-at SmallDone (not (sound s)) (λ e. done_refused 3 s (omega arith))
      (λ e. cond-at SmallDone (ltb (lowest_slot s is_sending) s.count)
      (λ g. done-slot (lowest_slot s is_sending) _ (omega (arith, sound-few s (not-false _ e), ltb-true (lowest_slot s is_sending) s.count g)))
      (λ g. done_refused 28 s (omega arith))))

  looked-few : (s : Slots) → looked_at s ≤ s.count + 1
  unfolding looked_at
  looked-few s =
      cond-at (λ (n : ℕ). n ≤ s.count + 1) (no_slot s is_free) (λ e. omega arith)
      (λ e. omega (arith, lowest-le s.count (λ i. is_free (slot_state_of s i))))

  offer-taken : (i looked : ℕ) (s : Slots) → i < 32 → looked ≤ 33 → SmallOffer (record { answer = takes i looked; slots = s })
  offer-taken i looked s h k =
      record { fits = omega arith; apart = record { low = omega arith; looked = omega arith; taken = lt-ltb i above16 (omega arith) } }

  offer-turned-away : (looked : ℕ) (s : Slots) → looked ≤ 33 → SmallOffer (record { answer = refused_after 25 looked; slots = s })
  offer-turned-away looked s h = record { fits = omega arith; apart = record { low = omega arith; looked = omega arith; taken = refl } }

  pub offer-small : (s : Slots) (x : ℕ) → SmallOffer (offer_outcome s x)
  offer-small s x =
      subst SmallOffer (sym (offer-by-place s x))
      (cond-at SmallOffer (not (sound s))
      (λ e. record { fits = omega arith; apart = record { low = omega arith; looked = omega arith; taken = refl } })
      (λ e. cond-at SmallOffer (ltb (place_for s x) s.count)
      (λ g. offer-taken (place_for s x) (looked_at s) _ (omega (arith, sound-few s (not-false _ e), ltb-true (place_for s x) s.count g)) (omega (arith, sound-few s (not-false _ e), looked-few s)))
      (λ g. offer-turned-away (looked_at s) s (omega (arith, sound-few s (not-false _ e), looked-few s)))))
