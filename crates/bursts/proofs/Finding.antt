-- What the two searches of the slots find: the held slot with the smallest criterion below an offer's, and the one with the greatest. Assumes nothing.
use Prim.Native.Nat.{ℕ, ◌+◌, ◌-◌, ◌≤◌, ◌<◌}
use mathlib.Core.Path.{◌≡◌, refl, sym, ap, ◌∙◌}
use mathlib.Core.Bool.{Bool, true, false, cond, not, true≢false}
use native.Mathlib.Omega.{arith}
use borrow.Author.Tests.{lt-ltb, le-ltb, ltb-true, ltb-false}
use lib.Dec.{ltb}
use Rattle.lists.proofs.Sums.{all_to-of, all_to-false}
use Rattle.lists.proofs.Choices.{by_cases, cond-true, cond-false}
use Rattle.bursts.specs.declared.Slots.{Slots}
use Rattle.bursts.specs.declared.SlotState.{SlotState}
use Rattle.bursts.specs.declared.SlotState.TheVariants.{Free, Held, Sending}
use Rattle.bursts.specs.Slots.{slot_state_of, is_held, held_below, held_above, lowest_slot, no_slot, smallest_held, greatest_held}
use Rattle.lists.proofs.Lowest.{lowest-at, lowest-none}
use Rattle.lists.proofs.Best.{Best, best}
use Rattle.std.specs.Prelude.{Option, Some, None, option_map}
use Rattle.bursts.specs.Searches.{slot_below}

-- how far a held criterion lies below x
abbrev pub under : ℕ → SlotState → ℕ
under x Free = 0
under x (Held c) = x - c
under x Sending = 0

-- 1 more than a held criterion
abbrev pub worth : SlotState → ℕ
worth Free = 0
worth (Held c) = c + 1
worth Sending = 0

-- what the search for the greatest criterion has: its place, or the number of slots, and 1 more than it
abbrev pub place_of : ℕ → Option (ℕ × ℕ) → ℕ
place_of n None = n
place_of n (Some q) = q.0

abbrev pub top_of : Option (ℕ × ℕ) → ℕ
top_of None = 0
top_of (Some q) = q.1 + 1

pub greatest-place : (n : ℕ) (o : Option (ℕ × ℕ)) → (0 < top_of o → place_of n o < n) → option_map (λ q. q.0) o ≡ slot_below n (place_of n o)
greatest-place n None h = rw (le-ltb n n (omega arith))
greatest-place n (Some q) h = rw (lt-ltb q.0 n (h (omega arith)))

-- a search for the greatest value finds the lowest slot that passes a test, where the test passes exactly the slots of the greatest value
found : (s : Slots) (value : SlotState → ℕ) (test : SlotState → Bool) (place top : ℕ) →
    ((a : SlotState) → 0 < value a → ((j : ℕ) → j < s.count → value (slot_state_of s j) ≤ value a) → test a ≡ true) →
    ((a : SlotState) (p : ℕ) → p < s.count → value a < value (slot_state_of s p) → test a ≡ false) →
    Best s.count (λ j. value (slot_state_of s j)) s.count place top → 0 < top → lowest_slot s test ≡ place
found s value test place top passes fails b h =
    let e = (b.here h).1 in
    lowest-at s.count (λ i. test (slot_state_of s i)) place (b.here h).0
    (passes (slot_state_of s place) (omega (arith, e)) (λ j l. omega (arith, e, b.most j l)))
    (λ j l. fails (slot_state_of s j) place (b.here h).0 (omega (arith, e, b.before h j l)))

module _ (s : Slots) where
  -- ---- the smallest below x

  none-under : (x : ℕ) (a : SlotState) → under x a ≤ 0 → not (held_below x a) ≡ true
  none-under x Free h = refl
  none-under x (Held c) h = ap not (le-ltb c x (omega arith))
  none-under x Sending h = refl

  some-under : (x : ℕ) (a : SlotState) → 0 < under x a → not (held_below x a) ≡ false
  some-under x Free h = absurd (omega arith)
  some-under x (Held c) h = ap not (lt-ltb c x (omega arith))
  some-under x Sending h = absurd (omega arith)

  not-smaller : (x c : ℕ) (a : SlotState) → c < x → under x a ≤ x - c → not (held_below c a) ≡ true
  not-smaller x c Free l h = refl
  not-smaller x c (Held d) l h = ap not (le-ltb d c (omega arith))
  not-smaller x c Sending l h = refl

  is-smaller : (x c : ℕ) (a : SlotState) → x - c < under x a → not (held_below c a) ≡ false
  is-smaller x c Free h = absurd (omega arith)
  is-smaller x c (Held d) h = ap not (lt-ltb d c (omega arith))
  is-smaller x c Sending h = absurd (omega arith)

  smallest-passes : (x : ℕ) (a : SlotState) → 0 < under x a → ((j : ℕ) → j < s.count → under x (slot_state_of s j) ≤ under x a) →
      smallest_held s a ≡ true
  smallest-passes x Free h most = absurd (omega arith)
  smallest-passes x (Held c) h most =
      all_to-of s.count (λ i. not (held_below c (slot_state_of s i))) (λ j l. not-smaller x c (slot_state_of s j) (omega arith) (most j l))
  smallest-passes x Sending h most = absurd (omega arith)

  smallest-fails : (x : ℕ) (a : SlotState) (p : ℕ) → p < s.count → under x a < under x (slot_state_of s p) → smallest_held s a ≡ false
  smallest-fails x Free p l h = refl
  smallest-fails x (Held c) p l h =
      all_to-false (λ i. not (held_below c (slot_state_of s i))) s.count p l (is-smaller x c (slot_state_of s p) h)
  smallest-fails x Sending p l h = refl

  pub smallest-found : (x place top : ℕ) → Best s.count (λ j. under x (slot_state_of s j)) s.count place top →
      cond (no_slot s (held_below x)) s.count (lowest_slot s (smallest_held s)) ≡ place
  smallest-found x place top b =
      by_cases (ltb 0 top)
      (λ t.
      let h = ltb-true 0 top t in
      cond-false (no_slot s (held_below x)) _ _
      (all_to-false (λ i. not (held_below x (slot_state_of s i))) s.count place (b.here h).0
      (some-under x (slot_state_of s place) (omega (arith, (b.here h).1))))
      ∙ found s (under x) (smallest_held s) place top (smallest-passes x) (smallest-fails x) b h)
      (λ t.
      let z : top ≡ 0 = omega (arith, ltb-false 0 top t) in
      cond-true (no_slot s (held_below x)) _ _
      (all_to-of s.count (λ i. not (held_below x (slot_state_of s i))) (λ j l. none-under x (slot_state_of s j) (omega (arith, b.most j l))))
      ∙ sym (b.nothing z))

  -- some slot is held with a criterion below x, so one has the smallest
  pub smallest-some : (x : ℕ) → no_slot s (held_below x) ≡ false → lowest_slot s (smallest_held s) < s.count
  smallest-some x e =
      let (place, top, b) = best s.count (λ j. under x (slot_state_of s j)) s.count in
      let p : lowest_slot s (smallest_held s) ≡ place = sym (cond-false (no_slot s (held_below x)) _ _ e) ∙ smallest-found x place top b in
      by_cases (ltb 0 top)
      (λ t. omega (arith, p, b.here (ltb-true 0 top t)))
      (λ t.
      let a : no_slot s (held_below x) ≡ true =
      all_to-of s.count (λ i. not (held_below x (slot_state_of s i))) (λ j l. none-under x (slot_state_of s j) (omega (arith, ltb-false 0 top t, b.most j l))) in
      absurd (true≢false (sym a ∙ e)))

  -- ---- the greatest

  not-greater : (c : ℕ) (a : SlotState) → worth a ≤ c + 1 → not (held_above c a) ≡ true
  not-greater c Free h = refl
  not-greater c (Held d) h = ap not (le-ltb c d (omega arith))
  not-greater c Sending h = refl

  is_greater : (c : ℕ) (a : SlotState) → c + 1 < worth a → not (held_above c a) ≡ false
  is_greater c Free h = absurd (omega arith)
  is_greater c (Held d) h = ap not (lt-ltb c d (omega arith))
  is_greater c Sending h = absurd (omega arith)

  greatest-passes : (a : SlotState) → 0 < worth a → ((j : ℕ) → j < s.count → worth (slot_state_of s j) ≤ worth a) → greatest_held s a ≡ true
  greatest-passes Free h most = absurd (omega arith)
  greatest-passes (Held c) h most =
      all_to-of s.count (λ i. not (held_above c (slot_state_of s i))) (λ j l. not-greater c (slot_state_of s j) (most j l))
  greatest-passes Sending h most = absurd (omega arith)

  greatest-fails : (a : SlotState) (p : ℕ) → p < s.count → worth a < worth (slot_state_of s p) → greatest_held s a ≡ false
  greatest-fails Free p l h = refl
  greatest-fails (Held c) p l h =
      all_to-false (λ i. not (held_above c (slot_state_of s i))) s.count p l (is_greater c (slot_state_of s p) h)
  greatest-fails Sending p l h = refl

  worthless : (a : SlotState) → worth a ≤ 0 → greatest_held s a ≡ false
  worthless Free h = refl
  worthless (Held c) h = absurd (omega arith)
  worthless Sending h = refl

  pub greatest-found : (place top : ℕ) → Best s.count (λ j. worth (slot_state_of s j)) s.count place top →
      lowest_slot s (greatest_held s) ≡ place
  greatest-found place top b =
      by_cases (ltb 0 top)
      (λ t. found s worth (greatest_held s) place top greatest-passes greatest-fails b (ltb-true 0 top t))
      (λ t.
      let z : top ≡ 0 = omega (arith, ltb-false 0 top t) in
      lowest-none s.count (λ i. greatest_held s (slot_state_of s i)) (λ j l. worthless (slot_state_of s j) (omega (arith, b.most j l)))
      ∙ sym (b.nothing z))

  worth-held : (a : SlotState) → 0 < worth a → not (is_held a) ≡ false
  worth-held Free h = absurd (omega arith)
  worth-held (Held c) h = refl
  worth-held Sending h = absurd (omega arith)

  worth-none : (a : SlotState) → worth a ≤ 0 → not (is_held a) ≡ true
  worth-none Free h = refl
  worth-none (Held c) h = absurd (omega arith)
  worth-none Sending h = refl

  -- nothing is held exactly if no slot has the greatest criterion
  pub greatest-none : no_slot s is_held ≡ not (ltb (lowest_slot s (greatest_held s)) s.count)
  greatest-none =
      let (place, top, b) = best s.count (λ j. worth (slot_state_of s j)) s.count in
      let p = greatest-found place top b in
      let l = lowest_slot s (greatest_held s) in
      by_cases (ltb 0 top)
      (λ t.
      let h = b.here (ltb-true 0 top t) in
      all_to-false (λ i. not (is_held (slot_state_of s i))) s.count place h.0 (worth-held (slot_state_of s place) (omega (arith, h.1, ltb-true 0 top t)))
      ∙ sym (ap not (lt-ltb l s.count (omega (arith, p, h.0)))))
      (λ t.
      let z : top ≡ 0 = omega (arith, ltb-false 0 top t) in
      all_to-of s.count (λ i. not (is_held (slot_state_of s i))) (λ j l. worth-none (slot_state_of s j) (omega (arith, b.most j l)))
      ∙ sym (ap not (le-ltb l s.count (omega (arith, p, b.nothing z)))))
