-- Sums over the slots, of which a call changes one. Assumes nothing.
use Prim.Native.Nat.{ℕ, ◌+◌, ◌≤◌, ◌<◌}
use mathlib.Core.Path.{◌≡◌, refl, ap, ◌∙◌}
use mathlib.Core.Bool.{Bool, true, false, cond, not}
use native.Mathlib.Omega.{arith}
use borrow.Author.Tests.{not-true}
use lib.ListN.{length}
use lib.Seq.{get_or-set_same, get_or-set_other}
use Rattle.lists.specs.Sums.{sum_to}
use Rattle.lists.proofs.Sums.{all_to-at, sum_to-bound, sum_to-ext, sum_to-ones}
use Rattle.lists.proofs.Changes.{sum_to-change, sum_to-at}
use Rattle.bursts.specs.declared.Slot.{Slot}
use Rattle.bursts.specs.declared.Slots.{Slots}
use Rattle.bursts.specs.declared.SlotState.{SlotState}
use Rattle.bursts.specs.Slots.{slot_state_of, no_slot, changed}

pub changed-here : (s : Slots) (p : ℕ) (a : SlotState) → p < length s.slot → slot_state_of (changed s p a) p ≡ a
changed-here s p a l = ap (λ (b : Slot). b.state) (get_or-set_same s.slot p _ _ l)

pub changed-other : (s : Slots) (p j : ℕ) (a : SlotState) → (j ≡ p → ⊥) → slot_state_of (changed s p a) j ≡ slot_state_of s j
changed-other s p j a d = ap (λ (b : Slot). b.state) (get_or-set_other s.slot p j _ _ d)

-- how many slots pass a test
abbrev pub passing : (SlotState → Bool) → Slots → ℕ
passing test s = sum_to s.count (λ i. cond (test (slot_state_of s i)) 1 0)

pub passing-changed : (test : SlotState → Bool) (s : Slots) (p : ℕ) (a : SlotState) → p < s.count → p < length s.slot →
    passing test (changed s p a) + cond (test (slot_state_of s p)) 1 0 ≡ passing test s + cond (test a) 1 0
passing-changed test s p a l k =
    let weight : SlotState → ℕ = λ b. cond (test b) 1 0 in
    sum_to-change s.count p (λ i. weight (slot_state_of s i)) (λ i. weight (slot_state_of (changed s p a) i)) l (λ j h d. ap weight (changed-other s p j a d))
    ∙ ap (λ (n : ℕ). passing test s + n) (ap weight (changed-here s p a k))

bit_le : (t : Bool) → cond t 1 0 ≤ 1
bit_le true = omega arith
bit_le false = omega arith

pub passing-le : (test : SlotState → Bool) (s : Slots) → passing test s ≤ s.count
passing-le test s = omega (arith, sum_to-bound s.count (λ i. cond (test (slot_state_of s i)) 1 0) 1 (λ i l. bit_le (test (slot_state_of s i))))

pub passing-all : (test : SlotState → Bool) (s : Slots) → ((i : ℕ) → i < s.count → test (slot_state_of s i) ≡ true) → passing test s ≡ s.count
passing-all test s h =
    sum_to-ext s.count (λ i. cond (test (slot_state_of s i)) 1 0) (λ i. 1) (λ i l. ap (λ (t : Bool). cond t 1 0) (h i l)) ∙ sum_to-ones s.count

pub passing-none : (test : SlotState → Bool) (s : Slots) → passing test s ≡ 0 → (i : ℕ) → i < s.count → test (slot_state_of s i) ≡ false
passing-none test s e i l = bit-zero (test (slot_state_of s i)) (omega (arith, e, sum_to-at s.count i (λ j. cond (test (slot_state_of s j)) 1 0) l))
  where
    bit-zero : (t : Bool) → cond t 1 0 ≤ 0 → t ≡ false
    bit-zero true h = absurd (omega arith)
    bit-zero false h = refl

pub passing-zero : (test : SlotState → Bool) (s : Slots) → no_slot s test ≡ true → passing test s ≡ 0
passing-zero test s e =
    omega (
      arith,
      sum_to-bound s.count (λ i. cond (test (slot_state_of s i)) 1 0) 0
          (λ i l. bit-none (test (slot_state_of s i)) (all_to-at s.count (λ j. not (test (slot_state_of s j))) e i l)),
    )
  where
    bit-none : (t : Bool) → not t ≡ true → cond t 1 0 ≤ 0
    bit-none t h = rw (not-true t h) (omega arith)
