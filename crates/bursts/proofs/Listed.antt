-- The slots of a list, and those of a state as far as its count says: the searches of a list find what the rules name. Assumes nothing.
use Prim.Native.Nat.{ℕ, zero, suc, ◌+◌, ◌≤◌}
use mathlib.Core.Path.{◌≡◌, refl, sym, ap, ◌∙◌}
use mathlib.Core.Bool.{Bool, true, false, cond}
use mathlib.Core.List.{List, ◌∷◌}
use native.Mathlib.Omega.{arith}
use lib.ListN.{length, take}
use Rattle.std.specs.List.{count_by, position}
use Rattle.std.proofs.lemmas.List.{length-take-le, get_or-take}
use Rattle.std.proofs.lemmas.List.Recursion.{is_count_by, is_position_or_len}
use Rattle.lists.specs.Sums.{sum_to}
use Rattle.lists.specs.Lowest.{lowest}
use Rattle.lists.proofs.Sums.{sum_to-ext}
use Rattle.lists.proofs.Choices.{by_cases}
use Rattle.bursts.specs.declared.Slot.{Slot}
use Rattle.bursts.specs.declared.Slots.{Slots}
use Rattle.bursts.specs.declared.SlotState.{SlotState}
use Rattle.bursts.specs.Slots.{slot_state_of, is_sending, lowest_slot, sending_slots}
use Rattle.bursts.specs.Searches.{listed, slot_below, slot_found}
use Rattle.bursts.specs.Claims.{AgreeBelow}
use Rattle.bursts.proofs.Totals.{passing}

-- ---- the slots of a list

lowest-first : (n : ℕ) (test : ℕ → Bool) → lowest (suc n) test ≡ cond (test 0) 0 (1 + lowest n (λ i. test (suc i)))
unfolding lowest
lowest-first n test = by_cases (test 0) (λ e. simp e) (λ e. simp e (omega arith))

pub position-listed : (test : SlotState → Bool) (l : List Slot) → position (λ b. test b.state) l ≡ slot_found (listed l) test
unfolding lowest
position-listed test l =
    ap (slot_below (length l)) (sym (is_position_or_len (λ xs. lowest_slot (listed xs) test) (λ b. test b.state) refl (λ x xs. lowest-first (length xs) (λ i. test (slot_state_of (listed (x ∷ xs)) i))) l))

sum-first : (n : ℕ) (f : ℕ → ℕ) → sum_to (suc n) f ≡ f 0 + sum_to n (λ i. f (suc i))
unfolding sum_to
sum-first zero f = omega arith
sum-first (suc n) f = omega (arith, sum-first n f)

one-more : (t : Bool) (n : ℕ) → cond t 1 0 + n ≡ cond t (1 + n) n
one-more true n = refl
one-more false n = omega arith

pub count-listed : (test : SlotState → Bool) (l : List Slot) → count_by (λ b. test b.state) l ≡ passing test (listed l)
unfolding sum_to
count-listed test l =
    sym (is_count_by (λ xs. passing test (listed xs)) (λ b. test b.state) refl (λ x xs. sum-first (length xs) (λ i. cond (test (slot_state_of (listed (x ∷ xs)) i)) 1 0) ∙ one-more (test x.state) _) l)

-- ---- the slots of a state that are looked at

module _ (s : Slots) (room : s.count ≤ length s.slot) where
  abbrev pub front : Slots
  front = listed (take s.count s.slot)

  pub as_many : front.count ≡ s.count
  as_many = length-take-le s.count s.slot room

  pub alike : AgreeBelow front.count front s
  alike j l = ap (λ (b : Slot). b.state) (get_or-take s.count s.slot j _ (omega (arith, as_many)))

  pub sending-front : count_by (λ b. is_sending b.state) (take s.count s.slot) ≡ sending_slots s
  unfolding sending_slots
  sending-front =
      count-listed is_sending (take s.count s.slot)
      ∙ sum_to-ext front.count _ _ (λ j l. ap (λ (a : SlotState). cond (is_sending a) 1 0) (alike j l))
      ∙ ap (λ (n : ℕ). sum_to n (λ i. cond (is_sending (slot_state_of s i)) 1 0)) as_many
