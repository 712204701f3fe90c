-- A register over 16 bits is stored by no write, and neither is 0xFFFF: a walk whose registers are narrowed is answered as the walk itself.
-- Assumes nothing.
use Prim.Native.Nat.{ℕ, ◌+◌, ◌≤◌, ◌<◌}
use mathlib.Core.Path.{◌≡◌, refl, sym, ap, ◌∙◌}
use mathlib.Core.Bool.{Bool, true, false, ◌&&◌, true≢false}
use mathlib.Core.List.{List}
use native.Mathlib.Omega.{arith}
use borrow.Author.Tests.{eqb-true, ne_eqb, le-leb, leb-false, ltb-true, ltb-false}
use lib.Dec.{leb, ltb, lit<}
use lib.ListN.{length, get_or, drop, length-drop}
use lib.Seq.{get_or-drop}
use Rattle.lists.proofs.Choices.{by_cases, cond-at, cond-true}
use Rattle.lists.proofs.Tables.{get_d_tabulate, tabulate-of}
use Rattle.lists.proofs.Sums.{all_to-ext, all_to-at}
use Rattle.registers.specs.Store.{stored_at, can_store}
use Rattle.registers.specs.Access.{storable, registers_sound}
use Rattle.registers.proofs.Stored.{stored-lt, source-over}
use Rattle.walk.specs.declared.Walk.{Walk}
use Rattle.walk.specs.Outcomes.{Advanced}
use Rattle.walk.specs.Walk.{walk_sound, next_at}
use Rattle.walk.proofs.Laws.{sound-parts, next_past, next-unsound}
use Rattle.dfb_walk.specs.Next.{place_of, walk_of, WalkOutcome, advance_answer}
use Rattle.dfb_walk.specs.Private.{narrowed, narrowed_at, narrowed_walk}

-- no write stores a value of 2 ^ 16 or more
pub wide-not-stored : (n v : ℕ) → 65536 ≤ v → can_store n v ≡ false
wide-not-stored n v h = ne_eqb (stored_at n v) v (λ e. omega (arith, stored-lt n v, e))

narrowed-stored : (n v : ℕ) → can_store n (narrowed v) ≡ can_store n v
narrowed-stored n v =
    cond-at (λ (w : ℕ). can_store n w ≡ can_store n v) (leb v 0xFFFF) (λ e. refl)
    (λ e. source-over n 0xFFFF (lit< tt) ∙ sym (wide-not-stored n v (omega (arith, leb-false v 0xFFFF e))))

narrowed-same : (n v : ℕ) → can_store n v ≡ true → narrowed v ≡ v
narrowed-same n v t =
    let e : stored_at n v ≡ v = eqb-true (stored_at n v) v t in
    cond-true (leb v 0xFFFF) v 0xFFFF (le-leb v 0xFFFF (omega (arith, stored-lt n v, e)))

module _ (numbers : List ℕ) where
  same-sound : registers_sound (narrowed_walk numbers).registers ≡ registers_sound (walk_of numbers).registers
  unfolding registers_sound
  same-sound =
      all_to-ext 7 (storable (narrowed_walk numbers).registers) (storable (walk_of numbers).registers)
      (λ i l. ap (can_store i) (get_d_tabulate 7 (narrowed_at numbers) 0 i l) ∙ narrowed-stored i (get_or numbers (2 + i) 0) ∙ ap (can_store i) (sym (get_or-drop 2 numbers i 0)))

  same-walk-sound : walk_sound (narrowed_walk numbers) ≡ walk_sound (walk_of numbers)
  unfolding walk_sound
  same-walk-sound = ap (λ (b : Bool). leb (get_or numbers 1 0) (place_of numbers) && b) same-sound

  -- sound registers are the numbers themselves
  same-walk : length numbers ≡ 9 → walk_sound (walk_of numbers) ≡ true → narrowed_walk numbers ≡ walk_of numbers
  unfolding registers_sound
  same-walk nine s =
      let t = all_to-at 7 (storable (walk_of numbers).registers) (sound-parts (walk_of numbers) s).1 in
      ap (λ (v : List ℕ). record { at = place_of numbers; records = get_or numbers 1 0; registers = record { value = v } })
      (sym (tabulate-of 7 (narrowed_at numbers) 0 (drop 2 numbers) (omega (arith, length-drop 2 numbers))
      (λ i l. sym (ap narrowed (sym (get_or-drop 2 numbers i 0)) ∙ narrowed-same i (get_or (drop 2 numbers) i 0) (t i l)))))

  pub same_answer : (log list : List ℕ) → length numbers ≡ 9
      → advance_answer (next_at log (narrowed_walk numbers)) numbers list ≡ advance_answer (next_at log (walk_of numbers)) numbers list
  same_answer log list nine =
      by_cases (walk_sound (walk_of numbers)) (λ s. ap (λ (w : Walk). answer (next_at log w)) (same-walk nine s))
      (λ s. by_cases (ltb (length log) (place_of numbers))
      (λ p.
      let h = ltb-true (length log) (place_of numbers) p in
      sym (ap answer (next_past log (narrowed_walk numbers) h)) ∙ ap answer (next_past log (walk_of numbers) h))
      (λ p.
      let h = ltb-false (length log) (place_of numbers) p in
      sym (ap answer (next-unsound log (narrowed_walk numbers) h (same-walk-sound ∙ s))) ∙ ap answer (next-unsound log (walk_of numbers) h s)))
    where
      answer : Advanced → WalkOutcome
      answer a = advance_answer a numbers list

  -- a register over 16 bits makes the walk unsound
  pub wide-unsound : (n : ℕ) → n < 7 → 65536 ≤ get_or numbers (2 + n) 0 → walk_sound (walk_of numbers) ≡ false
  unfolding registers_sound
  wide-unsound n l h =
      by_cases (walk_sound (walk_of numbers))
      (λ s.
      let t = all_to-at 7 (storable (walk_of numbers).registers) (sound-parts (walk_of numbers) s).1 n l in
      let w = wide-not-stored n (get_or numbers (2 + n) 0) h in
      absurd (true≢false (sym t ∙ ap (can_store n) (get_or-drop 2 numbers n 0) ∙ w)))
      (λ s. s)
