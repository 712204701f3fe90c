-- A walk as nine numbers, stored one after the other. Assumes nothing.
use Prim.Native.Nat.{ℕ, zero, suc, ◌-◌, ◌≤◌, ◌<◌}
use mathlib.Core.Path.{◌≡◌, refl, sym, ap, ◌∙◌}
use mathlib.Core.List.{List, [], ◌∷◌, ◌++◌, append-nil}
use native.Mathlib.Omega.{arith}
use lib.ListN.{length, get_or, set, drop, length-drop}
use borrow.Rule.Slice.PartMut.{put_mid}
use Rattle.lists.proofs.Tables.{tabulate-of}
use Rattle.registers.specs.declared.Registers.{Registers}
use Rattle.registers.specs.Access.{register}
use Rattle.walk.specs.declared.Walk.{Walk}
use Rattle.dfb_walk.specs.Next.{walk_of, walk_numbers}

drop-over : (n : ℕ) (l : List ℕ) → length l ≤ n → drop n l ≡ []
drop-over zero [] h = refl
drop-over (suc n) [] h = refl
drop-over zero (x ∷ l) h = absurd (omega arith)
drop-over (suc n) (x ∷ l) h = drop-over n l (omega arith)

-- the nine numbers of the walk that nine numbers are
pub numbers-return : (l : List ℕ) → 2 ≤ length l → walk_numbers (walk_of l) ≡ l
numbers-return [] h = absurd (omega arith)
numbers-return (x ∷ []) h = absurd (omega arith)
numbers-return (x ∷ y ∷ l) h = refl

-- place and records stored
pub two-stored : (l : List ℕ) (x y : ℕ) → 2 ≤ length l → set (set l 0 x) 1 y ≡ x ∷ y ∷ drop 2 l
two-stored [] x y h = absurd (omega arith)
two-stored (a ∷ []) x y h = absurd (omega arith)
two-stored (a ∷ b ∷ l) x y h = refl

-- the registers stored behind the two numbers
pub walk_put : (w : Walk) (l front : List ℕ) → length l ≡ 9 → front ≡ w.registers.value
    → put_mid 2 (length (set (set l 0 w.at) 1 w.records) - 2) (set (set l 0 w.at) 1 w.records) front ≡ walk_numbers w
walk_put w l front nine e =
    let two = two-stored l w.at w.records (omega (arith, nine)) in
    let seven : length (w.at ∷ w.records ∷ drop 2 l) - 2 ≡ 7 = omega (arith, length-drop 2 l, nine) in
    ap (λ (m : List ℕ). put_mid 2 (length m - 2) m front) two
    ∙ ap (λ (k : ℕ). put_mid 2 k (w.at ∷ w.records ∷ drop 2 l) front) seven
    ∙ ap (λ (r : List ℕ). w.at ∷ w.records ∷ (front ++ r)) (drop-over 7 (drop 2 l) (omega (arith, length-drop 2 l, nine)))
    ∙ ap (λ (r : List ℕ). w.at ∷ w.records ∷ r) (append-nil front ∙ e)

-- two lists of the same entries
pub same_entries : (r : Registers) (front : List ℕ) → length front ≡ 7 → length r.value ≡ 7 → ((i : ℕ) → i < 7 → get_or front i 0 ≡ register r i) → front ≡ r.value
same_entries r front k l h = tabulate-of 7 (register r) 0 front k h ∙ sym (tabulate-of 7 (register r) 0 r.value l (λ i j. refl))
