-- `dfb_walk::load` meets its contract: the registers are made one after the other. Assumes nothing.
use Rattle.std.proofs.Common.{◌≡◌, ℕ, zero, suc, ◌+◌, ◌<◌, List, get_or, ap, subst, ◌∙◌, arith, rules, tests}
use native.Mathlib.Nat.{zero-add}
use denote.Param.Members.{Mut, Called}
use Rattle.std.specs.Array.{IsFromFnResultFrom}
use Rattle.lists.proofs.Tables.{tabulate-of}
use Rattle.dfb_walk.specs.Private.{narrowed_at}
use Rattle.dfb_walk.proofs.load.Goals as goal

-- a function that keeps its state and gives h gives it at each index
made_each : {F : Type 0} (g : Mut F (ℕ × Unit {0}) ℕ) (f : F) (ys : List ℕ) (h : ℕ → ℕ)
    → ((i y : ℕ) (q : F) → Called g f (i, tt) y q → (q ≡ f) × (y ≡ h i))
    → (n i : ℕ) → IsFromFnResultFrom g f ys i n → (k : ℕ) → k < n → get_or ys (i + k) 0 ≡ h (i + k)
made_each g f ys h step zero i r k l = absurd (omega arith)
made_each g f ys h step (suc n) i (q, y, e, c, r) zero l =
    let s = step i y q c in
    let here : i ≡ i + 0 = omega arith in
    subst (λ (j : ℕ). get_or ys j 0 ≡ h j) here (e.1 0 ∙ s.1)
made_each g f ys h step (suc n) i (q, y, e, c, r) (suc k) l =
    let s = step i y q c in
    let later : i + 1 + k ≡ i + suc k = omega arith in
    subst (λ (j : ℕ). get_or ys j 0 ≡ h j) later
    (made_each g f ys h step n (i + 1) (subst (λ p. IsFromFnResultFrom g p ys (i + 1) n) s.0 r) k (omega arith))

pub returns : goal.returns
returns c =
    let a = c.args in
    let h = narrowed_at a.walk.now in
    let at : (i : ℕ) → i < 7 → get_or c.from_fn.result i 0 ≡ h i =
    λ i l. subst (λ (j : ℕ). get_or c.from_fn.result j 0 ≡ h j) (zero-add i)
    (made_each _ _ c.from_fn.result h (λ j y q k. search (rules, tests)) 7 0 c.from_fn.ensures.items.each i l) in
    ap (λ (v : List ℕ). record { at = get_or a.walk.now 0 0; records = get_or a.walk.now 1 0; registers = record { value = v } })
    (tabulate-of 7 h 0 c.from_fn.result c.from_fn.ensures.items.long at)
