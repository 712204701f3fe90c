-- The search for the start finds the place of the greatest criterion, the oldest on a tie. Assumes nothing.
use Prim.Native.Nat.{ℕ, ◌≤◌, ◌<◌}
use mathlib.Core.Path.{◌≡◌, refl, sym, ap, ◌∙◌}
use mathlib.Core.Bool.{true, false, cond, true≢false}
use mathlib.Core.List.{List}
use native.Mathlib.Omega.{arith}
use borrow.Author.Tests.{ltb-true, ltb-false, le-leb, lt-leb, eq-eqb, ne_eqb}
use lib.ListN.{length}
use Rattle.std.specs.Prelude.{Option, Some, None, Ok, Err}
use Rattle.std.specs.Option.{ok_or}
use lib.Dec.{leb, ltb, eqb}
use Rattle.lists.proofs.Sums.{all_to-of, all_to-false}
use Rattle.lists.proofs.Choices.{by_cases}
use Rattle.lists.proofs.Lowest.{lowest-at}
use Rattle.lists.proofs.Best.{Best, best}
use Rattle.interval.specs.Interval.{criterion, all_zero, is_greatest, start_of}

-- what an `ok_or` says of its option
pub ok_or-none : {R : Type 0} {e : R} (r : R) (o : Option ℕ) → ok_or o r ≡ Err e → o ≡ None
ok_or-none r None h = refl
ok_or-none r (Some p) h = let z : ◌≡◌ {A = ℕ} 0 1 = cc in absurd (omega arith)

pub ok_or-some : {R : Type 0} {p : ℕ} (r : R) (o : Option ℕ) → ok_or o r ≡ Ok p → o ≡ Some p
ok_or-some r None h = let z : ◌≡◌ {A = ℕ} 0 1 = cc in absurd (omega arith)
ok_or-some r (Some p) h = cc

module _ (index : List ℕ) where
  -- something is greater than 0
  some : {n : ℕ} (place top : ℕ) → Best n (criterion index) (length index) place top → 0 < top → start_of index ≡ place
  some place top b h =
      let e = (b.here h).1 in
      lowest-at (length index) (is_greatest index) place (b.here h).0
      (all_to-of (length index) (λ j. leb (criterion index j) (criterion index place)) (λ j l. le-leb (criterion index j) (criterion index place) (omega (arith, e, b.most j l))))
      (λ j l.
      all_to-false (λ i. leb (criterion index i) (criterion index j)) (length index) place (b.here h).0
      (lt-leb (criterion index place) (criterion index j) (omega (arith, e, b.before h j l))))

  zero : {n : ℕ} (place top : ℕ) → Best n (criterion index) (length index) place top → top ≡ 0 → all_zero index ≡ true
  zero place top b z =
      all_to-of (length index) (λ i. eqb (criterion index i) 0) (λ i l. eq-eqb (criterion index i) 0 (omega (arith, b.most i l)))

  pub start-found : {n : ℕ} (place top : ℕ) → Best n (criterion index) (length index) place top →
      cond (all_zero index) None (Some (start_of index)) ≡ cond (ltb 0 top) (Some place) None
  start-found place top b =
      by_cases (ltb 0 top)
      (λ t.
      let h = ltb-true 0 top t in
      let no : all_zero index ≡ false =
      all_to-false (λ i. eqb (criterion index i) 0) (length index) place (b.here h).0 (ne_eqb (criterion index place) 0 (λ z. omega (arith, (b.here h).1))) in
      simp (no, t) (ap Some (some place top b h)))
      (λ t. simp (zero place top b (omega (arith, ltb-false 0 top t)), t))

  -- what holds of the start
  pub record Start (start : ℕ) : Type 0 where
    pub inside : start < length index
    pub greatest : (j : ℕ) → j < length index → criterion index j ≤ criterion index start
    pub oldest : (j : ℕ) → j < start → criterion index j < criterion index start

  pub start_is : all_zero index ≡ false → Start (start_of index)
  start_is e =
      let (place, top, b) = best (length index) (criterion index) (length index) in
      by_cases (ltb 0 top)
      (λ t.
      let h = ltb-true 0 top t in
      rw (some place top b h)
      (record {
        inside = (b.here h).0;
        greatest = λ j l. omega (arith, (b.here h).1, b.most j l);
        oldest = λ j l. omega (arith, (b.here h).1, b.before h j l);
      }))
      (λ t. absurd (true≢false (sym (zero place top b (omega (arith, ltb-false 0 top t))) ∙ e)))

  -- what the search for the start says: all criteria are 0, or the start
  pub start_none : cond (all_zero index) None (Some (start_of index)) ≡ None → all_zero index ≡ true
  start_none e =
      by_cases (all_zero index) (λ z. z)
      (λ z. let h : ◌≡◌ {A = Option ℕ} (Some (start_of index)) None = rw z at e in let n : ◌≡◌ {A = ℕ} 0 1 = cc in absurd (omega arith))

  pub start-some : (place : ℕ) → cond (all_zero index) None (Some (start_of index)) ≡ Some place → (all_zero index ≡ false) × (place ≡ start_of index)
  start-some place e =
      by_cases (all_zero index)
      (λ z. let h : ◌≡◌ {A = Option ℕ} None (Some place) = rw z at e in let n : ◌≡◌ {A = ℕ} 0 1 = cc in absurd (omega arith))
      (λ z. let h : ◌≡◌ {A = Option ℕ} (Some (start_of index)) (Some place) = rw z at e in (z, cc))
