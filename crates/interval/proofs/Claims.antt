-- What 02's ticket 11 claims of every interval that is chosen. Assumes nothing.
use Prim.Native.Nat.{ℕ, ◌<◌}
use mathlib.Core.Path.{◌≡◌, refl, subst}
use mathlib.Core.Bool.{Bool, true, false, ◌&&◌, ◌||◌}
use mathlib.Core.List.{List}
use native.Mathlib.Nat.{pos_of_ne-zero}
use native.Mathlib.Omega.{arith}
use borrow.Author.Tests.{lt-ltb, eqb-false}
use lib.ListN.{length}
use lib.Dec.{ltb, eqb}
use Rattle.lists.proofs.Choices.{by_cases}
use Rattle.refusal.specs.Outcome.{Outcome, given, refused}
use Rattle.interval.specs.declared.Interval.{Interval}
use Rattle.interval.specs.declared.Growing.{Growing}
use Rattle.interval.specs.Interval.{all_zero, start_of, blocks, growing, grown, interval_of, interval_outcome}
use Rattle.interval.specs.Claims.{Chosen, IntervalChosen}
use Rattle.interval.proofs.Start.{start_is}
use Rattle.interval.proofs.Growth.{grown-fine, growth-ends}

-- below the limit both sides are closed
shut : (limit : ℕ) (g : Growing) → growing limit g ≡ false → blocks g < limit → (g.older ≡ false) × (g.newer ≡ false)
unfolding growing
shut limit g e h = go g.older g.newer (ltb (blocks g) limit) (lt-ltb (blocks g) limit h) e
  where
    go : (a b t : Bool) → t ≡ true → (a || b) && t ≡ false → (a ≡ false) × (b ≡ false)
    go true b true f e = (e, absurd (mathlib.Core.Bool.true≢false e))
    go false true true f e = (refl, e)
    go false false true f e = (refl, refl)
    go a b false f e = absurd (mathlib.Core.Bool.false≢true f)

chosen : (index : List ℕ) (bonus limit : ℕ) → 0 < limit → all_zero index ≡ false → Chosen index bonus limit (interval_of index bonus limit)
unfolding interval_of
chosen index bonus limit h z =
    let start = start_of index in
    let s = start_is index z in
    let g = grown index bonus limit start (length index) in
    let f = grown-fine index bonus limit start s.inside h (length index) in
    let rests = growth-ends index bonus limit start s.inside h in
    record {
      start = (f.begins, f.ends);
      greatest = s.greatest;
      oldest = s.oldest;
      within = f.inside;
      at_most = f.few;
      passes = f.passes;
      older = λ k. f.older-shut (shut limit g rests k).0;
      newer = λ k. f.newer-shut (shut limit g rests k).1;
    }

refused-not : {A : Type 0} (n : ℕ) (i : Interval) → ◌≡◌ {A = Outcome Interval} (refused n) (given i) → A
refused-not n i e = let z : ◌≡◌ {A = ℕ} 0 1 = cc in absurd (omega arith)

pub interval-chosen : IntervalChosen
unfolding interval_outcome
interval-chosen index bonus limit i e =
    by_cases (ltb 16000 (length index)) (λ a. refused-not 2 i (rw a at e))
    (λ a.
    by_cases (eqb limit 0) (λ b. refused-not 29 i (simp (a, b) at e))
    (λ b.
    by_cases (all_zero index) (λ z. refused-not 26 i (simp (a, b, z) at e))
    (λ z.
    let e' : given (interval_of index bonus limit) ≡ given i = simp (a, b, z) at e in
    let p : interval_of index bonus limit ≡ i = cc in
    subst (Chosen index bonus limit) p (chosen index bonus limit (pos_of_ne-zero (eqb-false limit 0 b)) z))))
