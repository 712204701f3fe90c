-- How the interval grows: what each turn keeps, how far it reaches, and that it stops. Assumes nothing.
use Prim.Native.Nat.{ℕ, zero, suc, ◌+◌, ◌-◌, ◌≤◌, ◌<◌}
use mathlib.Core.Path.{◌≡◌, refl, sym, ap, ◌∙◌, subst}
use mathlib.Core.Bool.{Bool, true, false, ◌&&◌, ◌||◌, true≢false, false≢true}
use mathlib.Core.List.{List}
use native.Mathlib.Nat.{add-suc, add-zero}
use native.Mathlib.Numerals.{add-one}
use native.Mathlib.Omega.{arith}
use borrow.Author.Tests.{ltb-true, ltb-false, lt-ltb, le-leb}
use lib.ListN.{length}
use lib.Dec.{ltb}
use Rattle.lists.proofs.Choices.{by_cases, both, cond-at, cond-false}
use Rattle.interval.specs.declared.Growing.{Growing}
use Rattle.interval.specs.Interval.{criterion, joins, blocks, growing, try_older, try_newer, alone, grown}
use Rattle.interval.specs.Claims.{GrowthEnds}

second-fails : (a b : Bool) → a && b ≡ false → a ≡ true → b ≡ false
second-fails true b e f = e
second-fails false b e f = absurd (false≢true f)

both_hold : (a b : Bool) → a && b ≡ false → a ≡ true → b ≡ true → ⊥
both_hold a b e f g = true≢false (sym g ∙ second-fails a b e f)

older-rests : (a b t : Bool) → (a || b) && t ≡ false → a && t ≡ false
older-rests true b t e = e
older-rests false b t e = refl

newer-rests : (a b t : Bool) → (a || b) && t ≡ false → b && t ≡ false
newer-rests true true t e = e
newer-rests false true t e = e
newer-rests true false t e = refl
newer-rests false false t e = refl

-- ---- whether it grows, by its sides

module _ (limit : ℕ) (g : Growing) where
  pub growing-older : g.older ≡ true → growing limit g ≡ ltb (blocks g) limit
  unfolding growing
  growing-older o = rw o

  pub growing-newer : g.older ≡ false → g.newer ≡ true → growing limit g ≡ ltb (blocks g) limit
  unfolding growing
  growing-newer o n = rw (o, n)

  pub growing-none : g.older ≡ false → g.newer ≡ false → growing limit g ≡ false
  unfolding growing
  growing-none o n = rw (o, n)

module _ (index : List ℕ) (bonus limit start : ℕ) where
  pub record Fine (g : Growing) : Type 0 where
    pub begins : g.first ≤ start
    pub ends : start ≤ g.last
    pub inside : g.last < length index
    pub few : blocks g ≤ limit
    pub passes : (j : ℕ) → g.first ≤ j → j ≤ g.last → joins index bonus start j ≡ true
    pub older-shut : g.older ≡ false → 0 < g.first → joins index bonus start (g.first - 1) ≡ false
    pub newer-shut : g.newer ≡ false → g.last + 1 < length index → joins index bonus start (g.last + 1) ≡ false

  pub alone-fine : start < length index → 0 < limit → Fine (alone start)
  alone-fine l h =
      record {
        begins = omega arith;
        ends = omega arith;
        inside = l;
        few = omega arith;
        passes = λ j a b. let e : j ≡ start = omega arith in rw e (le-leb (criterion index start) (criterion index start + bonus) (omega arith));
        older-shut = λ e. absurd (true≢false e);
        newer-shut = λ e. absurd (true≢false e);
      }

  pub older-fine : (g : Growing) → Fine g → Fine (try_older index bonus limit start g)
  unfolding try_older
  older-fine g f =
      cond-at Fine (g.older && ltb (blocks g) limit)
      (λ t.
      let below : blocks g < limit = ltb-true (blocks g) limit (both g.older _ t).1 in
      cond-at Fine (ltb 0 g.first && joins index bonus start (g.first - 1))
      (λ u.
      let p = both (ltb 0 g.first) _ u in
      let pos : 0 < g.first = ltb-true 0 g.first p.0 in
      let b = f.begins in
      let d = f.ends in
      record {
        begins = omega arith;
        ends = f.ends;
        inside = f.inside;
        few = omega arith;
        passes = λ j a c.
            by_cases (ltb j g.first)
            (λ v. let e : j ≡ g.first - 1 = omega (arith, ltb-true j g.first v) in rw e p.1)
            (λ v. f.passes j (omega (arith, ltb-false j g.first v)) c);
        older-shut = λ e. absurd (true≢false e);
        newer-shut = f.newer-shut;
      })
      (λ u.
      record {
        begins = f.begins;
        ends = f.ends;
        inside = f.inside;
        few = f.few;
        passes = f.passes;
        older-shut = λ e h. second-fails (ltb 0 g.first) _ u (lt-ltb 0 g.first h);
        newer-shut = f.newer-shut;
      }))
      (λ t. f)

  pub newer-fine : (g : Growing) → Fine g → Fine (try_newer index bonus limit start g)
  unfolding try_newer
  newer-fine g f =
      cond-at Fine (g.newer && ltb (blocks g) limit)
      (λ t.
      let below : blocks g < limit = ltb-true (blocks g) limit (both g.newer _ t).1 in
      cond-at Fine (ltb (g.last + 1) (length index) && joins index bonus start (g.last + 1))
      (λ u.
      let p = both (ltb (g.last + 1) (length index)) _ u in
      let pos : g.last + 1 < length index = ltb-true (g.last + 1) (length index) p.0 in
      let b = f.begins in
      let d = f.ends in
      record {
        begins = f.begins;
        ends = omega arith;
        inside = pos;
        few = omega arith;
        passes = λ j a c.
            by_cases (ltb g.last j)
            (λ v. let e : j ≡ g.last + 1 = omega (arith, ltb-true g.last j v) in rw e p.1)
            (λ v. f.passes j a (omega (arith, ltb-false g.last j v)));
        older-shut = f.older-shut;
        newer-shut = λ e. absurd (true≢false e);
      })
      (λ u.
      record {
        begins = f.begins;
        ends = f.ends;
        inside = f.inside;
        few = f.few;
        passes = f.passes;
        older-shut = f.older-shut;
        newer-shut = λ e h. second-fails (ltb (g.last + 1) (length index)) _ u (lt-ltb (g.last + 1) (length index) h);
      }))
      (λ t. f)

  pub grown-fine : start < length index → 0 < limit → (k : ℕ) → Fine (grown index bonus limit start k)
  unfolding grown
  grown-fine l h zero = alone-fine l h
  grown-fine l h (suc k) = newer-fine _ (older-fine _ (grown-fine l h k))

  pub grown-next : (k : ℕ) →
      grown index bonus limit start (k + 1) ≡ try_newer index bonus limit start (try_older index bonus limit start (grown index bonus limit start k))
  unfolding grown
  grown-next k = rw add-one

  -- ---- an open side has moved as often as it had a turn, below the limit

  record Reach (m n : ℕ) (g : Growing) : Type 0 where
    older-far : blocks g < limit → g.older ≡ true → g.first + m ≡ start
    newer-far : blocks g < limit → g.newer ≡ true → g.last ≡ start + n

  older-reach : (m n : ℕ) (g : Growing) → Fine g → Reach m n g → Reach (suc m) n (try_older index bonus limit start g)
  unfolding try_older
  older-reach m n g f r =
      let b = f.begins in
      let d = f.ends in
      cond-at (Reach (suc m) n) (g.older && ltb (blocks g) limit)
      (λ t.
      let o = (both g.older _ t).0 in
      cond-at (Reach (suc m) n) (ltb 0 g.first && joins index bonus start (g.first - 1))
      (λ u.
      let pos : 0 < g.first = ltb-true 0 g.first (both (ltb 0 g.first) _ u).0 in
      record {
        older-far = λ h e. omega (arith, r.older-far (omega arith) o);
        newer-far = λ h e. r.newer-far (omega arith) e;
      })
      (λ u. record { older-far = λ h e. absurd (false≢true e); newer-far = r.newer-far }))
      (λ t. record { older-far = λ h e. absurd (both_hold g.older _ t e (lt-ltb (blocks g) limit h)); newer-far = r.newer-far })

  newer-reach : (m n : ℕ) (g : Growing) → Fine g → Reach m n g → Reach m (suc n) (try_newer index bonus limit start g)
  unfolding try_newer
  newer-reach m n g f r =
      let b = f.begins in
      let d = f.ends in
      cond-at (Reach m (suc n)) (g.newer && ltb (blocks g) limit)
      (λ t.
      let o = (both g.newer _ t).0 in
      cond-at (Reach m (suc n)) (ltb (g.last + 1) (length index) && joins index bonus start (g.last + 1))
      (λ u.
      record {
        older-far = λ h e. r.older-far (omega arith) e;
        newer-far = λ h e. omega (arith, r.newer-far (omega arith) o);
      })
      (λ u. record { older-far = r.older-far; newer-far = λ h e. absurd (false≢true e) }))
      (λ t. record { older-far = r.older-far; newer-far = λ h e. absurd (both_hold g.newer _ t e (lt-ltb (blocks g) limit h)) })

  grown-reach : start < length index → 0 < limit → (k : ℕ) → Reach k k (grown index bonus limit start k)
  unfolding grown
  grown-reach l h zero = record { older-far = λ a e. omega arith; newer-far = λ a e. omega arith }
  grown-reach l h (suc k) =
      let f = grown-fine l h k in
      newer-reach (suc k) k _ (older-fine _ f) (older-reach k k _ f (grown-reach l h k))

  -- ---- it stops

  growing-few : start < length index → 0 < limit → (k : ℕ) → growing limit (grown index bonus limit start k) ≡ true → k < length index
  unfolding growing
  growing-few l h k e =
      let g = grown index bonus limit start k in
      let f = grown-fine l h k in
      let r = grown-reach l h k in
      let p = both (g.older || g.newer) (ltb (blocks g) limit) e in
      let below = ltb-true (blocks g) limit p.1 in
      by_cases g.older
      (λ o. omega (arith, r.older-far below o))
      (λ o. omega (arith, f.inside, r.newer-far below (subst (λ (t : Bool). (t || g.newer) ≡ true) o p.0)))

  rests : (g : Growing) → growing limit g ≡ false → try_newer index bonus limit start (try_older index bonus limit start g) ≡ g
  unfolding growing try_older try_newer
  rests g e =
      let o = cond-false (g.older && ltb (blocks g) limit) _ g (older-rests g.older g.newer (ltb (blocks g) limit) e) in
      ap (try_newer index bonus limit start) o ∙ cond-false (g.newer && ltb (blocks g) limit) _ g (newer-rests g.older g.newer (ltb (blocks g) limit) e)

  grown-more : (k m : ℕ) → growing limit (grown index bonus limit start k) ≡ false → grown index bonus limit start (k + m) ≡ grown index bonus limit start k
  unfolding grown
  grown-more k zero e = rw add-zero
  grown-more k (suc m) e = rw (add-suc, grown-more k m e) (rests (grown index bonus limit start k) e)

  pub grown-stop : (k n : ℕ) → k ≤ n → growing limit (grown index bonus limit start k) ≡ false → grown index bonus limit start n ≡ grown index bonus limit start k
  grown-stop k n l e = let q : n ≡ k + (n - k) = omega arith in ap (grown index bonus limit start) q ∙ grown-more k (n - k) e

pub growth-ends : GrowthEnds
growth-ends index bonus limit start l h =
    by_cases (growing limit (grown index bonus limit start (length index)))
    (λ e. absurd (let k = growing-few index bonus limit start l h (length index) e in omega arith))
    (λ e. e)
