-- What no call depends on, when a call is refused, and what an accepted one leaves. Assumes nothing.
use Rattle.std.proofs.Common.{◌≡◌, ℕ, ◌+◌, ◌<◌, true, false, cond, eqb, ltb, List, length, get_or, ℤ, sym, refl, ap, ◌∙◌, subst, arith, le-ltb, lt-ltb, eq-eqb, ne_eqb, eqb-true, le-leb}
use mathlib.Core.Bool.{false≢true}
use borrow.Author.Tests.{eqb-false}
use Rattle.lists.specs.Bits.{bit}
use Rattle.lists.specs.Tables.{overwrite}
use Rattle.lists.proofs.Choices.{by_cases, cond-at, cond-true, cond-false}
use Rattle.refusal.specs.Outcome.{refused}
use Rattle.refusal.proofs.Outcomes.{given-refused}
use Rattle.summed.specs.declared.SumState.{SumState}
use Rattle.summed.specs.Component.{has_component}
use Rattle.summed.specs.Totals.{counted_before}
use Rattle.summed.specs.Call.{SumLeft, sum_refused, are_lengths, sound, in_force, totals_with, after_earlier, after_eighth, accepted, component_summed}
use Rattle.summed.specs.Claims.{OutsideComponents, LaterMasksIgnored, SameResult, StartMasksIgnored, RefusedUnchanged, RightLengths, Sound, RefusalsInOrder, CountedSoFar, StartTotalsZero, StartBegins, total_with, AddsComponent, EarlierAdds, WritesCodes, EighthWrites}
use Rattle.summed.proofs.Ready.{lengths-right}
use Rattle.summed.proofs.Sums.{counted_none, counted-more, first-at, second_at, totals-length, sound-of, of-sound, start-sound, start-zero}
use Rattle.summed.proofs.Codes.{two_runs}
use Rattle.summed.proofs.History.{call-2, call-3, call-17, call-accepted, force-next}

-- ---- a call by its four cases

-- the tests of a call, and what it then leaves
pub data Case (s : SumState) (totals : List ℕ) (n first second : ℕ) (pairs : List ℤ) (out : List ℕ) : Type 0 where
  by_2 : are_lengths (length totals) (length pairs) (length out) ≡ false → Case s totals n first second pairs out
  by-3 : are_lengths (length totals) (length pairs) (length out) ≡ true → sound s totals ≡ false → Case s totals n first second pairs out
  by-17 : are_lengths (length totals) (length pairs) (length out) ≡ true → sound s totals ≡ true → eqb n s.next ≡ false → Case s totals n first second pairs out
  taken : are_lengths (length totals) (length pairs) (length out) ≡ true → sound s totals ≡ true → eqb n s.next ≡ true → Case s totals n first second pairs out

case : (s : SumState) (totals : List ℕ) (n first second : ℕ) (pairs : List ℤ) (out : List ℕ) → Case s totals n first second pairs out
case s totals n first second pairs out =
    by_cases (are_lengths (length totals) (length pairs) (length out))
    (λ a. by_cases (sound s totals) (λ b. by_cases (eqb n s.next) (λ d. taken a b d) (λ d. by-17 a b d)) (λ b. by-3 a b))
    (λ a. by_2 a)

-- ---- components outside both masks

outside-totals : (s : SumState) (ps qs : List ℤ) (totals : List ℕ) → has_component s.first s.next ≡ false → has_component s.second s.next ≡ false →
    totals_with s ps totals ≡ totals_with s qs totals
unfolding totals_with
outside-totals s ps qs totals a b = rw (a, b)

pub outside-components : OutsideComponents
outside-components s totals n first second ps qs out e a b = by (case s totals n first second ps out)
  where
    force-a : n ≡ s.next → sound s totals ≡ true → has_component (in_force s n first second).first (in_force s n first second).next ≡ false
    force-a same f = ap (has_component (in_force s n first second).first) (force-next s totals n first second same (of-sound s totals f)) ∙ a

    force-b : n ≡ s.next → sound s totals ≡ true → has_component (in_force s n first second).second (in_force s n first second).next ≡ false
    force-b same f = ap (has_component (in_force s n first second).second) (force-next s totals n first second same (of-sound s totals f)) ∙ b

    lengths : are_lengths (length totals) (length qs) (length out) ≡ are_lengths (length totals) (length ps) (length out)
    lengths = ap (λ (m : ℕ). are_lengths (length totals) m (length out)) (sym e)

    by : Case s totals n first second ps out → component_summed s totals n first second ps out ≡ component_summed s totals n first second qs out
    by (by_2 x) = call-2 s totals n first second ps out x ∙ sym (call-2 s totals n first second qs out (lengths ∙ x))
    by (by-3 x y) = call-3 s totals n first second ps out x y ∙ sym (call-3 s totals n first second qs out (lengths ∙ x) y)
    by (by-17 x y z) = call-17 s totals n first second ps out x y z ∙ sym (call-17 s totals n first second qs out (lengths ∙ x) y z)
    by (taken x y z) =
        let same : n ≡ s.next = eqb-true n s.next z in
        call-accepted s totals n first second ps out x y z
        ∙ rw (outside-totals (in_force s n first second) ps qs totals (force-a same y) (force-b same y))
        (sym (call-accepted s totals n first second qs out (lengths ∙ x) y z))

-- ---- masks

pub later-masks-ignored : LaterMasksIgnored
later-masks-ignored s totals n first second first' second' pairs out h = by (case s totals n first second pairs out)
  where
    own : (a b : ℕ) → n ≡ s.next → in_force s n a b ≡ s
    own a b same = cond-false (eqb n 0) (record { next = n; first = a; second = b }) s (ne_eqb n 0 (λ z. omega (arith, z, same, h)))

    by : Case s totals n first second pairs out → component_summed s totals n first second pairs out ≡ component_summed s totals n first' second' pairs out
    by (by_2 x) = call-2 s totals n first second pairs out x ∙ sym (call-2 s totals n first' second' pairs out x)
    by (by-3 x y) = call-3 s totals n first second pairs out x y ∙ sym (call-3 s totals n first' second' pairs out x y)
    by (by-17 x y z) = call-17 s totals n first second pairs out x y z ∙ sym (call-17 s totals n first' second' pairs out x y z)
    by (taken x y z) =
        let same : n ≡ s.next = eqb-true n s.next z in
        call-accepted s totals n first second pairs out x y z
        ∙ ap (λ (f : SumState). accepted f pairs totals out) (own first second same ∙ sym (own first' second' same))
        ∙ sym (call-accepted s totals n first' second' pairs out x y z)

-- states at component 0 are as sound, whatever their masks
start-same : (s s' : SumState) (totals : List ℕ) → s.next ≡ 0 → s'.next ≡ 0 → sound s totals ≡ true → sound s' totals ≡ true
start-same s s' totals e e' t = sound-of s' totals (start-sound s' totals e' (start-zero s totals e (of-sound s totals t)))

pub start-masks-ignored : StartMasksIgnored
start-masks-ignored s s' totals n first second pairs out e e' = by (case s totals n first second pairs out)
  where
    unsound : sound s totals ≡ false → sound s' totals ≡ false
    unsound f = by_cases (sound s' totals) (λ t. absurd (false≢true (sym f ∙ start-same s' s totals e' e t))) (λ t. t)

    next : eqb n s'.next ≡ eqb n s.next
    next = ap (eqb n) (e' ∙ sym e)

    given_both : {o o' : SumLeft} → component_summed s totals n first second pairs out ≡ o → component_summed s' totals n first second pairs out ≡ o' →
        SameResult o o' → SameResult (component_summed s totals n first second pairs out) (component_summed s' totals n first second pairs out)
    given_both p q h = record { answer = rw (p, q) h.answer; state = rw (p, q) h.state; totals = rw (p, q) h.totals; out = rw (p, q) h.out }

    by : Case s totals n first second pairs out → SameResult (component_summed s totals n first second pairs out) (component_summed s' totals n first second pairs out)
    by (by_2 x) = given_both (call-2 s totals n first second pairs out x) (call-2 s' totals n first second pairs out x) (record { answer = refl; state = λ t. absurd (false≢true t); totals = refl; out = refl })
    by (by-3 x y) =
        given_both (call-3 s totals n first second pairs out x y) (call-3 s' totals n first second pairs out x (unsound y))
        (record { answer = refl; state = λ t. absurd (false≢true t); totals = refl; out = refl })
    by (by-17 x y z) =
        given_both (call-17 s totals n first second pairs out x y z) (call-17 s' totals n first second pairs out x (start-same s s' totals e e' y) (next ∙ z))
        (record { answer = refl; state = λ t. absurd (false≢true t); totals = refl; out = refl })
    by (taken x y z) =
        let zero : eqb n 0 ≡ true = ap (eqb n) (sym e) ∙ z in
        let p = call-accepted s totals n first second pairs out x y z in
        let q = call-accepted s' totals n first second pairs out x (start-same s s' totals e e' y) (next ∙ z) in
        given_both p q (rw zero (record { answer = refl; state = λ t. refl; totals = refl; out = refl }))

-- ---- refusals

-- what holds of a refused call, of one before the eighth and of the eighth holds of every call
pub by_call : (P : SumLeft → Type 0) (s : SumState) (totals : List ℕ) (n first second : ℕ) (pairs : List ℤ) (out : List ℕ) →
    ((m : ℕ) → P (sum_refused m s totals out)) → ((g : SumState) (sums : List ℕ) → P (after_earlier g sums out)) →
    ((g : SumState) (sums : List ℕ) → P (after_eighth g sums out)) → P (component_summed s totals n first second pairs out)
by_call P s totals n first second pairs out none earlier eighth = by (case s totals n first second pairs out)
  where
    by : Case s totals n first second pairs out → P (component_summed s totals n first second pairs out)
    by (by_2 x) = subst P (sym (call-2 s totals n first second pairs out x)) (none 2)
    by (by-3 x y) = subst P (sym (call-3 s totals n first second pairs out x y)) (none 3)
    by (by-17 x y z) = subst P (sym (call-17 s totals n first second pairs out x y z)) (none 17)
    by (taken x y z) =
        subst P (sym (call-accepted s totals n first second pairs out x y z))
        (cond-at P (ltb (in_force s n first second).next 7) (λ t. earlier (in_force s n first second) (totals_with (in_force s n first second) pairs totals))
        (λ t. eighth (in_force s n first second) (totals_with (in_force s n first second) pairs totals)))

pub refused-unchanged : RefusedUnchanged
refused-unchanged s totals n first second pairs out m =
    by_call (λ o. o.answer ≡ refused m → o ≡ sum_refused m s totals out) s totals n first second pairs out
    (λ k e. let same : k ≡ m = cc in ap (λ (j : ℕ). sum_refused j s totals out) same)
    (λ g sums e. absurd (given-refused 0 m e))
    (λ g sums e. absurd (given-refused 4096 m e))

pub start-totals-zero : StartTotalsZero
start-totals-zero = start-zero

right-lengths : (totals : List ℕ) (pairs : List ℤ) (out : List ℕ) → RightLengths totals pairs out → are_lengths (length totals) (length pairs) (length out) ≡ true
right-lengths totals pairs out r =
    rw (eq-eqb (length totals) 2048 r.totals-length, eq-eqb (length pairs) 2048 r.pairs-length, le-leb 4096 (length out) r.room)

pub refusals-in-order : RefusalsInOrder
refusals-in-order s totals n first second pairs out =
    record {
      by_2 = λ w. ap (λ (o : SumLeft). o.answer) (call-2 s totals n first second pairs out (wrong w));
      by-3 = λ r u. ap (λ (o : SumLeft). o.answer) (call-3 s totals n first second pairs out (right-lengths totals pairs out r) (unsound u));
      by-17 = λ r f d. ap (λ (o : SumLeft). o.answer) (call-17 s totals n first second pairs out (right-lengths totals pairs out r) (sound-of s totals f) (ne_eqb n s.next d));
      earlier = λ r f e h. accepts r f e ∙ rw (lt-ltb (in_force s n first second).next 7 (omega (arith, force-next s totals n first second e f, h))) refl;
      eighth = λ r f e h. accepts r f e ∙ rw (le-ltb (in_force s n first second).next 7 (omega (arith, force-next s totals n first second e f, h))) refl;
    }
  where
    wrong : ¬ RightLengths totals pairs out → are_lengths (length totals) (length pairs) (length out) ≡ false
    wrong w = by_cases (are_lengths (length totals) (length pairs) (length out)) (λ t. absurd (w (lengths-right totals pairs out t))) (λ t. t)

    unsound : ¬ Sound s totals → sound s totals ≡ false
    unsound u = by_cases (sound s totals) (λ t. absurd (u (of-sound s totals t))) (λ t. t)

    accepts : RightLengths totals pairs out → Sound s totals → n ≡ s.next →
        (component_summed s totals n first second pairs out).answer ≡ (accepted (in_force s n first second) pairs totals out).answer
    accepts r f e =
        ap (λ (o : SumLeft). o.answer)
        (call-accepted s totals n first second pairs out (right-lengths totals pairs out r) (sound-of s totals f) (eq-eqb n s.next e))

-- ---- what an accepted call leaves

pub start-begins : StartBegins
start-begins = (record { place = refl; totals = refl }, refl, refl)

pub counted-so-far : CountedSoFar
counted-so-far mask n = (counted_none mask, counted-more mask n ∙ ap (λ (v : ℕ). counted_before mask n + v) one)
  where
    one : bit mask n ≡ cond (has_component mask n) 1 0
    one =
        by_cases (has_component mask n)
        (λ t. eqb-true (bit mask n) 1 t ∙ sym (cond-true (has_component mask n) 1 0 t))
        (λ t. let z : ¬ (bit mask n ≡ 1) = eqb-false (bit mask n) 1 t in let e : bit mask n ≡ 0 = omega (arith, z) in e ∙ sym (cond-false (has_component mask n) 1 0 t))

module _ (s : SumState) (totals : List ℕ) (n first second : ℕ) (pairs : List ℤ) (out : List ℕ) (r : RightLengths totals pairs out) (f : Sound s totals) (e : n ≡ s.next) where
  abbrev force : SumState
  force = in_force s n first second

  place : force.next ≡ n
  place = force-next s totals n first second e f

  accepts : component_summed s totals n first second pairs out ≡ accepted force pairs totals out
  accepts = call-accepted s totals n first second pairs out (right-lengths totals pairs out r) (sound-of s totals f) (eq-eqb n s.next e)

  first-total : (k : ℕ) → k < 1024 → get_or (totals_with force pairs totals) k 0 ≡ total_with force.first n pairs k (get_or totals k 0)
  first-total k l = first-at force pairs totals r.totals-length k l ∙ ap (λ (j : ℕ). total_with force.first j pairs k (get_or totals k 0)) place

  second-total : (k : ℕ) → k < 1024 → get_or (totals_with force pairs totals) (1024 + k) 0 ≡ total_with force.second n pairs k (get_or totals (1024 + k) 0)
  second-total k l = second_at force pairs totals r.totals-length k l ∙ ap (λ (j : ℕ). total_with force.second j pairs k (get_or totals (1024 + k) 0)) place

  adds : n < 7 → AddsComponent force.first force.second n totals pairs out (component_summed s totals n first second pairs out)
  adds h =
      subst (AddsComponent force.first force.second n totals pairs out)
      (sym (accepts ∙ cond-true (ltb force.next 7) _ _ (lt-ltb force.next 7 (omega (arith, place, h)))))
      (record {
        state = ap (λ (j : ℕ). record { next = j + 1; first = force.first; second = force.second }) place;
        totals-length = totals-length force pairs totals r.totals-length;
        first_run = first-total;
        second_run = second-total;
        kept = refl;
      })

  writes : n ≡ 7 → WritesCodes force.first force.second n totals pairs out (component_summed s totals n first second pairs out)
  writes h =
      subst (WritesCodes force.first force.second n totals pairs out)
      (sym (accepts ∙ cond-false (ltb force.next 7) _ _ (le-ltb force.next 7 (omega (arith, place, h)))))
      (record {
        state = refl;
        cleared = refl;
        written = ap (λ (l : List ℕ). overwrite l out) (two_runs (totals_with force pairs totals) (λ k. total_with force.first n pairs k (get_or totals k 0))
            (λ k. total_with force.second n pairs k (get_or totals (1024 + k) 0)) (totals-length force pairs totals r.totals-length) first-total second-total);
      })

pub earlier-adds : EarlierAdds
earlier-adds = adds

pub eighth-writes : EighthWrites
eighth-writes = writes
