-- Powers, exact sums and totals, entry by entry. Assumes nothing.
use Rattle.std.proofs.Common.{◌≡◌, ℕ, ◌+◌, ◌*◌, ◌^◌, ◌<◌, ◌≤◌, true, cond, ◌&&◌, ltb, List, [], ◌∷◌, ◌++◌, length, get_or, take, drop, ℤ, pos, sym, refl, ap, ◌∙◌, subst, add-zero, arith, length-append, length-drop, length-take, get_or-drop, get_or-take, get_or-append-add, ltb-true, lt-ltb, eqb-true, le-leb, leb-true}
use lib.ListN.{get_or-replicate, length-replicate, get_or-append}
use Rattle.lists.specs.Bits.{bit}
use Rattle.lists.proofs.Choices.{both, by_cases, cond-true, cond-false}
use Rattle.lists.proofs.Sums.{all_to-of, all_to-at, sum_to-none, sum_to-more}
use Rattle.lists.proofs.Tables.{length-tabulate, get_d_tabulate}
use Rattle.words.specs.Sample.{Are16}
use Rattle.words.proofs.Signed.{sample-at}
use Rattle.summed.specs.declared.SumState.{SumState}
use Rattle.summed.specs.Component.{power, has_component}
use Rattle.summed.specs.Totals.{no_totals, counted_before, run_sound, added_run, with_component}
use Rattle.summed.specs.Call.{sound, totals_with}
use Rattle.summed.specs.Book.{sum_from}
use Rattle.summed.specs.Claims.{Sound}
use Rattle.summed.proofs.Laws.{square_le, by-run}

-- ---- a power

pub power_le : (pairs : List ℤ) (k : ℕ) → Are16 pairs → length pairs ≡ 2048 → k < 1024 → power pairs k ≤ 2 ^ 31
power_le pairs k f e h =
    let re = square_le (get_or pairs (2 * k) (pos 0)) (sample-at pairs f (2 * k) (omega arith)) in
    let im = square_le (get_or pairs (2 * k + 1) (pos 0)) (sample-at pairs f (2 * k + 1) (omega arith)) in
    omega (arith, re, im)

-- what a mask adds of a component: its power or nothing
abbrev pub share : ℕ → ℕ → List ℤ → ℕ → ℕ
share mask n pairs k = cond (has_component mask n) (power pairs k) 0

-- ---- how many components are counted

pub counted_none : (mask : ℕ) → counted_before mask 0 ≡ 0
unfolding counted_before
counted_none mask = sum_to-none (bit mask)

pub counted-more : (mask n : ℕ) → counted_before mask (n + 1) ≡ counted_before mask n + bit mask n
unfolding counted_before
counted-more mask n = sum_to-more (bit mask) n

pub share-le : (mask n : ℕ) (pairs : List ℤ) (k : ℕ) → power pairs k ≤ 2 ^ 31 → share mask n pairs k ≤ bit mask n * 2 ^ 31
share-le mask n pairs k h =
    by_cases (has_component mask n)
    (λ e. let one : bit mask n ≡ 1 = eqb-true (bit mask n) 1 e in rw (cond-true (has_component mask n) (power pairs k) 0 e, one) (omega (arith, h)))
    (λ e. rw (cond-false (has_component mask n) (power pairs k) 0 e) (omega arith))

-- ---- the exact sum of no component, and with a component more

pub sum-none : (mask n : ℕ) (cs : List (List ℤ)) (k : ℕ) → length cs ≡ 0 → sum_from mask n cs k ≡ 0
sum-none mask n [] k e = refl
sum-none mask n (c ∷ cs) k e = absurd (omega arith)

pub sum_more : (mask n : ℕ) (cs : List (List ℤ)) (pairs : List ℤ) (k : ℕ) →
    sum_from mask n (cs ++ (pairs ∷ [])) k ≡ sum_from mask n cs k + share mask (n + length cs) pairs k
sum_more mask n [] pairs k =
    let e : n + 0 ≡ n = omega arith in
    let p : share mask n pairs k + 0 ≡ 0 + share mask n pairs k = omega arith in
    p ∙ ap (λ (m : ℕ). 0 + share mask m pairs k) (sym e)
sum_more mask n (c ∷ cs) pairs k =
    let e : n + 1 + length cs ≡ n + length (c ∷ cs) = omega arith in
    let later : sum_from mask (n + 1) (cs ++ (pairs ∷ [])) k ≡ sum_from mask (n + 1) cs k + share mask (n + length (c ∷ cs)) pairs k =
    sum_more mask (n + 1) cs pairs k ∙ ap (λ (m : ℕ). sum_from mask (n + 1) cs k + share mask m pairs k) e in
    omega (arith, later)

-- ---- a run and the totals with a component more

run_length : (mask n : ℕ) (pairs : List ℤ) (run : List ℕ) → length run ≡ 1024 → length (with_component mask n pairs run) ≡ 1024
unfolding added_run
run_length mask n pairs run e =
    by_cases (has_component mask n)
    (λ t. ap length (cond-true (has_component mask n) (added_run run pairs) run t) ∙ length-tabulate 1024 _)
    (λ t. ap length (cond-false (has_component mask n) (added_run run pairs) run t) ∙ e)

run_at : (mask n : ℕ) (pairs : List ℤ) (run : List ℕ) (k : ℕ) → k < 1024 →
    get_or (with_component mask n pairs run) k 0 ≡ get_or run k 0 + share mask n pairs k
unfolding added_run
run_at mask n pairs run k h =
    by_cases (has_component mask n)
    (λ t. rw (t) (get_d_tabulate 1024 _ 0 k h))
    (λ t. rw (t) (sym (add-zero (get_or run k 0))))

module _ (s : SumState) (pairs : List ℤ) (totals : List ℕ) (long : length totals ≡ 2048) where
  abbrev first : List ℕ
  first = with_component s.first s.next pairs (take 1024 totals)

  abbrev second : List ℕ
  second = with_component s.second s.next pairs (drop 1024 totals)

  first-length : length first ≡ 1024
  first-length = run_length s.first s.next pairs (take 1024 totals) (omega (arith, length-take 1024 totals))

  second-length : length second ≡ 1024
  second-length = run_length s.second s.next pairs (drop 1024 totals) (omega (arith, length-drop 1024 totals))

  pub first-at : (k : ℕ) → k < 1024 → get_or (totals_with s pairs totals) k 0 ≡ get_or totals k 0 + share s.first s.next pairs k
  unfolding totals_with
  first-at k h =
      get_or-append first second 0 k (omega (arith, first-length)) ∙ run_at s.first s.next pairs (take 1024 totals) k h
      ∙ ap (λ (t : ℕ). t + share s.first s.next pairs k) (get_or-take 1024 totals k 0 h)

  pub second_at : (k : ℕ) → k < 1024 → get_or (totals_with s pairs totals) (1024 + k) 0 ≡ get_or totals (1024 + k) 0 + share s.second s.next pairs k
  unfolding totals_with
  second_at k h =
      ap (λ (a : ℕ). get_or (first ++ second) (a + k) 0) (sym first-length) ∙ get_or-append-add first second k 0
      ∙ run_at s.second s.next pairs (drop 1024 totals) k h
      ∙ ap (λ (t : ℕ). t + share s.second s.next pairs k) (get_or-drop 1024 totals k 0)

  pub totals-length : length (totals_with s pairs totals) ≡ 2048
  unfolding totals_with
  totals-length = omega (arith, length-append first second, first-length, second-length)

-- ---- soundness

run_sound-of : (mask n : ℕ) (run : List ℕ) → ((k : ℕ) → k < 1024 → get_or run k 0 ≤ counted_before mask n * 2 ^ 31) → run_sound mask n run ≡ true
unfolding run_sound
run_sound-of mask n run h = all_to-of 1024 _ (λ k l. le-leb (get_or run k 0) (counted_before mask n * 2 ^ 31) (h k l))

sound-run : (mask n : ℕ) (run : List ℕ) → run_sound mask n run ≡ true → (k : ℕ) → k < 1024 → get_or run k 0 ≤ counted_before mask n * 2 ^ 31
unfolding run_sound
sound-run mask n run e k l = leb-true (get_or run k 0) (counted_before mask n * 2 ^ 31) (all_to-at 1024 _ e k l)

pub sound-of : (s : SumState) (totals : List ℕ) → Sound s totals → sound s totals ≡ true
unfolding sound
sound-of s totals f =
    rw (
      lt-ltb s.next 8 (omega (arith, f.place)),
      run_sound-of s.first s.next (take 1024 totals) (λ k l. subst (λ (t : ℕ). t ≤ counted_before s.first s.next * 2 ^ 31) (sym (get_or-take 1024 totals k 0 l)) (f.first_run k l)),
      run_sound-of s.second s.next (drop 1024 totals) (λ k l. subst (λ (t : ℕ). t ≤ counted_before s.second s.next * 2 ^ 31) (sym (get_or-drop 1024 totals k 0)) (f.second_run k l)),
    )

pub of-sound : (s : SumState) (totals : List ℕ) → sound s totals ≡ true → Sound s totals
unfolding sound
of-sound s totals e =
    let a = both (ltb s.next 8) (run_sound s.first s.next (take 1024 totals) && run_sound s.second s.next (drop 1024 totals)) e in
    let b = both (run_sound s.first s.next (take 1024 totals)) (run_sound s.second s.next (drop 1024 totals)) a.1 in
    let place : s.next < 8 = ltb-true s.next 8 a.0 in
    record {
      place = omega arith;
      first_run = λ k l. subst (λ (t : ℕ). t ≤ counted_before s.first s.next * 2 ^ 31) (get_or-take 1024 totals k 0 l) (sound-run s.first s.next (take 1024 totals) b.0 k l);
      second_run = λ k l. subst (λ (t : ℕ). t ≤ counted_before s.second s.next * 2 ^ 31) (get_or-drop 1024 totals k 0) (sound-run s.second s.next (drop 1024 totals) b.1 k l);
    }

-- where component 0 is next, any masks will do
pub start-sound : (s : SumState) (totals : List ℕ) → s.next ≡ 0 → ((k : ℕ) → k < 2048 → get_or totals k 0 ≡ 0) → Sound s totals
start-sound s totals e h =
    record {
      place = omega arith;
      first_run = λ k l. let z = h k (omega arith) in omega (arith, z);
      second_run = λ k l. let z = h (1024 + k) (omega arith) in omega (arith, z);
    }

pub start-zero : (s : SumState) (totals : List ℕ) → s.next ≡ 0 → Sound s totals → (k : ℕ) → k < 2048 → get_or totals k 0 ≡ 0
start-zero s totals e f =
    let none : (mask : ℕ) → counted_before mask s.next ≡ 0 = λ mask. ap (counted_before mask) e ∙ counted_none mask in
    by-run (λ k. get_or totals k 0 ≡ 0) (λ k h. omega (arith, f.first_run k h, none s.first)) (λ k h. omega (arith, f.second_run k h, none s.second))

pub no-totals-at : (k : ℕ) → k < 2048 → get_or no_totals k 0 ≡ 0
unfolding no_totals
no-totals-at k l = get_or-replicate 2048 k 0 0 l

pub no-totals-length : length no_totals ≡ 2048
unfolding no_totals
no-totals-length = length-replicate {A = ℕ} 2048 0
