-- Laws of the lowest number that passes a test. Assumes nothing.
use Prim.Native.Nat.{ℕ, zero, suc, ◌≤◌, ◌<◌, zero-le}
use mathlib.Core.Path.{◌≡◌, refl, sym, ap, ◌∙◌}
use mathlib.Core.Bool.{Bool, true, false, not}
use native.Mathlib.Nat.{not-suc-le-zero}
use native.Mathlib.Omega.{arith}
use borrow.Author.Tests.{ltb-true, ltb-false}
use lib.Dec.{ltb}
use Rattle.lists.specs.Sums.{all_to}
use Rattle.lists.proofs.Sums.{all_to-of, all_to-false}
use Rattle.lists.proofs.Choices.{by_cases}
use Rattle.lists.specs.Lowest.{lowest}

pub lowest-at : (n : ℕ) (test : ℕ → Bool) (p : ℕ) → p < n → test p ≡ true → ((j : ℕ) → j < p → test j ≡ false) → lowest n test ≡ p
unfolding lowest
lowest-at zero test p l e f = absurd (not-suc-le-zero l)
lowest-at (suc n) test zero l e f = rw e
lowest-at (suc n) test (suc p) l e f =
    rw (f 0 (omega arith)) (ap suc (lowest-at n (λ i. test (suc i)) p (omega arith) e (λ j h. f (suc j) (omega arith))))

pub lowest-none : (n : ℕ) (test : ℕ → Bool) → ((j : ℕ) → j < n → test j ≡ false) → lowest n test ≡ n
unfolding lowest
lowest-none zero test f = refl
lowest-none (suc n) test f = rw (f 0 (omega arith)) (ap suc (lowest-none n (λ i. test (suc i)) (λ j h. f (suc j) (omega arith))))

pub lowest-le : (n : ℕ) (test : ℕ → Bool) → lowest n test ≤ n
unfolding lowest
lowest-le zero test = zero-le
lowest-le (suc n) test = by_cases (test 0) (λ e. rw e zero-le) (λ e. rw e (omega (arith, lowest-le n (λ i. test (suc i)))))

pub lowest-before : (n : ℕ) (test : ℕ → Bool) (j : ℕ) → j < lowest n test → test j ≡ false
unfolding lowest
lowest-before zero test j l = absurd (not-suc-le-zero l)
lowest-before (suc n) test zero l = by_cases (test 0) (λ e. absurd (not-suc-le-zero (rw e at l))) (λ e. e)
lowest-before (suc n) test (suc j) l =
    by_cases (test 0) (λ e. absurd (not-suc-le-zero (rw e at l)))
    (λ e. lowest-before n (λ i. test (suc i)) j (let h : suc j < suc (lowest n (λ i. test (suc i))) = rw e at l in omega arith))

pub lowest-test : (n : ℕ) (test : ℕ → Bool) → lowest n test < n → test (lowest n test) ≡ true
unfolding lowest
lowest-test zero test l = absurd (not-suc-le-zero l)
lowest-test (suc n) test l =
    by_cases (test 0) (λ e. rw e e)
    (λ e. rw e (lowest-test n (λ i. test (suc i)) (let h : suc (lowest n (λ i. test (suc i))) < suc n = rw e at l in omega arith)))

-- no number passes exactly if the lowest that does is n
pub none_passes : (n : ℕ) (test : ℕ → Bool) → all_to n (λ i. not (test i)) ≡ not (ltb (lowest n test) n)
none_passes n test =
    let l = lowest n test in
    by_cases (ltb l n)
    (λ e. all_to-false (λ i. not (test i)) n l (ltb-true l n e) (ap not (lowest-test n test (ltb-true l n e))) ∙ sym (ap not e))
    (λ e. all_to-of n (λ i. not (test i)) (λ i h. ap not (lowest-before n test i (omega (arith, ltb-false l n e)))) ∙ sym (ap not e))

pub lowest-ext : (n : ℕ) (f g : ℕ → Bool) → ((j : ℕ) → j < n → f j ≡ g j) → lowest n f ≡ lowest n g
unfolding lowest
lowest-ext zero f g h = refl
lowest-ext (suc n) f g h =
    rw (h 0 (omega arith), lowest-ext n (λ i. f (suc i)) (λ i. g (suc i)) (λ j l. h (suc j) (omega arith)))
