-- Laws of choices by a test, and of what holds below a number. Assumes nothing.
use Prim.Native.Nat.{ℕ, suc, ◌<◌}
use mathlib.Core.Path.{◌≡◌, refl, sym, subst}
use mathlib.Core.Logic.{◌⊎◌, inl, inr, ⊎_elim}
use mathlib.Core.Bool.{Bool, true, false, cond, ◌&&◌, ◌||◌, true≢false, false≢true}
use native.Mathlib.Nat.{le_of_suc-le-suc, not-suc-le-zero, eq-or-lt_of_le}

-- A choice by the two cases of its test: under two functions, under a property; and a choice whose test is known.
pub cond_both {ℓ κ μ} : {A : Type ℓ} {B : Type κ} {C : Type μ} (f : A → C) (g : B → C) (t : Bool) {a b : A} {a' b' : B} →
    (t ≡ true → f a ≡ g a') → (t ≡ false → f b ≡ g b') → f (cond t a b) ≡ g (cond t a' b')
cond_both f g true h k = h refl
cond_both f g false h k = k refl

-- two choices by equal tests are related where their cases are
pub cond-related {ℓ κ μ} : {A : Type ℓ} {B : Type κ} (P : A → B → Type μ) (t t' : Bool) → t ≡ t' → {a b : A} {a' b' : B} →
    (t' ≡ true → P a a') → (t' ≡ false → P b b') → P (cond t a b) (cond t' a' b')
cond-related P true true e h k = h refl
cond-related P true false e h k = absurd (true≢false e)
cond-related P false true e h k = absurd (false≢true e)
cond-related P false false e h k = k refl

pub by_cases {ℓ} : {C : Type ℓ} (t : Bool) → (t ≡ true → C) → (t ≡ false → C) → C
by_cases true h k = h refl
by_cases false h k = k refl

pub cond-at {ℓ κ} : {A : Type ℓ} (P : A → Type κ) (t : Bool) {a b : A} → (t ≡ true → P a) → (t ≡ false → P b) → P (cond t a b)
cond-at P true h k = h refl
cond-at P false h k = k refl

pub cond-true {ℓ} : {A : Type ℓ} (t : Bool) (a b : A) → t ≡ true → cond t a b ≡ a
cond-true true a b e = refl
cond-true false a b e = absurd (false≢true e)

pub cond-false {ℓ} : {A : Type ℓ} (t : Bool) (a b : A) → t ≡ false → cond t a b ≡ b
cond-false true a b e = absurd (true≢false e)
cond-false false a b e = refl

pub cond_same {ℓ} : {A : Type ℓ} (t : Bool) (a : A) → cond t a a ≡ a
cond_same true a = refl
cond_same false a = refl

-- Both of two tests that hold together.
pub both : (a b : Bool) → a && b ≡ true → (a ≡ true) × (b ≡ true)
both true b e = (refl, e)
both false b e = absurd (false≢true e)

-- One of two tests of which one holds.
pub either : (a b : Bool) → a || b ≡ true → (a ≡ true) ⊎ (b ≡ true)
either true b e = inl refl
either false b e = inr e

-- Anything holds below 0, and what holds below n and at n holds below n + 1.
pub below-zero {ℓ} : (P : ℕ → Type ℓ) (i : ℕ) → i < 0 → P i
below-zero P i l = absurd (not-suc-le-zero l)

pub below_suc {ℓ} : (P : ℕ → Type ℓ) (n : ℕ) → ((i : ℕ) → i < n → P i) → P n → (i : ℕ) → i < suc n → P i
below_suc P n all here i l = ⊎_elim (λ e. subst P (sym e) here) (λ lt. all i lt) (eq-or-lt_of_le (le_of_suc-le-suc l))
