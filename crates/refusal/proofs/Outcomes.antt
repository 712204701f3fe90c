-- What a caller learns from an answer whose rule gives x where the test b passes and refuses by the number n otherwise. Assumes nothing.
use mathlib.Core.Path.{◌≡◌, refl, sym}
use mathlib.Core.Bool.{Bool, true, false, cond}
use Prim.Native.Nat.{ℕ}
use native.Mathlib.Omega.{arith}
use Rattle.refusal.specs.Outcome.{given, refused}

-- an outcome is not both
pub given-refused : {A : Type 0} (a : A) (n : ℕ) → given a ≡ refused n → ⊥
given-refused a n p = let z : ◌≡◌ {A = ℕ} 0 1 = cc in omega arith

pub refused-given : {A : Type 0} (n : ℕ) (a : A) → refused n ≡ given a → ⊥
refused-given n a p = given-refused a n (sym p)

pub given-same : {A : Type 0} (x y : A) → given x ≡ given y → x ≡ y
given-same x y p = cc

pub given-of : {A : Type 0} (b : Bool) (x v : A) (n : ℕ) → given v ≡ cond b (given x) (refused n) → (b ≡ true) × (v ≡ x)
given-of true x v n p = (refl, given-same v x p)
given-of false x v n p = absurd (given-refused v n p)

pub refused-of : {A : Type 0} (b : Bool) (x : A) (n m : ℕ) → refused m ≡ cond b (given x) (refused n) → (b ≡ false) × (m ≡ n)
refused-of true x n m p = absurd (given-refused x m (sym p))
refused-of false x n m p = (refl, cc)
