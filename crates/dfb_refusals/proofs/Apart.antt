-- Values below the base are told apart from refusals, and a refusal with an offset is taken apart. Assumes nothing.
use mathlib.Core.Path.{◌≡◌, refl, subst}
use Prim.Native.Nat.{ℕ, ◌+◌, ◌^◌, ◌<◌}
use native.Mathlib.Omega.{arith}
use borrow.Author.Tests.{lt-ltb, le-ltb}
use Rattle.refusal.specs.Outcome.{Outcome, given, refused}
use Rattle.refusal.proofs.Outcomes.{refused-given}
use Rattle.dfb_refusals.specs.Numbers.{above63, with_offset, Parts, ToldApart}

-- the values that are accepted lie below the base of refusals
pub record Below (base : ℕ) (o : Outcome ℕ) : Type 0 where
  pub value : (v : ℕ) → o ≡ given v → v < base

pub given_below : (base v : ℕ) → v < base → Below base (given v)
given_below base v h = record { value = λ w e. let same : v ≡ w = cc in subst (λ (n : ℕ). n < base) same h }

pub refused-below : (base n : ℕ) → Below base (refused n)
refused-below base n = record { value = λ v e. absurd (refused-given n v e) }

pub told-apart : (base : ℕ) (o : Outcome ℕ) → Below base o → ToldApart base o
told-apart base (given v) b = lt-ltb v base (b.value v refl)
told-apart base (refused n) b = le-ltb (base + n) base (omega arith)

-- the parts of a refusal that has an offset
pub offset-parts : (n offset : ℕ) → n < 256 → offset < 2 ^ 55 → Parts (above63 + with_offset n offset) n offset
offset-parts n offset h k = record { fits = omega arith; low = omega arith; high = omega arith }
