-- Which of the two neighbours the rule of the band code takes. Assumes nothing.
use mathlib.Core.Path.{◌≡◌, refl}
use mathlib.Core.Bool.{Bool, true, false, cond}
use mathlib.Core.Logic.{◌⊎◌, inl, inr}
use Prim.Native.Nat.{ℕ, ◌+◌, ◌≤◌, ◌<◌}
use native.Mathlib.Omega.{arith}
use lib.Dec.{leb}
use borrow.Author.Tests.{leb-true, leb-false}
use Rattle.codes.specs.Code.{distance, code_below, code_above, band_code, band_value}
use Rattle.codes.proofs.Neighbours.{not-over, over}

-- of two codes the first is taken below the middle of what they stand for, the second from there on
abbrev pub Taken : (v code below above : ℕ) → Type 0
Taken v code below above =
    ((code ≡ below) × (v + v < band_value below + band_value above)) ⊎ ((code ≡ above) × (band_value below + band_value above ≤ v + v))

pub taken : (v : ℕ) → Taken v (band_code v) (code_below v) (code_above v)
unfolding band_code
taken v = go (leb (distance v high) (distance v low)) refl
  where
    low : ℕ
    low = band_value (code_below v)

    high : ℕ
    high = band_value (code_above v)

    go : (x : Bool) → leb (distance v high) (distance v low) ≡ x → Taken v (cond x (code_above v) (code_below v)) (code_below v) (code_above v)
    go true p = inr (refl, omega (arith, leb-true (distance v high) (distance v low) p, not-over v, over v))
    go false p = inl (refl, omega (arith, leb-false (distance v high) (distance v low) p, not-over v, over v))
