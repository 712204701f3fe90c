-- Laws of the words of a set. Assumes nothing.
use Prim.Native.Nat.{ℕ, ◌≤◌}
use mathlib.Core.Path.{◌≡◌, subst}
use mathlib.Core.Bool.{Bool, true, false, cond}
use lib.Dec.{lit≤}
use Rattle.refusal.specs.Outcome.{Outcome, given, refused}
use Rattle.words.specs.Words.{set_size}

-- a set has from one to seven words, and the refusal of its size is 4
abbrev InRange : Outcome ℕ → Type 0
InRange (given n) = (1 ≤ n) × (n ≤ 7)
InRange (refused n) = n ≡ 4

in-range : (apid : ℕ) → InRange (set_size apid)
unfolding set_size
in-range apid = search (either, lit≤, tt) depth 20
  where
    either : (b : Bool) (x y : Outcome ℕ) → InRange x → InRange y → InRange (cond b x y)
    either true x y hx hy = hx
    either false x y hx hy = hy

pub size-range : (apid n : ℕ) → set_size apid ≡ given n → (1 ≤ n) × (n ≤ 7)
size-range apid n e = subst InRange e (in-range apid)

pub size-refused : (apid n : ℕ) → set_size apid ≡ refused n → n ≡ 4
size-refused apid n e = subst InRange e (in-range apid)
