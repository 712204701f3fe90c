-- Laws of the store rule. Assumes nothing.
use Prim.Native.Nat.{ℕ, ◌*◌, ◌/◌, ◌%◌, ◌^◌, ◌<◌, ◌≤◌}
use mathlib.Core.Path.{◌≡◌}
use mathlib.Core.Bool.{true}
use native.Mathlib.Nat.{one-mul, mod-eq_of_lt}
use native.Mathlib.Omega.{arith}
use borrow.Author.Tests.{leb-true, le-leb}
use lib.Dec.{leb, lit≤}
use lib.Pow.{pow-lt}
use Rattle.lists.proofs.Choices.{cond-at, cond-true, both}
use Rattle.registers.specs.Store.{limited, high_stored, low_stored}
use Rattle.registers.specs.Access.{is_id}

-- a stored field is at most the limit, if the default is; and it is stored again unchanged
pub limited-le : (limit default field : ℕ) → default ≤ limit → limited limit default field ≤ limit
limited-le limit default field h = cond-at (λ y. y ≤ limit) (leb field limit) (leb-true field limit) (λ e. h)

pub limited-again : (limit default field : ℕ) → default ≤ limit → limited limit default (limited limit default field) ≡ limited limit default field
limited-again limit default field h = cond-true _ _ default (le-leb _ limit (limited-le limit default field h))

-- the two parts of a stored value do not overlap, and fit 16 bits
pub high_le : (v : ℕ) → high_stored v ≤ 43648
unfolding high_stored
high_le v = omega (arith, limited-le 10 6 (v / 4096) (lit≤ tt), limited-le 10 3 (v / 256 % 16) (lit≤ tt), limited-le 2 1 (v / 64 % 4) (lit≤ tt))

pub low-lt : (default v : ℕ) → default ≤ 22 → low_stored default v < 64
unfolding low_stored
low-lt default v h = omega (arith, limited-le 22 default (v % 32) h)

-- 1 shifted left by k places, at a width of w bits
pub one_shl : (k w : ℕ) → k < w → (1 * 2 ^ k) % 2 ^ w ≡ 2 ^ k
one_shl k w h = rw one-mul (mod-eq_of_lt (pow-lt h))

-- an ID is one of the seven
pub id_range : (id : ℕ) → is_id id ≡ true → (0x30 ≤ id) × (id ≤ 0x36)
id_range id e = let t = both (leb 0x30 id) (leb id 0x36) e in (leb-true _ _ t.0, leb-true _ _ t.1)
