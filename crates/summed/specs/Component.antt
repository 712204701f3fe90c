-- 02, ticket 4 (000, FSUM): the power of a component, and which components a mask has. Assumes nothing.
use Rattle.std.specs.Prelude.{ℕ, suc, ◌+◌, ◌*◌, Bool, List, ℤ, pos, negsuc, ◌==◌, slice_index_or}
use Rattle.lists.specs.Bits.{bit}

-- the square of a part; `negsuc n` is -(n + 1)
abbrev pub square : ℤ → ℕ
square (pos n) = n * n
square (negsuc n) = suc n * suc n

-- the power of bin k: real part squared plus imaginary part squared. The pairs stand one after the other, the real part first.
abbrev pub power : List ℤ → ℕ → ℕ
power pairs k = square (slice_index_or pairs (2 * k) (pos 0)) + square (slice_index_or pairs (2 * k + 1) (pos 0))

-- a mask has component n where its bit n is set
abbrev pub has_component : ℕ → ℕ → Bool
has_component mask n = bit mask n == 1
