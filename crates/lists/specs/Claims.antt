-- What is claimed of the bits of a number. Assumes nothing.
use Rattle.std.specs.Prelude.{◌≡◌, ℕ, ◌^◌, ◌<◌}
use Rattle.std.specs.Int.Count.{ones}
use Rattle.lists.specs.Sums.{sum_to}
use Rattle.lists.specs.Bits.{bit}

-- the count of ones of a number of k bits is the number of its bits that are one
abbrev pub OnesAreBits : Type 0
OnesAreBits = (k n : ℕ) → n < 2 ^ k → ones n ≡ sum_to k (bit n)
