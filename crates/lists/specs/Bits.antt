-- The bits of a number. Assumes nothing.
use Rattle.std.specs.Prelude.{ℕ, ◌/◌, ◌%◌, ◌^◌}

-- bit n, from the lowest, which is bit 0
abbrev pub bit : ℕ → ℕ → ℕ
bit x n = x / 2 ^ n % 2
