-- How far the value of a code lies from a total: nine times that is at most the total. Assumes nothing.
use Prim.Native.Nat.{ℕ, ◌*◌, ◌≤◌}
use Rattle.codes.specs.Code.{distance}

-- nine times how far x lies from the total is at most the total
abbrev pub WithinNinth : ℕ → ℕ → Type 0
WithinNinth total x = 9 * distance total x ≤ total
