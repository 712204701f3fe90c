-- 01, "Demand 3 and its plain book", as 02's ticket 5 amends it: how far the printed value V lies from the exact mean T/(N-as-W). Here
-- `powers` is N-as-W, the number of powers in the total T.
use Rattle.std.specs.Prelude.{ℕ, ◌-◌, ◌*◌, ◌≤◌, ◌<◌}
use Rattle.codes.specs.Code.{distance}

pub record MeanBounds (powers total value : ℕ) : Type 0 where
  -- V under 8 is not above the mean: N·W·V is at most T
  pub below : value < 8 → powers * value ≤ total
  -- and short by less than 1: T - N·W·V is less than N-as-W
  pub small : value < 8 → total - powers * value < powers
  -- any other differs from it by at most a ninth of it: nine times the difference of T and N·W·V, above or below, is at most T
  pub large : 8 ≤ value → 9 * distance total (powers * value) ≤ total

-- 01's own bounds, of a value that is rounded down: those of logs made before version 0.5.0.
pub record RoundedDownBounds (powers total value : ℕ) : Type 0 where
  -- N·W·V is at most T
  pub below : powers * value ≤ total
  -- with V under 4, T - N·W·V is less than N-as-W
  pub small : value < 4 → total - powers * value < powers
  -- otherwise five times T - N·W·V is less than T
  pub large : 4 ≤ value → 5 * (total - powers * value) < total
