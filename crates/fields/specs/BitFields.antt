-- Numbers in fields of some bits each, the first field in the highest bits. One table of widths gives both directions. Assumes nothing.
use Rattle.std.specs.Prelude.{ℕ, ◌+◌, ◌*◌, ◌/◌, ◌%◌, ◌^◌, ◌<◌, ◌≡◌, List, [], ◌∷◌}

-- the bits of all fields
abbrev pub width_of : List ℕ → ℕ
width_of [] = 0
width_of (w ∷ ws) = w + width_of ws

-- the number whose fields of these widths hold these numbers
abbrev pub joined : List ℕ → List ℕ → ℕ
joined [] xs = 0
joined (w ∷ ws) [] = 0
joined (w ∷ ws) (x ∷ xs) = x * 2 ^ width_of ws + joined ws xs

-- the numbers that the fields of a number hold
abbrev pub separated : List ℕ → ℕ → List ℕ
separated [] n = []
separated (w ∷ ws) n = n / 2 ^ width_of ws % 2 ^ w ∷ separated ws n

-- a number for each field, which its bits hold
abbrev pub FitWidths : List ℕ → List ℕ → Type 0
FitWidths [] xs = xs ≡ []
FitWidths (w ∷ ws) [] = ⊥
FitWidths (w ∷ ws) (x ∷ xs) = (x < 2 ^ w) × FitWidths ws xs
