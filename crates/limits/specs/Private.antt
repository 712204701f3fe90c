-- What the private functions over the totals, and over one processor's row of 112 totals, answer. No public contract cites this file.
use Rattle.std.specs.Prelude.{ℕ, ◌*◌, ◌^◌, ◌-◌, ◌<◌, ◌≡◌, Bool, cond, ◌&&◌, List, length, get_or, leb, ltb}
use Rattle.lists.specs.Sums.{all_to}
use Rattle.bands.specs.Band.{size_exponent, band_width}
use Rattle.registers.specs.Store.{band_count}
use Rattle.registers.specs.declared.Registers.{Registers}
use Rattle.model.specs.Totals.{in_use, slot}

unfoldable pub all_zero : List ℕ → Bool
all_zero l = all_to (length l) (λ i. leb (get_or l i 0) 0)

unfoldable pub all_within : List ℕ → List ℕ → Bool
all_within l limits = all_to (length l) (λ i. leb (get_or l i 0) (get_or limits i 0))

-- the most that m spectra give band b; and limits has it of each band
abbrev pub band_limit : ℕ → ℕ → ℕ → ℕ
band_limit setting m b = m * band_width (size_exponent setting) b * (2 ^ 32 - 1)

pub record Limits (setting m : ℕ) (limits : List ℕ) : Type 0 where
  pub limit : (b : ℕ) → b < band_count setting → get_or limits b 0 ≡ band_limit setting m b

-- the totals of a processor of so many bands, and of all; those not in use are 0
unfoldable pub row_within : Bool → ℕ → List ℕ → List ℕ → Bool
row_within on bands limits row = all_to 112 (λ b. leb (get_or row b 0) (cond (on && ltb b bands) (get_or limits b 0) 0))

unfoldable pub slots_within : Registers → List ℕ → List ℕ → Bool
slots_within r limits totals = all_to 7 (λ n. all_to 112 (λ b. leb (slot totals n b) (cond (in_use r n b) (get_or limits b 0) 0)))
