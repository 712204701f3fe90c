-- 02, ticket 4: the running totals. A run is the 1,024 totals of one mask; the first mask's run stands first in the list of 2,048.
use Rattle.std.specs.Prelude.{ℕ, ◌+◌, ◌*◌, ◌^◌, Bool, cond, List, length, replicate, ℤ, nat_le, slice_index}
use Rattle.lists.specs.Bits.{bit}
use Rattle.lists.specs.Sums.{all_to, sum_to}
use Rattle.lists.specs.Tables.{tabulate, concat_to}
use Rattle.codes.specs.Code.{sum_code}
use Rattle.words.specs.Words.{pair_bytes}
use Rattle.summed.specs.Component.{power, has_component}

-- all totals 0
unfoldable pub no_totals : List ℕ
no_totals = replicate 2048 0

-- how many of the components before n a mask has
unfoldable pub counted_before : ℕ → ℕ → ℕ
counted_before mask n = sum_to n (bit mask)

-- every total of a run is at most 2 ^ 31 for each counted component so far, where component n is next
unfoldable pub run_sound : ℕ → ℕ → List ℕ → Bool
run_sound mask n run = all_to 1024 (λ k. nat_le (slice_index run k) (counted_before mask n * 2 ^ 31))

-- a run with the powers of a component added, bin by bin
unfoldable pub added_run : List ℕ → List ℤ → List ℕ
added_run run pairs = tabulate 1024 (λ k. slice_index run k + power pairs k)

-- component n counts where the mask has it, once
abbrev pub with_component : ℕ → ℕ → List ℤ → List ℕ → List ℕ
with_component mask n pairs run = cond (has_component mask n) (added_run run pairs) run

-- the sum code of each total, high byte first
unfoldable pub code_bytes : List ℕ → List ℕ
code_bytes totals = concat_to (length totals) (λ i. pair_bytes (sum_code (slice_index totals i)))
