-- For contracts of private functions only.
use Rattle.std.specs.Prelude.{ℕ, ◌+◌, cond, List, leb, get_or, Result, Ok, Err}
use Rattle.refusal.specs.declared.Fault.{Fault}
use Rattle.refusal.specs.Number.{number_of}
use Rattle.refusal.specs.Outcome.{Outcome, given, refused}
use Rattle.lists.specs.Tables.{tabulate}
use Rattle.walk.specs.declared.Walk.{Walk}
use Rattle.dfb_refusals.specs.Numbers.{with_offset}
use Rattle.dfb_walk.specs.Next.{place_of}

-- a register's number in 16 bits
abbrev pub narrowed : ℕ → ℕ
narrowed v = cond (leb v 0xFFFF) v 0xFFFF

abbrev pub narrowed_at : List ℕ → ℕ → ℕ
narrowed_at numbers n = narrowed (get_or numbers (2 + n) 0)

-- the walk of nine numbers, with each register in 16 bits
abbrev pub narrowed_walk : List ℕ → Walk
narrowed_walk numbers =
    record { at = place_of numbers; records = get_or numbers 1 0; registers = record { value = tabulate 7 (narrowed_at numbers) } }

-- an answer of 0, or a fault with its offset
abbrev pub fault_number : Result (Unit {0}) Fault → Outcome ℕ
fault_number (Ok u) = given 0
fault_number (Err f) = refused (with_offset (number_of f.refusal) f.offset)
