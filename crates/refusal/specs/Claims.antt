-- 01, "Refusal numbers": what is claimed of them. Assumes nothing.
use Rattle.std.specs.Prelude.{◌≡◌}
use Rattle.refusal.specs.Number.{number_of}
use Rattle.refusal.specs.declared.Refusal.{Refusal}

-- two refusals of one number are the same refusal
abbrev pub OneNumber : Type 0
OneNumber = (a b : Refusal) → number_of a ≡ number_of b → a ≡ b

-- 02, ticket 14: the number 13 is not used
abbrev pub ThirteenUnused : Type 0
ThirteenUnused = (r : Refusal) → ¬ (number_of r ≡ 13)
