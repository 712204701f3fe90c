-- What a call answers, in the terms of 01: a value, or the number of a refusal.
use Rattle.std.specs.Prelude.{ℕ, Bool, true, false, List, Result, Ok, Err}
use Rattle.refusal.specs.Number.{number_of}
use Rattle.refusal.specs.declared.Refusal.{Refusal}

pub data Outcome (A : Type 0) : Type 0 where
  given : A → Outcome A
  refused : ℕ → Outcome A

-- whether a value is given
abbrev pub is_given : {A : Type 0} → Outcome A → Bool
is_given (given a) = true
is_given (refused n) = false

-- the number of its refusal; 0 if there is none
abbrev pub refusal_of : {A : Type 0} → Outcome A → ℕ
refusal_of (given a) = 0
refusal_of (refused n) = n

-- What a call leaves that writes a lent buffer: its answer, and the buffer afterwards.
pub record Filled (A : Type 0) : Type 0 where
  pub answer : Outcome ℕ
  pub buffer : List A

-- what a function answers, in these terms
abbrev pub answer_outcome : {A : Type 0} → Result A Refusal → Outcome A
answer_outcome (Ok a) = given a
answer_outcome (Err r) = refused (number_of r)

abbrev pub filled : {A : Type 0} → Result ℕ Refusal → List A → Filled A
filled w buffer = record { answer = answer_outcome w; buffer = buffer }

-- refused: the buffer is as it was
abbrev pub unfilled : {A : Type 0} → ℕ → List A → Filled A
unfilled n buffer = record { answer = refused n; buffer = buffer }
