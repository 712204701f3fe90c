-- The cases of values written to a list. Assumes nothing.
use mathlib.Core.Path.{◌≡◌, refl, ap, subst, ◌∙◌}
use mathlib.Core.List.{List, ◌++◌}
use Prim.Native.Nat.{ℕ, ◌≤◌, ◌<◌}
use native.Mathlib.Nat.{zero-add}
use native.Mathlib.Omega.{arith}
use borrow.Author.Tests.{lt-ltb, le-ltb}
use lib.Dec.{ltb}
use lib.ListN.{length, drop}
use lib.Seq.{sets, sets-eq}
use Rattle.lists.specs.Tables.{overwrite}
use Rattle.lists.proofs.Choices.{cond-at}
use Rattle.refusal.specs.Outcome.{Outcome, given, refused, Filled, unfilled}
use Rattle.dfb_refusals.specs.Numbers.{FilledNumber, filled_number, Values, values_put, values_written}
use Rattle.dfb_refusals.proofs.Apart.{Below, given_below, refused-below}

module _ {A : Type 0} (v : Values A) (list : List A) where
  pub values-short : length list < length v.values → unfilled 2 list ≡ values_put v list
  values-short h = simp (lt-ltb (length list) (length v.values) h)

  pub values-fit : length v.values ≤ length list → ◌≡◌ {A = Filled A} (record { answer = given v.number; buffer = overwrite v.values list }) (values_put v list)
  values-fit h = simp (le-ltb (length list) (length v.values) h)

  -- values stored one after the other from the front on
  pub values-stored : (base : ℕ) → length v.values ≤ length list →
      ◌≡◌ {A = FilledNumber A} (record { answer = v.number; buffer = sets list 0 v.values }) (filled_number base (values_put v list))
  values-stored base h =
      ap (λ (l : List A). record { answer = v.number; buffer = l })
      (sets-eq v.values list 0 (omega arith) ∙ ap (λ (k : ℕ). v.values ++ drop k list) (zero-add (length v.values)))
      ∙ ap (filled_number base) (values-fit h)

-- a call that writes the values of an outcome writes those of an equal one
pub values-of : {A B : Type 0} (base : ℕ) (values_of : B → Values A) (list : List A) {left : FilledNumber A} {o p : Outcome B} → o ≡ p →
    left ≡ filled_number base (values_written values_of o list) → left ≡ filled_number base (values_written values_of p list)
values-of base values_of list {left} e h = subst (λ o. left ≡ filled_number base (values_written values_of o list)) e h

-- the answers lie below the base where the numbers of the values do
pub values-below : {A B : Type 0} (base : ℕ) (values_of : B → Values A) (o : Outcome B) (list : List A) →
    ((b : B) → o ≡ given b → (values_of b).number < base) → Below base (values_written values_of o list).answer
values-below base values_of (refused n) list h = refused-below base n
values-below {A} base values_of (given b) list h =
    cond-at (λ (f : Filled A). Below base f.answer) (ltb (length list) (length (values_of b).values)) (λ e. refused-below base 2)
    (λ e. given_below base (values_of b).number (h b refl))
