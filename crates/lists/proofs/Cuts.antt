-- A list that is cut before an element. Where it has one element more: at that one, or within the list before it. Assumes nothing.
use mathlib.Core.List.{List, [], ◌∷◌, ◌++◌, nil≢cons, head-eq_of_cons-eq, tail-eq_of_cons-eq}
use mathlib.Core.Path.{◌≡◌, refl, sym, ap, ◌∙◌}

module _ {A : Type 0} where
  -- the empty list has no such cut
  pub no_cut : (before later : List A) (x : A) → ◌≡◌ {A = List A} [] (before ++ (x ∷ later)) → ⊥
  no_cut [] later x e = nil≢cons e
  no_cut (y ∷ before) later x e = nil≢cons e

  pub data Cut (xs : List A) (x : A) (before : List A) (y : A) (later : List A) : Type 0 where
    at_last : before ≡ xs → y ≡ x → Cut xs x before y later
    within : (rest : List A) → xs ≡ before ++ (y ∷ rest) → Cut xs x before y later

  pub cut-last : (xs : List A) (x : A) (before : List A) (y : A) (later : List A) → xs ++ (x ∷ []) ≡ before ++ (y ∷ later) → Cut xs x before y later
  cut-last [] x [] y later e = at_last refl (sym (head-eq_of_cons-eq e))
  cut-last [] x (b ∷ before) y later e = absurd (no_cut before later y (tail-eq_of_cons-eq e))
  cut-last (a ∷ xs) x [] y later e = within xs (ap (λ (z : A). z ∷ xs) (head-eq_of_cons-eq e))
  cut-last (a ∷ xs) x (b ∷ before) y later e = longer (cut-last xs x before y later (tail-eq_of_cons-eq e))
    where
      same : a ≡ b
      same = head-eq_of_cons-eq e

      longer : Cut xs x before y later → Cut (a ∷ xs) x (b ∷ before) y later
      longer (at_last p q) = at_last (ap (λ (l : List A). b ∷ l) p ∙ ap (λ (z : A). z ∷ xs) (sym same)) q
      longer (within rest p) = within rest (ap (λ (l : List A). a ∷ l) p ∙ ap (λ (z : A). z ∷ (before ++ (y ∷ rest))) same)
