-- Laws of legal words: the first of them, and two parts. Assumes nothing.
use mathlib.Core.Bool.{Bool, true, ◌&&◌, and_assoc, and-eq-true_iff}
use mathlib.Core.List.{List, [], ◌∷◌, ◌++◌}
use mathlib.Core.Path.{◌≡◌, refl, sym, ap, ◌∙◌}
use Prim.Native.Nat.{ℕ}
use Rattle.codes.specs.Code.{legal_word, legal_words}

pub legal-none : legal_words [] ≡ true
unfolding legal_words
legal-none = refl

pub legal-first : (bits : ℕ) (words : List ℕ) → legal_words (bits ∷ words) ≡ true → (legal_word bits ≡ true) × (legal_words words ≡ true)
unfolding legal_words
legal-first bits words e = (and-eq-true_iff (legal_word bits) (legal_words words)).0 e

pub legal-more : (bits : ℕ) (words : List ℕ) → legal_word bits ≡ true → legal_words words ≡ true → legal_words (bits ∷ words) ≡ true
unfolding legal_words
legal-more bits words f r = (and-eq-true_iff (legal_word bits) (legal_words words)).1 (f, r)

pub legal-append : (a b : List ℕ) → legal_words (a ++ b) ≡ legal_words a && legal_words b
unfolding legal_words
legal-append [] b = refl
legal-append (bits ∷ a) b =
    ap (λ (t : Bool). legal_word bits && t) (legal-append a b) ∙ sym (and_assoc (legal_word bits) (legal_words a) (legal_words b))

pub legal-parts : (a b : List ℕ) → legal_words (a ++ b) ≡ true → (legal_words a ≡ true) × (legal_words b ≡ true)
legal-parts a b e = (and-eq-true_iff (legal_words a) (legal_words b)).0 (sym (legal-append a b) ∙ e)
