-- Nine numbers as a state and back: a state that is read and written again leaves the numbers as they were. Assumes nothing.
use mathlib.Core.Path.{◌≡◌, sym, ap, ◌∙◌}
use mathlib.Core.List.{List, [], ◌∷◌, ◌++◌, append_assoc}
use Prim.Native.Nat.{ℕ}
use native.Mathlib.Omega.{arith}
use lib.ListN.{length, get_or, take}
use lib.Seq.{take-suc, take_all}
use Rattle.dfb_board.specs.State.{state_of, state_words}

-- the state of nine numbers is those numbers
pub state-words : (l : List ℕ) → length l ≡ 9 → state_words (state_of l) ≡ l
state-words l long =
    sym (append_assoc (take 7 l) (get_or l 7 0 ∷ []) (get_or l 8 0 ∷ []))
    ∙ ap (λ (k : List ℕ). k ++ (get_or l 8 0 ∷ [])) (sym (take-suc l 7 0 (omega arith)))
    ∙ sym (take-suc l 8 0 (omega arith))
    ∙ take_all 9 l (omega arith)
