-- Numbers of 16 bits as two bytes each, high byte first, one after the other. Assumes nothing.
use Prim.Native.Nat.{ℕ, ◌+◌, ◌*◌, ◌/◌, ◌%◌, ◌≤◌, ◌<◌}
use mathlib.Core.Path.{◌≡◌, refl, ap, ap₂, ◌∙◌}
use mathlib.Core.List.{List, ◌++◌}
use native.Mathlib.Numerals.{towards_suc}
use native.Mathlib.Omega.{arith}
use lib.ListN.{length, get_or, set, drop}
use lib.Seq.{get_or-append-add, sets}
use Rattle.lists.specs.Tables.{concat_to}
use Rattle.lists.proofs.Tables.{length-parts, get_d-concat_to-then, concat_to-more}
use Rattle.lists.proofs.Overwriting.{front-more}
use Rattle.words.specs.Words.{pair_bytes, pair_of, pair_at}

module _ (number : ℕ → ℕ) where
  abbrev bytes : ℕ → List ℕ
  bytes i = pair_bytes (number i)

  pub pairs-length : (n : ℕ) → length (concat_to n bytes) ≡ 2 * n
  pairs-length n = length-parts n bytes 2 (λ i. refl) ∙ omega arith

  -- the bytes of one number more
  pub pairs-more : (l out : List ℕ) (i bits : ℕ) → 2 * i + 2 ≤ length l → out ≡ concat_to i bytes ++ drop (2 * i) l → bits ≡ number i →
      set (set out (2 * i) (bits / 256)) (2 * i + 1) (bits % 256) ≡ concat_to (i + 1) bytes ++ drop (2 * (i + 1)) l
  pairs-more l out i bits room e same =
      let done = concat_to i bytes in
      let next : 2 * (i + 1) ≡ 2 * i + 2 = omega arith in
      let stored : set (set (done ++ drop (2 * i) l) (2 * i) (bits / 256)) (2 * i + 1) (bits % 256) ≡ sets (done ++ drop (2 * i) l) (2 * i) (pair_bytes bits) = simp towards_suc in
      ap (λ (o : List ℕ). set (set o (2 * i) (bits / 256)) (2 * i + 1) (bits % 256)) e
      ∙ stored
      ∙ front-more done (pair_bytes bits) l (2 * i) (pairs-length i) room
      ∙ rw (concat_to-more bytes i, next, ← same)

  -- byte j of number i, which stands behind other bytes and before others
  byte_of : (before rest : List ℕ) (n i j : ℕ) → i < n → j < 2 → get_or (before ++ (concat_to n bytes ++ rest)) (length before + 2 * i + j) 0 ≡ get_or (bytes i) j 0
  byte_of before rest n i j h l =
      let e : length before + 2 * i + j ≡ length before + (length (concat_to i bytes) + j) = omega (arith, pairs-length i) in
      ap (λ (k : ℕ). get_or (before ++ (concat_to n bytes ++ rest)) k 0) e
      ∙ get_or-append-add before (concat_to n bytes ++ rest) (length (concat_to i bytes) + j) 0
      ∙ get_d-concat_to-then n bytes rest 0 i h j l

  -- number i is read there
  pub pair-of : (before rest : List ℕ) (n i : ℕ) → i < n → pair_at (before ++ (concat_to n bytes ++ rest)) (length before + 2 * i) ≡ number i
  pair-of before rest n i h =
      let e : length before + 2 * i ≡ length before + 2 * i + 0 = omega arith in
      let joined : number i / 256 * 256 + number i % 256 ≡ number i = omega arith in
      ap₂ pair_of (ap (λ (k : ℕ). get_or (before ++ (concat_to n bytes ++ rest)) k 0) e ∙ byte_of before rest n i 0 h (omega arith)) (byte_of before rest n i 1 h (omega arith))
      ∙ joined
