-- The limits of totals: a table with the limit of each band, rows against it, and all totals against it. Assumes nothing.
use Prim.Native.Nat.{ℕ, ◌+◌, ◌-◌, ◌*◌, ◌^◌, ◌≤◌, ◌<◌}
use mathlib.Core.Path.{◌≡◌, refl, sym, ap, ap₂, ◌∙◌}
use mathlib.Core.Bool.{Bool, true, false, cond, ◌&&◌}
use mathlib.Core.List.{List}
use native.Mathlib.Nat.{mul-le-mul, mul-one, mul-add, add-mul, zero-mul}
use native.Mathlib.Omega.{arith}
use lib.Dec.{leb, ltb}
use lib.ListN.{length, get_or, set, take, drop, replicate, get_or-replicate, length-take, length-drop}
use lib.Seq.{get_or-take, get_or-drop, get_or-set_same, get_or-set_other}
use borrow.Author.Count.{below_more}
use borrow.Author.Tests.{lt-ltb, le-ltb, ltb-true}
use Rattle.lists.specs.Sums.{all_to}
use Rattle.lists.proofs.Choices.{both, cond_both, cond_same}
use Rattle.lists.proofs.Sums.{all_to-ext}
use Rattle.lists.proofs.Overwriting.{part, get_d_part}
use Rattle.lists.proofs.Runs.{all_to-add, all_to-grid}
use Rattle.bands.specs.Band.{size_exponent, band_width}
use Rattle.registers.specs.Store.{band_count}
use Rattle.bands.proofs.Settings.{range}
use Rattle.settings.specs.Settings.{setting_of, bands_of, enabled_of}
use Rattle.registers.specs.declared.Registers.{Registers}
use Rattle.model.specs.Totals.{in_use, width_of, slot}
use Rattle.model.specs.Board.{slot_limit, totals_within}
use Rattle.limits.specs.Private.{all_zero, all_within, band_limit, Limits, row_within, slots_within}
use Rattle.bands.proofs.Octaves.{size-le, narrow-width, width-doubles}

-- ---- the table

module _ (setting m : ℕ) where
  pub limit-le : m < 2 ^ 16 → (b : ℕ) → b < band_count setting → band_limit setting m b ≤ 2 ^ 58
  limit-le few b known =
      let w : band_width (size_exponent setting) b ≤ 1024 = omega (arith, (range setting b known).within) in
      let p : m * band_width (size_exponent setting) b ≤ 2 ^ 16 * 1024 = mul-le-mul {n₁ = m} {m₁ = band_width (size_exponent setting) b} {n₂ = 2 ^ 16} {m₂ = 1024} (omega arith) w in
      omega arith

  -- bands of one bin
  pub limits-first : setting ≤ 2 → (l : List ℕ) → l ≡ replicate 112 (m * (2 ^ 32 - 1)) → (b : ℕ) → b < 2 * 2 ^ size_exponent setting →
      get_or l b 0 ≡ band_limit setting m b
  limits-first h l e b narrow =
      ap (λ (x : List ℕ). get_or x b 0) e ∙ get_or-replicate 112 b (m * (2 ^ 32 - 1)) 0 (omega (arith, size-le setting h))
      ∙ ap (λ (x : ℕ). x * (2 ^ 32 - 1)) (sym (ap (λ (w : ℕ). m * w) (narrow-width (size_exponent setting) b narrow) ∙ mul-one m))

  -- one band more
  pub limits-more : (l : List ℕ) (b half : ℕ) → 2 * 2 ^ size_exponent setting ≤ b → b < length l →
      ((i : ℕ) → i < b → get_or l i 0 ≡ band_limit setting m i) → half ≡ get_or l (b - 2 ^ size_exponent setting) 0 → 0 < 2 ^ size_exponent setting →
      (i : ℕ) → i < b + 1 → get_or (set l b (2 * half)) i 0 ≡ band_limit setting m i
  limits-more l b half wide inside before e some =
      let s : ℕ = size_exponent setting in
      let w : ℕ = band_width s (b - 2 ^ s) in
      let is : half ≡ m * w * (2 ^ 32 - 1) = e ∙ before (b - 2 ^ s) (omega arith) in
      let twice : half + half ≡ 2 * half = omega arith in
      let sum : band_limit setting m b ≡ 2 * half =
      ap (λ (x : ℕ). m * x * (2 ^ 32 - 1)) (width-doubles s b wide) ∙ ap (λ (x : ℕ). x * (2 ^ 32 - 1)) (mul-add m w w) ∙ add-mul (m * w) (m * w) (2 ^ 32 - 1) ∙ ap₂ ◌+◌ (sym is) (sym is) ∙ twice in
      below_more (λ i. get_or (set l b (2 * half)) i 0 ≡ band_limit setting m i) b
      (λ i h. get_or-set_other l b i (2 * half) 0 (λ q. omega arith) ∙ before i h)
      (get_or-set_same l b (2 * half) 0 inside ∙ sym sum)

-- ---- a row

module _ (bands : ℕ) (limits row : List ℕ) (few : bands ≤ 112) (limits-long : length limits ≡ 112) (long : length row ≡ 112) where
  abbrev test : ℕ → Bool
  test b = leb (get_or row b 0) (cond (ltb b bands) (get_or limits b 0) 0)

  pub row_on : all_within (take bands row) (take bands limits) && all_zero (take (112 - bands) (drop bands row)) ≡ row_within true bands limits row
  unfolding all_within all_zero row_within
  row_on =
      let all : bands + (112 - bands) ≡ 112 = omega arith in
      let front : length (take bands row) ≡ bands = omega (arith, length-take bands row) in
      let back : length (take (112 - bands) (drop bands row)) ≡ 112 - bands = omega (arith, length-take (112 - bands) (drop bands row), length-drop bands row) in
      ap₂ ◌&&◌
      (ap (λ (n : ℕ). all_to n (λ i. leb (get_or (take bands row) i 0) (get_or (take bands limits) i 0))) front
      ∙ all_to-ext bands _ test (λ i h. ap₂ leb (get_or-take bands row i 0 h) (get_or-take bands limits i 0 h ∙ sym (ap (λ (t : Bool). cond t (get_or limits i 0) 0) (lt-ltb i bands h)))))
      (ap (λ (n : ℕ). all_to n (λ i. leb (get_or (take (112 - bands) (drop bands row)) i 0) 0)) back
      ∙ all_to-ext (112 - bands) _ (λ j. test (bands + j)) (λ i h. ap₂ leb (get_or-take (112 - bands) (drop bands row) i 0 (omega arith) ∙ get_or-drop bands row i 0) (sym (ap (λ (t : Bool). cond t (get_or limits (bands + i) 0) 0) (le-ltb (bands + i) bands (omega arith))))))
      ∙ sym (all_to-add test bands (112 - bands))
      ∙ ap (λ (n : ℕ). all_to n test) all

  pub row-off : all_zero row ≡ row_within false bands limits row
  unfolding all_zero row_within
  row-off = ap (λ (n : ℕ). all_to n (λ i. leb (get_or row i 0) 0)) long

-- row n of the totals
pub row-slots : (r : Registers) (limits totals : List ℕ) (n : ℕ) →
    row_within (enabled_of r n) (bands_of r) limits (part totals (n * 112) 112) ≡ all_to 112 (λ b. leb (slot totals n b) (cond (in_use r n b) (get_or limits b 0) 0))
unfolding row_within
row-slots r limits totals n = all_to-ext 112 _ _ (λ b h. ap (λ (x : ℕ). leb x (cond (in_use r n b) (get_or limits b 0) 0)) (get_d_part totals (n * 112) 112 b 0 h))

-- ---- all totals

pub zero-slots : (r : Registers) (totals : List ℕ) → length totals ≡ 784 → all_zero totals ≡ totals_within r 0 totals
unfolding all_zero totals_within
zero-slots r totals e =
    ap (λ (n : ℕ). all_to n (λ i. leb (get_or totals i 0) 0)) e
    ∙ all_to-grid (λ i. leb (get_or totals i 0) 0) 7 112
    ∙ all_to-ext 7 _ _ (λ n h. all_to-ext 112 _ _ (λ b l. ap (λ (x : ℕ). leb (slot totals n b) x) (sym (none n b))))
  where
    none : (n b : ℕ) → slot_limit r 0 n b ≡ 0
    none n b = ap (λ (x : ℕ). cond (in_use r n b) x 0) (ap (λ (x : ℕ). x * (2 ^ 32 - 1)) (zero-mul (width_of r b)) ∙ zero-mul (2 ^ 32 - 1)) ∙ cond_same (in_use r n b) 0

pub limited-slots : (r : Registers) (m : ℕ) (limits totals : List ℕ) → Limits (setting_of r) m limits → slots_within r limits totals ≡ totals_within r m totals
unfolding slots_within totals_within
limited-slots r m limits totals l =
    all_to-ext 7 _ _ (λ n h. all_to-ext 112 _ _ (λ b k. ap (λ (x : ℕ). leb (slot totals n b) x)
    (cond_both (λ (x : ℕ). x) (λ (x : ℕ). x) (in_use r n b)
    (λ u. l.limit b (ltb-true b (bands_of r) (both (enabled_of r n) (ltb b (bands_of r)) u).1)) (λ u. refl))))
