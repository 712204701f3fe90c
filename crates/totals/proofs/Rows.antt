-- The slots of processor n are the entries of row n, of the totals and of the powers; and a row's powers are added octave by octave.
-- Assumes nothing.
use Rattle.std.proofs.Common.{◌≡◌, ℕ, suc, ◌+◌, ◌-◌, ◌*◌, ◌%◌, ◌^◌, ◌<◌, ◌≤◌, Bool, true, false, cond, ◌&&◌, ltb, List, ◌++◌, length, get_or, take, drop, sym, refl, ap, ◌∙◌, subst, ap₂, mul-le-mul_right, suc-mul, mul-one, mul-add, arith, length-take-le, get_or-take, le-ltb, lt-ltb}
use native.Mathlib.Decide.{dec_lt}
use lib.ListN.{get_or-append}
use lib.Seq.{drop-append_seam}
use Rattle.lists.specs.Sums.{sum_to}
use Rattle.lists.specs.Tables.{tabulate, concat_to, grid, overwrite}
use Rattle.lists.proofs.Sums.{sum_to-ext}
use Rattle.lists.proofs.Tables.{length-tabulate, get_d_tabulate, tabulate-of, tabulate-ext, length-grid}
use Rattle.lists.proofs.Overwriting.{part, length_part, get_d_part, length-overwrite, get_d-overwrite, overwrite-tabulate, overwrite-all, parts_more}
use Rattle.bands.specs.Band.{size_exponent}
use Rattle.registers.specs.Store.{band_count}
use Rattle.bands.specs.Power.{band_sum}
use Rattle.bands.proofs.Power.{band_sum-ext}
use Rattle.registers.proofs.Counts.{bands-count}
use Rattle.bands.proofs.Octaves.{octave-le, narrow-le, narrow-sum, octave-sum}
use Rattle.settings.specs.Settings.{setting_of, bands_of, enabled_of}
use Rattle.registers.specs.declared.Registers.{Registers}
use Rattle.model.specs.Totals.{power, band_power, slot}
use Rattle.totals.specs.Adding.{added_slot}
use Rattle.totals.specs.Private.{added_run, row_slot, added_row}

-- ---- adding a tick's powers to a row, octave by octave

-- past the count nothing is added
past-count : (setting : ℕ) (row bins : List ℕ) (i : ℕ) → band_count setting ≤ i → get_or row i 0 ≡ row_slot setting row bins i
past-count setting row bins i h = rw (le-ltb i (band_count setting) h)

-- band b once the bands from 2 S on have their powers
abbrev pub octave_slot : (setting size : ℕ) → List ℕ → List ℕ → ℕ → ℕ
octave_slot setting size row powers b = cond (ltb b (2 * size)) (get_or row b 0) (row_slot setting row powers b)

-- before the first octave
pub no-octave : (setting size : ℕ) (row powers : List ℕ) → 2 * size ≤ length row → row ≡ overwrite (tabulate (2 * size) (octave_slot setting size row powers)) row
no-octave setting size row powers h =
    tabulate-of (length row) (λ i. get_or row i 0) 0 row refl (λ i l. refl)
    ∙ sym (overwrite-tabulate (λ i. get_or row i 0) (2 * size) (length row) row 0 h refl (λ i l m. refl))
    ∙ ap (λ (xs : List ℕ). overwrite xs row)
    (tabulate-ext (2 * size) (λ i. get_or row i 0) _ (λ b l. sym (ap (λ (t : Bool). cond t (get_or row b 0) (row_slot setting row powers b)) (lt-ltb b (2 * size) l))))

pub octave-ends : (setting size e band : ℕ) → size ≡ 2 ^ size_exponent setting → setting ≤ 2 → e ≤ 7 - setting → band ≡ size * (e + 1) → band + size ≤ band_count setting
octave-ends setting size e band is known few first =
    let end : size * (e + 2) ≡ band + size = ap (λ (x : ℕ). size * x) (omega arith) ∙ mul-add size (e + 1) 1 ∙ ap₂ ◌+◌ (sym first) (mul-one size) in
    omega (arith, ap (λ (x : ℕ). x * (e + 2)) is, octave-le setting e known (omega arith))

module _ (setting size : ℕ) (row powers : List ℕ) (is : size ≡ 2 ^ size_exponent setting) (known : setting ≤ 2) (long : length row ≡ 112) (bins : length powers ≡ 1024) where
  abbrev at : ℕ → ℕ
  at k = get_or powers k 0

  in_count : (b : ℕ) → b < band_count setting → row_slot setting row powers b ≡ (get_or row b 0 + band_sum (size_exponent setting) b at) % 2 ^ 64
  in_count b h = ap (λ (t : Bool). cond t ((get_or row b 0 + band_sum (size_exponent setting) b at) % 2 ^ 64) (get_or row b 0)) (lt-ltb b (band_count setting) h)

  -- bands of one bin
  pub narrow-added : (band : ℕ) → band ≡ 2 * size → added_run 1 (take band row) (take band powers) ≡ tabulate band (row_slot setting row powers)
  unfolding added_run
  narrow-added band e =
      let few : band ≤ band_count setting = omega (arith, narrow-le setting known) in
      let small : band_count setting ≤ 112 = (bands-count setting).at_most in
      ap (λ (n : ℕ). tabulate n (λ j. (get_or (take band row) j 0 + sum_to 1 (λ k. get_or (take band powers) (j * 1 + k) 0)) % 2 ^ 64)) (length-take-le band row (omega arith))
      ∙ tabulate-ext band _ (row_slot setting row powers) (λ j h. ap₂ (λ (x y : ℕ). (x + y) % 2 ^ 64) (get_or-take band row j 0 h)
      (sum_to-ext 1 _ (λ k. at (j * 1 + k)) (λ k l. get_or-take band powers (j * 1 + k) 0 (omega arith))
      ∙ sym (narrow-sum setting j (omega arith) (omega arith) at))
      ∙ sym (in_count j (omega arith)))

  -- the row once these have their powers
  pub narrow-over : (ys : List ℕ) → ys ≡ added_run 1 (take (2 * size) row) (take (2 * size) powers) →
      ys ++ drop (2 * size) row ≡ overwrite (tabulate (2 * size) (row_slot setting row powers)) row
  narrow-over ys e =
      ap₂ ◌++◌ (e ∙ narrow-added (2 * size) refl) (ap (λ (n : ℕ). drop n row) (sym (length-tabulate (2 * size) (row_slot setting row powers))))

  -- the bands of octave e, whose totals in l are those of row
  module _ (e band width : ℕ) (l : List ℕ) (f : ℕ → ℕ) (few : e ≤ 7 - setting) (first : band ≡ size * (e + 1)) (wide : width ≡ 2 ^ e)
      (before : l ≡ overwrite (tabulate band f) row) (l-long : length l ≡ 112) where
    pub octave-kept : (j : ℕ) → j < size → get_or (part l band size) j 0 ≡ get_or row (band + j) 0
    octave-kept j h =
        get_d_part l band size j 0 h
        ∙ ap (λ (x : List ℕ). get_or x (band + j) 0) before
        ∙ get_d-overwrite (tabulate band f) row (band + j) 0 (omega (arith, length-tabulate band f))

    pub octave-added : added_run width (part l band size) (part powers (size * width) (size * width)) ≡ tabulate size (λ j. row_slot setting row powers (band + j))
    unfolding added_run
    octave-added =
        let small : band_count setting ≤ 112 = (bands-count setting).at_most in
        ap (λ (n : ℕ). tabulate n (λ j. (get_or (part l band size) j 0 + sum_to width (λ k. get_or (part powers (size * width) (size * width)) (j * width + k) 0)) % 2 ^ 64))
        (length_part l band size (omega (arith, octave-ends setting size e band is known few first)))
        ∙ tabulate-ext size _ _ (λ j h. ap₂ (λ (x y : ℕ). (x + y) % 2 ^ 64) (octave-kept j h) (sums j h) ∙ sym (in_count (band + j) (inside j h)))
      where
        s : ℕ
        s = size_exponent setting

        within : (j k : ℕ) → j < size → k < width → j * width + k < size * width
        within j k h m = omega (arith, suc-mul j width, mul-le-mul_right {m = suc j} {n = size} width h)

        inside : (j : ℕ) → j < size → band + j < band_count setting
        inside j h = omega (arith, octave-ends setting size e band is known few first)

        sums : (j : ℕ) → j < size → sum_to width (λ k. get_or (part powers (size * width) (size * width)) (j * width + k) 0) ≡ band_sum s (band + j) at
        sums j h =
            let start : band ≡ 2 ^ s * (e + 1) = first ∙ ap (λ (x : ℕ). x * (e + 1)) is in
            sum_to-ext width _ (λ k. at (size * width + j * width + k))
            (λ k m. get_d_part powers (size * width) (size * width) (j * width + k) 0 (within j k h m) ∙ ap at (omega arith))
            ∙ ap₂ (λ (a w : ℕ). sum_to w (λ k. at (a * w + j * w + k))) is wide
            ∙ sym (ap (λ (b : ℕ). band_sum s (b + j) at) start ∙ octave-sum setting e j (subst (λ (b : ℕ). b + j < band_count setting) start (inside j h)) (omega arith) at)

    pub octave-over : 2 * size ≤ band → added_run width (part l band size) (part powers (size * width) (size * width)) ≡ tabulate size (λ j. octave_slot setting size row powers (band + j))
    octave-over h =
        octave-added ∙ tabulate-ext size _ _ (λ j m. sym (ap (λ (t : Bool). cond t (get_or row (band + j) 0) (row_slot setting row powers (band + j))) (le-ltb (band + j) (2 * size) (omega arith))))

  -- all bands: the row was start once the bands of one bin had their powers
  module _ (start l : List ℕ) (narrow : start ≡ overwrite (tabulate (2 * size) (row_slot setting row powers)) row) where
    started : (b : ℕ) → b < 2 * size → get_or start b 0 ≡ row_slot setting row powers b
    started b h =
        ap (λ (x : List ℕ). get_or x b 0) narrow
        ∙ get_or-append (tabulate (2 * size) (row_slot setting row powers)) _ 0 b (omega (arith, length-tabulate (2 * size) (row_slot setting row powers)))
        ∙ get_d_tabulate (2 * size) (row_slot setting row powers) 0 b h

    pub kept : (b : ℕ) → 2 * size ≤ b → get_or start b 0 ≡ get_or row b 0
    kept b h =
        ap (λ (x : List ℕ). get_or x b 0) narrow
        ∙ get_d-overwrite (tabulate (2 * size) (row_slot setting row powers)) row b 0 (omega (arith, length-tabulate (2 * size) (row_slot setting row powers)))

    pub row_done : l ≡ overwrite (tabulate (band_count setting) (octave_slot setting size start powers)) start → l ≡ added_row setting row powers
    unfolding added_row
    row_done e =
        let few : 2 * size ≤ band_count setting = omega (arith, narrow-le setting known) in
        let small : band_count setting ≤ 112 = (bands-count setting).at_most in
        e
        ∙ ap (λ (xs : List ℕ). overwrite xs start) (tabulate-ext (band_count setting) _ (row_slot setting row powers) (λ b h. same b (dec_lt b (2 * size))))
        ∙ overwrite-tabulate (row_slot setting row powers) (band_count setting) 112 start 0 small
        (ap length narrow ∙ length-overwrite (tabulate (2 * size) (row_slot setting row powers)) row (omega (arith, length-tabulate (2 * size) (row_slot setting row powers))) ∙ long)
        (λ i h m. kept i (omega arith) ∙ past-count setting row powers i h)
      where
        same : (b : ℕ) → Dec (b < 2 * size) → octave_slot setting size start powers b ≡ row_slot setting row powers b
        same b (yes h) = ap (λ (t : Bool). cond t (get_or start b 0) (row_slot setting start powers b)) (lt-ltb b (2 * size) h) ∙ started b h
        same b (no h) =
            ap (λ (t : Bool). cond t (get_or start b 0) (row_slot setting start powers b)) (le-ltb b (2 * size) (omega arith))
            ∙ ap (λ (x : ℕ). cond (ltb b (band_count setting)) ((x + band_sum (size_exponent setting) b at) % 2 ^ 64) x) (kept b (omega arith))

-- ---- adding a tick's powers to all rows

row-added : (r : Registers) (totals ps : List ℕ) (n : ℕ) → n * 112 + 112 ≤ length totals →
    cond (enabled_of r n) (added_row (setting_of r) (part totals (n * 112) 112) (part ps (n * 1024) 1024)) (part totals (n * 112) 112) ≡ tabulate 112 (added_slot r totals ps n)
unfolding added_row
row-added r totals ps n h = go (enabled_of r n)
  where
    slots : Bool → ℕ → ℕ
    slots t b = cond (t && ltb b (bands_of r)) ((slot totals n b + band_power r ps n b) % 2 ^ 64) (slot totals n b)

    powers : (b : ℕ) → band_sum (size_exponent (setting_of r)) b (λ k. get_or (part ps (n * 1024) 1024) k 0) ≡ band_power r ps n b
    powers b = band_sum-ext (size_exponent (setting_of r)) b _ (power ps n) (λ k l. get_d_part ps (n * 1024) 1024 k 0 l)

    go : (t : Bool) → cond t (added_row (setting_of r) (part totals (n * 112) 112) (part ps (n * 1024) 1024)) (part totals (n * 112) 112) ≡ tabulate 112 (slots t)
    go true =
        tabulate-ext 112 _ _
        (λ b l. ap₂ (λ (x y : ℕ). cond (ltb b (bands_of r)) ((x + y) % 2 ^ 64) x) (get_d_part totals (n * 112) 112 b 0 l) (powers b))
    go false =
        tabulate-of 112 (slots false) 0 _ (length_part totals (n * 112) 112 h)
        (λ b l. get_d_part totals (n * 112) 112 b 0 l)

-- a loop that adds a tick's powers to one row after the other
abbrev pub summed_row : Registers → List ℕ → List ℕ → ℕ → List ℕ
summed_row r totals ps n = tabulate 112 (added_slot r totals ps n)

module _ (r : Registers) (totals ps : List ℕ) (long : length totals ≡ 784) where
  abbrev rows : ℕ → List ℕ
  rows = summed_row r totals ps

  pub row_kept : (n : ℕ) (l : List ℕ) → l ≡ overwrite (concat_to n rows) totals → part l (n * 112) 112 ≡ part totals (n * 112) 112
  row_kept n l e =
      ap (λ (x : List ℕ). take (n * 112 + 112 - n * 112) x)
      (rw (e, ← length-grid n 112 (added_slot r totals ps)) (drop-append_seam (concat_to n rows) (drop (length (concat_to n rows)) totals)))

  pub row_step : (n : ℕ) (l ys : List ℕ) → n < 7 → l ≡ overwrite (concat_to n rows) totals →
      ys ≡ cond (enabled_of r n) (added_row (setting_of r) (part l (n * 112) 112) (part ps (n * 1024) 1024)) (part l (n * 112) 112) →
      take (n * 112) l ++ (ys ++ drop (n * 112 + 112 - n * 112) (drop (n * 112) l)) ≡ overwrite (concat_to (n + 1) rows) totals
  row_step n l ys h e q =
      let p : ys ≡ rows n = q ∙ rw (row_kept n l e) (row-added r totals ps n (omega arith)) in
      parts_more rows totals n (n * 112) (n * 112 + 112 - n * 112) l ys e (length-grid n 112 (added_slot r totals ps)) p
      (ap length p ∙ length-tabulate 112 _ ∙ omega arith)

  pub rows_all : (l : List ℕ) → l ≡ overwrite (concat_to 7 rows) totals → l ≡ grid 7 112 (added_slot r totals ps)
  rows_all l e = e ∙ overwrite-all (concat_to 7 rows) totals (length-grid 7 112 (added_slot r totals ps) ∙ sym long)
