-- `totals::add_row` meets its contract. The loop: the bands before `band` have their powers. Assumes nothing.
use Rattle.std.proofs.Common.{◌≡◌, ℕ, ◌+◌, ◌-◌, ◌*◌, ◌^◌, ◌≤◌, List, ◌++◌, length, take, drop, sym, refl, ap, ◌∙◌, subst, ap₂, mul_comm, pow-suc, mul-one, mul-add, add-one, arith, length-take-le, pow_mono, rules}
use lib.Seq.{length_front}
use borrow.Rule.Slice.PartMut.{same_len_mid}
use Rattle.lists.specs.Tables.{tabulate, overwrite}
use Rattle.lists.proofs.Overwriting.{part, length_part}
use Rattle.lists.proofs.Runs.{table-run}
use Rattle.registers.specs.Store.{band_count}
use Rattle.registers.proofs.Counts.{bands-count}
use Rattle.bands.proofs.Octaves.{shifted_size, shifted-size, size-le, bands-size, octave-bins}
use Rattle.totals.proofs.Rows.{octave_slot, no-octave, octave-ends, narrow-over, octave-over, row_done}
use Rattle.totals.proofs.add_row.Goals as goal

-- ---- bands of one bin

small : (setting : ℕ) → setting ≤ 2 → 2 * shifted_size setting ≤ 32
small setting h = omega (arith, size-le setting h)

pub overflow_mul-band : goal.overflow_mul-band
overflow_mul-band c = omega (arith, small c.args.setting c.requires.setting_bound)

pub slice_bounds-add_run-end : goal.slice_bounds-add_run-end
slice_bounds-add_run-end c = omega (arith, small c.args.setting c.requires.setting_bound, c.requires.row_len)

pub slice_bounds-add_run-end-2 : goal.slice_bounds-add_run-end-2
slice_bounds-add_run-end-2 c = sym (length-take-le (2 * shifted_size c.args.setting) c.args.row.now (omega (arith, small c.args.setting c.requires.setting_bound, c.requires.row_len)))

pub slice_bounds-add_run-end-3 : goal.slice_bounds-add_run-end-3
slice_bounds-add_run-end-3 c = sym (length-take-le (2 * shifted_size c.args.setting) c.args.powers.now (omega (arith, small c.args.setting c.requires.setting_bound, c.requires.powers_len)))

pub add_run-requires : goal.add_run-requires
add_run-requires c =
    let a = c.args in
    let n = 2 * shifted_size c.args.setting in
    let few : n ≤ 32 = small c.args.setting c.requires.setting_bound in
    let front : length (take n a.row.now) ≡ n = length-take-le n a.row.now (omega (arith, c.requires.row_len)) in
    let bins : length (take n a.powers.now) ≡ n = length-take-le n a.powers.now (omega (arith, c.requires.powers_len)) in
    record {
      bins = omega arith;
      few = omega arith;
    }

-- the row once these have their powers
abbrev start : ℕ → List ℕ → List ℕ → List ℕ
start setting front row = front ++ drop (2 * shifted_size setting) row

pub loop-octave-init : goal.loop-octave-init
loop-octave-init c =
    let a = c.args in
    let size = shifted_size c.args.setting in (
      search rules,
      refl,
      mul_comm 2 size,
      search rules,
      refl,
      (length_front c.args.row.now c.add_run.new.row (2 * shifted_size c.args.setting) c.add_run.auto.row ∙ c.requires.row_len),
      no-octave a.setting size (start c.args.setting c.add_run.new.row c.args.row.now) a.powers.now (omega (arith, small c.args.setting c.requires.setting_bound, (length_front c.args.row.now c.add_run.new.row (2 * shifted_size c.args.setting) c.add_run.auto.row ∙ c.requires.row_len))),
    )

-- ---- in a turn: the octave is within the bands, and its bins within the powers

wide : (width octave : ℕ) → width ≡ 2 ^ octave → 2 * width ≡ 2 ^ (octave + 1)
wide width octave e = rw add-one (omega (arith, e, pow-suc 2 octave))

bins-in : (setting width octave : ℕ) → setting ≤ 2 → width ≡ 2 ^ octave → octave + 1 ≤ 7 - setting → shifted_size setting * (2 * width) ≤ 512
bins-in setting width octave h e o =
    subst (λ (x : ℕ). x ≤ 512) (sym (ap₂ ◌*◌ (shifted-size setting h) (wide width octave e)))
    (octave-bins setting (octave + 1) h (omega arith))

bands-in : (setting octave band : ℕ) → setting ≤ 2 → octave + 1 ≤ 7 - setting → band ≡ shifted_size setting * (octave + 1 + 1) → band + shifted_size setting ≤ 112
bands-in setting octave band h o e =
    omega (
      arith,
      octave-ends setting (shifted_size setting) (octave + 1) band (shifted-size setting h) h (omega arith) e,
      (bands-count setting).at_most,
    )

pub overflow_mul-width : goal.overflow_mul-width
overflow_mul-width c = omega (arith, wide c.loop-octave.width c.loop-octave.octave c.loop-octave.invariant.4, pow_mono {i = c.loop-octave.octave + 1} {j = 8} (omega arith))

pub overflow_mul-bin : goal.overflow_mul-bin
overflow_mul-bin c = omega (arith, bins-in c.args.setting c.loop-octave.width c.loop-octave.octave c.requires.setting_bound c.loop-octave.invariant.4 (omega arith))

pub overflow_add-band : goal.overflow_add-band
overflow_add-band c = omega (arith, bands-in c.args.setting c.loop-octave.octave c.loop-octave.band c.requires.setting_bound (omega arith) c.loop-octave.invariant.2)

pub offset_bounds-row-band : goal.offset_bounds-row-band
offset_bounds-row-band c = omega (arith, bands-in c.args.setting c.loop-octave.octave c.loop-octave.band c.requires.setting_bound (omega arith) c.loop-octave.invariant.2)

pub slice_bounds-add_octave-end : goal.slice_bounds-add_octave-end
slice_bounds-add_octave-end c = omega (arith, bands-in c.args.setting c.loop-octave.octave c.loop-octave.band c.requires.setting_bound (omega arith) c.loop-octave.invariant.2)

pub overflow_add-bin : goal.overflow_add-bin
overflow_add-bin c = omega (arith, bins-in c.args.setting c.loop-octave.width c.loop-octave.octave c.requires.setting_bound c.loop-octave.invariant.4 (omega arith))

pub offset_bounds-powers-bin : goal.offset_bounds-powers-bin
offset_bounds-powers-bin c = omega (arith, bins-in c.args.setting c.loop-octave.width c.loop-octave.octave c.requires.setting_bound c.loop-octave.invariant.4 (omega arith))

pub slice_bounds-add_octave-end-in-loop-octave : goal.slice_bounds-add_octave-end-in-loop-octave
slice_bounds-add_octave-end-in-loop-octave c = omega (arith, bins-in c.args.setting c.loop-octave.width c.loop-octave.octave c.requires.setting_bound c.loop-octave.invariant.4 (omega arith), c.requires.powers_len)

pub add_octave-requires : goal.add_octave-requires
add_octave-requires c =
    let a = c.args in
    let l = c.loop-octave in
    let size = shifted_size c.args.setting in
    let band-part : length (part l.row l.band size) ≡ size = length_part l.row l.band size (omega (arith, bands-in c.args.setting c.loop-octave.octave c.loop-octave.band c.requires.setting_bound (omega arith) c.loop-octave.invariant.2)) in
    let bin-part : length (part a.powers.now (size * (2 * l.width)) (size * (2 * l.width))) ≡ size * (2 * l.width) =
    length_part a.powers.now (size * (2 * l.width)) (size * (2 * l.width)) (omega (arith, bins-in c.args.setting c.loop-octave.width c.loop-octave.octave c.requires.setting_bound c.loop-octave.invariant.4 (omega arith), c.requires.powers_len)) in
    record {
      bins = bin-part ∙ ap (λ (n : ℕ). n * (2 * l.width)) (sym band-part);
      few = omega (arith, bins-in c.args.setting c.loop-octave.width c.loop-octave.octave c.requires.setting_bound c.loop-octave.invariant.4 (omega arith));
    }

pub overflow_add-band-in-loop-octave : goal.overflow_add-band-in-loop-octave
overflow_add-band-in-loop-octave c = omega (arith, bands-in c.args.setting c.loop-octave.octave c.loop-octave.band c.requires.setting_bound (omega arith) c.loop-octave.invariant.2)

pub loop-octave-preserved : goal.loop-octave-preserved
loop-octave-preserved c =
    let a = c.args in
    let l = c.loop-octave in
    let size = shifted_size c.args.setting in
    let w = c.add_octave in (
      omega arith,
      refl,
      ap₂ ◌+◌ l.invariant.2 (sym (mul-one size)) ∙ sym (mul-add size (l.octave + 1 + 1) 1),
      omega arith,
      wide c.loop-octave.width c.loop-octave.octave c.loop-octave.invariant.4,
      same_len_mid l.band (l.band + size - l.band) l.row w.new.row w.auto.row ∙ l.invariant.5,
      table-run (octave_slot a.setting size (start c.args.setting c.add_run.new.row c.args.row.now) a.powers.now) (start c.args.setting c.add_run.new.row c.args.row.now) l.band size (l.band + size - l.band) l.row w.new.row l.invariant.6
          (w.ensures
          ∙ octave-over a.setting size (start c.args.setting c.add_run.new.row c.args.row.now) a.powers.now (shifted-size c.args.setting c.requires.setting_bound) c.requires.setting_bound (length_front c.args.row.now c.add_run.new.row (2 * shifted_size c.args.setting) c.add_run.auto.row ∙ c.requires.row_len) c.requires.powers_len
          (l.octave + 1) l.band (2 * l.width) l.row (octave_slot a.setting size (start c.args.setting c.add_run.new.row c.args.row.now) a.powers.now) (omega arith) l.invariant.2 (wide c.loop-octave.width c.loop-octave.octave c.loop-octave.invariant.4) l.invariant.6 l.invariant.5 l.invariant.3)
          (omega arith),
    )

pub shape_of-row : goal.shape_of-row
shape_of-row c = c.loop-octave.invariant.5 ∙ sym c.requires.row_len

pub returns : goal.returns
returns c =
    let a = c.args in
    let l = c.loop-octave in
    let size = shifted_size c.args.setting in
    let all : l.band ≡ band_count a.setting = l.invariant.2 ∙ ap₂ ◌*◌ (shifted-size c.args.setting c.requires.setting_bound) (omega arith) ∙ sym (bands-size a.setting c.requires.setting_bound) in
    row_done a.setting size a.row.now a.powers.now (shifted-size c.args.setting c.requires.setting_bound) c.requires.setting_bound c.requires.row_len c.requires.powers_len
    (start c.args.setting c.add_run.new.row c.args.row.now) l.row (narrow-over c.args.setting (shifted_size c.args.setting) c.args.row.now c.args.powers.now (shifted-size c.args.setting c.requires.setting_bound) c.requires.setting_bound c.requires.row_len c.requires.powers_len c.add_run.new.row c.add_run.ensures)
    (subst (λ (n : ℕ). l.row ≡ overwrite (tabulate n (octave_slot a.setting size (start c.args.setting c.add_run.new.row c.args.row.now) a.powers.now)) (start c.args.setting c.add_run.new.row c.args.row.now)) all l.invariant.6)
