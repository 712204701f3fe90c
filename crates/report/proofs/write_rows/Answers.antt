-- `report::write_rows` meets its contract. Assumes nothing.
use Rattle.std.proofs.Common.{◌≡◌, ◌∙◌, ◌+◌, ◌-◌, ◌*◌, ◌/◌, ◌≤◌, ℕ, Bool, cond, List, ◌++◌, take, drop, refl, sym, subst, ap, ap₂, arith, rules}
use lib.Dec.{lit≤}
use borrow.Rule.Slice.PartMut.{same_len_mid}
use Rattle.registers.specs.declared.Registers.{Registers}
use Rattle.registers.specs.Store.{band_count}
use Rattle.lists.specs.Tables.{concat_to, overwrite}
use Rattle.lists.proofs.Choices.{cond-at}
use Rattle.lists.proofs.Overwriting.{part, parts_none}
use Rattle.settings.specs.Settings.{setting_of, bands_of, enabled_of}
use Rattle.settings.proofs.Settings.{bands-le}
use Rattle.model.specs.Report.{processor_bytes, report_bytes}
use Rattle.report.specs.Private.{row_bytes}
use Rattle.report.specs.Writing.{mean_bits}
use Rattle.report.proofs.Rows.{no_words, words_step, report-step}
use Rattle.report.proofs.write_rows.Goals as goal

-- a processor has 56 words at most, whose number the settings give
small : (on : Bool) (words count : ℕ) (r : Registers) → words ≡ bands_of r / 2 → count ≡ cond on words 0 → count ≤ 56
small on words count r s e = rw e (cond-at (λ (x : ℕ). x ≤ 56) on (λ t. omega (arith, bands-le r)) (λ t. lit≤ tt))

words-of : (r : Registers) (setting words : ℕ) → setting ≡ setting_of r → words ≡ band_count setting / 2 → words ≡ bands_of r / 2
words-of r setting words e half = half ∙ ap (λ (s : ℕ). band_count s / 2) e

pub loop-n-init : goal.loop-n-init
loop-n-init c = (no_words c.args.registers, search rules, search rules, refl, parts_none _ _)

pub overflow_mul-averaging : goal.overflow_mul-averaging
overflow_mul-averaging c =
    let m = c.of-averaging in
    omega (arith, bands-le c.args.registers, words-of c.args.registers m.result.setting m.result.words m.ensures.setting_value m.result.half)

pub overflow_add-at : goal.overflow_add-at
overflow_add-at c =
    let m = c.of-averaging in
    omega (arith, bands-le c.args.registers, words-of c.args.registers m.result.setting m.result.words m.ensures.setting_value m.result.half)

pub slice_bounds-write_if_enabled-end-in-loop-n : goal.slice_bounds-write_if_enabled-end-in-loop-n
slice_bounds-write_if_enabled-end-in-loop-n c =
    let m = c.of-averaging in
    omega (arith, bands-le c.args.registers, words-of c.args.registers m.result.setting m.result.words m.ensures.setting_value m.result.half)

pub loop-n-preserved : goal.loop-n-preserved
loop-n-preserved c =
    let a = c.args in
    let r = a.registers in
    let l = c.loop-n in
    let m = c.of-averaging in
    let k = words-of r m.result.setting m.result.words m.ensures.setting_value m.result.half in
    let on = c.enabled in
    let w = c.write_if_enabled-written in
    let put : List ℕ = w.new.out in
    let count : w.result ≡ cond on.result m.result.words 0 = w.ensures.words ∙ ap (λ (n : ℕ). cond on.result n 0) (sym m.result.half) in (
      words_step r l.n l.written w.result l.invariant.0 (count ∙ ap₂ (λ (t : Bool) (n : ℕ). cond t n 0) on.ensures k),
      search rules,
      omega (arith, small on.result m.result.words w.result r k count),
      same_len_mid (3 * l.written) (3 * l.written + 3 * m.result.words - 3 * l.written) l.out put (search rules) ∙ l.invariant.3,
      subst (λ (n : ℕ). take (3 * l.written) l.out ++ (put ++ drop (3 * l.written + 3 * n - 3 * l.written) (drop (3 * l.written) l.out)) ≡ overwrite (concat_to (l.n + 1) (processor_bytes r (mean_bits r a.totals.now))) a.out.now)
          (sym k)
          (report-step r m.result.exponent m.ensures.exponent_value a.totals.now a.out.now l.n l.written l.out put l.invariant.0 l.invariant.4
          (w.ensures.bytes
          ∙ ap₂ (λ (t : Bool) (s : ℕ). cond t (row_bytes s m.result.exponent (part a.totals.now (l.n * 112) 112)) (part l.out (3 * l.written) (3 * m.result.words))) on.ensures m.ensures.setting_value
          ∙ ap (λ (n : ℕ). cond (enabled_of r l.n) (row_bytes (setting_of r) m.result.exponent (part a.totals.now (l.n * 112) 112)) (part l.out (3 * l.written) (3 * n))) k)),
    )

pub returns : goal.returns
unfolding report_bytes
returns c = let e : c.loop-n.n ≡ 7 = omega arith in (rw e at c.loop-n.invariant.4, rw e at c.loop-n.invariant.0, omega arith)
