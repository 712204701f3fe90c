-- The words of processor n are those of row n of the totals. Assumes nothing.
use Prim.Native.Nat.{ℕ, ◌+◌, ◌-◌, ◌*◌, ◌/◌, ◌%◌, ◌^◌, ◌<◌}
use mathlib.Core.Path.{◌≡◌, refl, sym, ap, ap₂, ◌∙◌}
use mathlib.Core.Bool.{Bool, true, false, cond}
use mathlib.Core.List.{List, ◌++◌}
use native.Mathlib.Nat.{add-zero, add-mul, mul_comm, mul_assoc, mul-pos, one-mul, zero-mul, mod-lt}
use native.Mathlib.Omega.{arith}
use lib.Arith.{mod-mul, digits_div}
use lib.ListN.{length, take, drop}
use lib.Pow.{pow_pos}
use Rattle.lists.specs.Tables.{concat_to, overwrite}
use Rattle.lists.proofs.Sums.{sum_to-none}
use Rattle.lists.proofs.Overwriting.{part, get_d_part, parts_more, parts-kept}
use Rattle.bands.specs.Band.{band_width}
use Rattle.settings.specs.Settings.{setting_of, bands_of, averaged_spectra, enabled_of, enabled_before}
use Rattle.registers.specs.declared.Registers.{Registers}
use Rattle.settings.proofs.Settings.{bands-le, before_on, before-off, averaged-pos}
use Rattle.model.specs.Totals.{width_of, slot}
use Rattle.model.specs.Report.{divisor, mean, spec_word, processor_bytes}
use Rattle.model.proofs.Reports.{words-ext, length-words, length_before}
use Rattle.report.specs.Writing.{mean_bits}
use Rattle.report.specs.Private.{row_mean, row_bytes}

-- ---- the mean in 32 bits

pub divisor-pos : (r : Registers) (b : ℕ) → 0 < divisor r b
unfolding band_width
divisor-pos r b = mul-pos (averaged-pos r) (pow_pos _)

low-mean : (t d : ℕ) → 0 < d → t % (2 ^ 32 * d) / d ≡ t / d % 2 ^ 32
low-mean t d h = ap (λ (x : ℕ). x / d) (mod-mul t {m = 2 ^ 32} {c = d} (pow_pos 32) h) ∙ digits_div (t / d % 2 ^ 32) (mod-lt t h)

-- ---- row n

module _ (r : Registers) (exponent : ℕ) (averaged : 2 ^ exponent ≡ averaged_spectra r) (totals : List ℕ) where
  row-mean : (n b : ℕ) → b < 112 → row_mean (setting_of r) exponent (part totals (n * 112) 112) b ≡ mean r (mean_bits r totals) n b
  row-mean n b h =
      ap₂ (λ (x d : ℕ). x / (d * width_of r b) % 2 ^ 32) (get_d_part totals (n * 112) 112 b 0 h) averaged
      ∙ sym (low-mean (slot totals n b) (divisor r b) (divisor-pos r b))

  row-bytes : (n : ℕ) → row_bytes (setting_of r) exponent (part totals (n * 112) 112) ≡ concat_to (bands_of r / 2) (spec_word (mean r (mean_bits r totals) n))
  unfolding row_bytes
  row-bytes n = words-ext (bands_of r / 2) _ _ (λ b h. row-mean n b (omega (arith, bands-le r)))

  -- a loop that writes the words of one processor after the other
  abbrev half : ℕ
  half = bands_of r / 2

  -- the bytes before those of processor n
  words-before : (n words : ℕ) → words ≡ enabled_before r n * half → length (concat_to n (processor_bytes r (mean_bits r totals))) ≡ 3 * words
  words-before n words e = omega (arith, length_before r (mean_bits r totals) n, mul_assoc (enabled_before r n) half 3, mul_comm words 3)

  pub report-step : (out : List ℕ) (n words : ℕ) (l ys : List ℕ) → words ≡ enabled_before r n * half → l ≡ overwrite (concat_to n (processor_bytes r (mean_bits r totals))) out →
      ys ≡ cond (enabled_of r n) (row_bytes (setting_of r) exponent (part totals (n * 112) 112)) (part l (3 * words) (3 * half)) →
      take (3 * words) l ++ (ys ++ drop (3 * words + 3 * half - 3 * words) (drop (3 * words) l)) ≡ overwrite (concat_to (n + 1) (processor_bytes r (mean_bits r totals))) out
  unfolding processor_bytes
  report-step out n words l ys w e q = go (enabled_of r n) refl q
    where
      go : (t : Bool) → enabled_of r n ≡ t → ys ≡ cond t (row_bytes (setting_of r) exponent (part totals (n * 112) 112)) (part l (3 * words) (3 * half)) →
          take (3 * words) l ++ (ys ++ drop (3 * words + 3 * half - 3 * words) (drop (3 * words) l)) ≡ overwrite (concat_to (n + 1) (processor_bytes r (mean_bits r totals))) out
      go true p q =
          let k : ys ≡ concat_to half (spec_word (mean r (mean_bits r totals) n)) = q ∙ row-bytes n in
          parts_more (processor_bytes r (mean_bits r totals)) out n (3 * words) (3 * words + 3 * half - 3 * words) l ys e (words-before n words w) (rw p k)
          (ap length k ∙ length-words (mean r (mean_bits r totals) n) half ∙ omega arith)
      go false p q =
          parts-kept (processor_bytes r (mean_bits r totals)) out n (3 * words) (3 * words + 3 * half - 3 * words) l ys e (rw p refl) q

pub words_step : (r : Registers) (n words count : ℕ) → words ≡ enabled_before r n * (bands_of r / 2) → count ≡ cond (enabled_of r n) (bands_of r / 2) 0 →
    words + count ≡ enabled_before r (n + 1) * (bands_of r / 2)
words_step r n words count e q = go (enabled_of r n) refl q
  where
    go : (t : Bool) → enabled_of r n ≡ t → count ≡ cond t (bands_of r / 2) 0 → words + count ≡ enabled_before r (n + 1) * (bands_of r / 2)
    go true p q = rw (before_on r n p, e, q, add-mul (enabled_before r n) 1 (bands_of r / 2), one-mul (bands_of r / 2))
    go false p q = rw (before-off r n p, e, q, add-zero)

pub no_words : (r : Registers) → 0 ≡ enabled_before r 0 * (bands_of r / 2)
no_words r = sym (ap (λ (n : ℕ). n * (bands_of r / 2)) (sum_to-none _) ∙ zero-mul (bands_of r / 2))
