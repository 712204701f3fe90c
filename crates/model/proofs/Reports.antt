-- The bytes of a report: what they depend on, and the codes read back out of them. Assumes nothing.
use Prim.Native.Nat.{ℕ, ◌+◌, ◌*◌, ◌/◌, ◌%◌, ◌<◌}
use mathlib.Core.Path.{◌≡◌, refl, sym, ap, ◌∙◌, subst}
use mathlib.Core.Bool.{true, cond, ◌&&◌, and-eq-true_iff}
use mathlib.Core.List.{List, [], ◌++◌}
use native.Mathlib.Omega.{arith}
use native.Mathlib.Nat.{mul_assoc, one-mul, zero-mul}
use lib.ListN.{length, get_or, drop}
use lib.Dec.{ltb, eqb, lit<}
use borrow.Author.Tests.{lt-ltb, eqb-true, eqb-false}
use Rattle.lists.specs.Tables.{concat_to, overwrite}
use Rattle.lists.proofs.Choices.{cond_both, cond-true, cond-at}
use Rattle.lists.proofs.Tables.{concat_to-ext, length-concat_to, length-parts, get_d-concat_to, get_d-concat_to-then}
use Rattle.codes.specs.Code.{band_code, band_value}
use Rattle.settings.specs.Settings.{enabled_of, enabled_before, bands_of}
use Rattle.registers.specs.declared.Registers.{Registers}
use Rattle.settings.proofs.Settings.{bands-le, bands-even}
use Rattle.model.specs.Totals.{slot}
use Rattle.model.specs.Report.{mean, spec_word, processor_bytes, report_bytes}
use Rattle.model.specs.Reference.{spectra_total}
use Rattle.model.specs.Demand.{ReportedBand, word_index, byte_in_word, printed_value}
use Rattle.model.proofs.Invariant.{held_totals, slot-of-held}

-- The totals held are, slot by slot, the spectra's.
pub slot_held : (r : Registers) (sp : List (List ℕ)) (n b : ℕ) → ReportedBand r n b → slot (held_totals r sp) n b ≡ spectra_total r sp n b
slot_held r sp n b s =
    rw (slot-of-held r sp n b s.processor (omega (arith, s.band, bands-le r)))
    (cond-true (enabled_of r n && ltb b (bands_of r)) _ 0 ((and-eq-true_iff (enabled_of r n) (ltb b (bands_of r))).1 (s.enabled, lt-ltb b _ s.band)))

-- A report depends on the totals of its slots alone.
word-ext : (m m' : ℕ → ℕ) (j : ℕ) → m (2 * j + 1) ≡ m' (2 * j + 1) → m (2 * j) ≡ m' (2 * j) → spec_word m j ≡ spec_word m' j
word-ext m m' j p q = rw (p, q)

pub words-ext : (k : ℕ) (m m' : ℕ → ℕ) → ((b : ℕ) → b < 2 * k → m b ≡ m' b) → concat_to k (spec_word m) ≡ concat_to k (spec_word m')
words-ext k m m' h = concat_to-ext k _ _ (λ j l. word-ext m m' j (h (2 * j + 1) (omega arith)) (h (2 * j) (omega arith)))

pub report-ext : (r : Registers) (t t' : ℕ → ℕ → ℕ) → ((n b : ℕ) → ReportedBand r n b → t n b ≡ t' n b) → report_bytes r t ≡ report_bytes r t'
unfolding report_bytes processor_bytes
report-ext r t t' h =
    concat_to-ext 7 _ _ (λ n l. cond_both (λ x. x) (λ x. x) (enabled_of r n) (λ on.
    words-ext (bands_of r / 2) _ _ (λ b k. ap (λ x. mean r (λ i j. x) n b) (h n b (record { processor = l; enabled = on; band = omega arith })))) (λ off. refl))

-- The code of a band, in its word, in its processor's words, in the report.
byte-lt : (b : ℕ) → byte_in_word b < 3
byte-lt b = cond-at (λ c. c < 3) (eqb (b % 2) 0) (λ e. lit< tt) (λ e. lit< tt)

in-word : (m : ℕ → ℕ) (b : ℕ) → get_or (spec_word m (b / 2)) (byte_in_word b) 0 ≡ band_code (m b)
in-word m b =
    cond-at (λ c. get_or (spec_word m (b / 2)) c 0 ≡ band_code (m b)) (eqb (b % 2) 0)
    (λ e. ap (λ x. band_code (m x)) (omega (arith, eqb-true (b % 2) 0 e)))
    (λ e. ap (λ x. band_code (m x)) (odd (eqb-false (b % 2) 0 e)))
  where
    odd : ¬ (b % 2 ≡ 0) → 2 * (b / 2) + 1 ≡ b
    odd h = omega arith

pub length-words : (m : ℕ → ℕ) (k : ℕ) → length (concat_to k (spec_word m)) ≡ k * 3
length-words m k = length-parts k (spec_word m) 3 (λ j. refl)

in-processor : (m : ℕ → ℕ) (b k : ℕ) → b / 2 < k → get_or (concat_to k (spec_word m)) (b / 2 * 3 + byte_in_word b) 0 ≡ band_code (m b)
in-processor m b k l =
    subst (λ i. get_or (concat_to k (spec_word m)) (i + byte_in_word b) 0 ≡ band_code (m b)) (length-words m (b / 2))
    (get_d-concat_to k (spec_word m) 0 (b / 2) l (byte_in_word b) (byte-lt b) ∙ in-word m b)

module _ (r : Registers) (t : ℕ → ℕ → ℕ) where
  abbrev words : ℕ
  words = bands_of r / 2

  length-processor : (n : ℕ) → length (processor_bytes r t n) ≡ cond (enabled_of r n) 1 0 * (words * 3)
  unfolding processor_bytes
  length-processor n =
      cond_both length (λ c. c * (words * 3)) (enabled_of r n)
      (λ e. length-words (mean r t n) words ∙ sym (one-mul (words * 3))) (λ e. sym (zero-mul (words * 3)))

  -- the bytes of the processors before n
  pub length_before : (n : ℕ) → length (concat_to n (processor_bytes r t)) ≡ enabled_before r n * (words * 3)
  length_before n = length-concat_to n (processor_bytes r t) (λ i. cond (enabled_of r i) 1 0) (words * 3) length-processor

  processor-on : (n : ℕ) → enabled_of r n ≡ true → processor_bytes r t n ≡ concat_to words (spec_word (mean r t n))
  unfolding processor_bytes
  processor-on n on = cond-true (enabled_of r n) _ [] on

  in-report : (n b : ℕ) → ReportedBand r n b → (z : List ℕ) →
      get_or (report_bytes r t ++ z) (3 * word_index r n b + byte_in_word b) 0 ≡ band_code (mean r t n b)
  unfolding report_bytes
  in-report n b s z =
      let l : b / 2 < words = omega (arith, s.band, bands-even r) in
      let e : length (processor_bytes r t n) ≡ words * 3 = ap length (processor-on n s.enabled) ∙ length-words (mean r t n) words in
      let k : b / 2 * 3 + byte_in_word b < length (processor_bytes r t n) = omega (arith, byte-lt b) in
      let at : 3 * word_index r n b + byte_in_word b ≡ length (concat_to n (processor_bytes r t)) + (b / 2 * 3 + byte_in_word b) =
      omega (arith, length_before n, mul_assoc (enabled_before r n) words 3) in
      rw (at, get_d-concat_to-then 7 (processor_bytes r t) z 0 n s.processor (b / 2 * 3 + byte_in_word b) k, processor-on n s.enabled)
      (in-processor (mean r t n) b words l)

-- V of a report is what the code of the mean stands for.
pub printed-mean : (r : Registers) (t : ℕ → ℕ → ℕ) (n b : ℕ) → ReportedBand r n b → (out : List ℕ) →
    printed_value r (overwrite (report_bytes r t) out) n b ≡ band_value (band_code (mean r t n b))
printed-mean r t n b s out = ap band_value (in-report r t n b s (drop (length (report_bytes r t)) out))
