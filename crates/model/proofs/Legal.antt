-- The words of a report: three bytes each, of which the first is the APID, and legal band codes. Assumes nothing.
use Prim.Native.Nat.{ℕ, zero, suc, ◌+◌, ◌-◌, ◌*◌, ◌/◌, ◌%◌, ◌^◌, ◌<◌}
use mathlib.Core.Path.{◌≡◌, refl, sym, ap, ap₂, subst, ◌∙◌}
use mathlib.Core.Bool.{true, cond, and-eq-true_iff}
use mathlib.Core.List.{List, [], ◌++◌}
use native.Mathlib.Nat.{one-mul, zero-mul}
use native.Mathlib.Omega.{arith}
use lib.Dec.{ltb}
use lib.ListN.{length, get_or, length-append, get_or-append}
use lib.Seq.{get_or-append-add}
use borrow.Author.Tests.{ltb-true, ltb-false}
use Rattle.lists.specs.Sums.{sum_to}
use Rattle.lists.specs.Tables.{concat_to}
use Rattle.lists.proofs.Choices.{by_cases, cond-related}
use Rattle.lists.proofs.Sums.{sum_to-ones, sum_to-mul}
use Rattle.codes.specs.Code.{band_code, band_legal, legal_word, legal_words}
use Rattle.codes.proofs.BandCode.{band-legal}
use Rattle.codes.proofs.Neighbours.{legal-of}
use Rattle.codes.proofs.LegalWords.{legal-none, legal-more, legal-append}
use Rattle.registers.specs.declared.Registers.{Registers}
use Rattle.settings.specs.Settings.{enabled_of, words_each, spec_words}
use Rattle.words.specs.Words.{bits_from}
use Rattle.words.proofs.Bits.{bits_none, bits-first, bits-parts, bits-front, bits-behind}
use Rattle.model.specs.Report.{mean, spec_word, processor_bytes, report_bytes}
use Rattle.model.specs.Demand.{ReportedBand}
use Rattle.model.specs.Claims.{ReportWords, ReportLegal}

-- a word begins with the APID of SPEC
word-apid : (m : ℕ → ℕ) (j : ℕ) → get_or (spec_word m j) 0 0 ≡ 0x4E
word-apid m j = refl

-- one word's band codes
code_lt : (c : ℕ) → band_legal c ≡ true → c < 256
code_lt c h = omega (arith, (legal-of c h).small)

both-legal : (high low : ℕ) → band_legal high ≡ true → band_legal low ≡ true → legal_word (high * 256 + low) ≡ true
both-legal high low h l =
    let a : (high * 256 + low) / 256 ≡ high = omega (arith, code_lt low l) in
    let b : (high * 256 + low) % 256 ≡ low = omega (arith, code_lt low l) in
    rw (a, b, h, l)

-- n words of SPEC, three bytes each, whose band codes are legal if the means are small
record SpecBytes (Small : Type 0) (bytes : List ℕ) (n : ℕ) : Type 0 where
  long : length bytes ≡ 3 * n
  apids : (j : ℕ) → j < n → get_or bytes (3 * j) 0 ≡ 0x4E
  legal : Small → legal_words (bits_from 3 bytes 1 n) ≡ true

module _ (Small : Type 0) where
  no_bytes : SpecBytes Small [] 0
  no_bytes =
      record {
        long = refl;
        apids = λ j l. absurd (omega arith);
        legal = λ s. subst (λ (l : List ℕ). legal_words l ≡ true) (sym (bits_none 3 [] 1)) legal-none;
      }

  two-parts : (a b : List ℕ) (n m : ℕ) → SpecBytes Small a n → SpecBytes Small b m → SpecBytes Small (a ++ b) (n + m)
  two-parts a b n m p q =
      let at : 1 + 3 * n ≡ length a + 1 = omega (arith, p.long) in
      let front : bits_from 3 (a ++ b) 1 n ≡ bits_from 3 a 1 n = bits-front 3 a b (omega arith) 1 n (omega (arith, p.long)) in
      let behind : bits_from 3 (a ++ b) (1 + 3 * n) m ≡ bits_from 3 b 1 m = ap (λ (i : ℕ). bits_from 3 (a ++ b) i m) at ∙ bits-behind 3 a b 1 m in
      record {
        long = omega (arith, length-append a b, p.long, q.long);
        apids = λ j l.
            by_cases (ltb j n)
            (λ e. get_or-append a b 0 (3 * j) (omega (arith, p.long, ltb-true j n e)) ∙ p.apids j (ltb-true j n e))
            (λ e.
            let k : 3 * j ≡ length a + 3 * (j - n) = omega (arith, p.long, ltb-false j n e) in
            ap (λ (i : ℕ). get_or (a ++ b) i 0) k ∙ get_or-append-add a b (3 * (j - n)) 0 ∙ q.apids (j - n) (omega (arith, ltb-false j n e)));
        legal = λ s.
            subst (λ (l : List ℕ). legal_words l ≡ true) (sym (bits-parts 3 (a ++ b) 1 n m ∙ ap₂ ◌++◌ front behind))
            (legal-append (bits_from 3 a 1 n) (bits_from 3 b 1 m) ∙ (and-eq-true_iff (legal_words (bits_from 3 a 1 n)) (legal_words (bits_from 3 b 1 m))).1 (p.legal s, q.legal s));
      }

  -- parts one after the other
  parts : (k : ℕ) (f : ℕ → List ℕ) (w : ℕ → ℕ) → ((i : ℕ) → i < k → SpecBytes Small (f i) (w i)) → SpecBytes Small (concat_to k f) (sum_to k w)
  unfolding concat_to sum_to
  parts zero f w h = no_bytes
  parts (suc k) f w h = two-parts (concat_to k f) (f k) (sum_to k w) (w k) (parts k f w (λ i l. h i (omega arith))) (h k (omega arith))

  one_word : (m : ℕ → ℕ) (j : ℕ) → (Small → m (2 * j + 1) < 2 ^ 32) → (Small → m (2 * j) < 2 ^ 32) → SpecBytes Small (spec_word m j) 1
  one_word m j h l =
      record {
        long = refl;
        apids = λ i k. let z : 3 * i ≡ 0 = omega arith in ap (λ (p : ℕ). get_or (spec_word m j) p 0) z ∙ word-apid m j;
        legal = λ s.
            subst (λ (k : List ℕ). legal_words k ≡ true) (sym (bits-first 3 (spec_word m j) 1 0))
            (legal-more _ _ (both-legal (band_code (m (2 * j + 1))) (band_code (m (2 * j))) (band-legal _ (h s)) (band-legal _ (l s)))
            (subst (λ (k : List ℕ). legal_words k ≡ true) (sym (bits_none 3 (spec_word m j) 4)) legal-none));
      }

module _ (r : Registers) (t : ℕ → ℕ → ℕ) where
  abbrev Small : Type 0
  Small = (n b : ℕ) → ReportedBand r n b → mean r t n b < 2 ^ 32

  processor : (n : ℕ) → n < 7 → SpecBytes Small (processor_bytes r t n) (cond (enabled_of r n) 1 0 * words_each r)
  unfolding processor_bytes
  processor n l =
      cond-related (λ (a : List ℕ) (c : ℕ). SpecBytes Small a (c * words_each r)) (enabled_of r n) (enabled_of r n) refl
      (λ on. subst (SpecBytes Small _) (sum_to-ones (words_each r) ∙ sym (one-mul (words_each r)))
      (parts Small (words_each r) (spec_word (mean r t n)) (λ i. 1) (λ j k.
      one_word Small (mean r t n) j
      (λ small. small n (2 * j + 1) (record { processor = l; enabled = on; band = omega arith }))
      (λ small. small n (2 * j) (record { processor = l; enabled = on; band = omega arith })))))
      (λ off. subst (SpecBytes Small []) (sym (zero-mul (words_each r))) (no_bytes Small))

  report : SpecBytes Small (report_bytes r t) (spec_words r)
  unfolding report_bytes
  report = subst (SpecBytes Small (concat_to 7 (processor_bytes r t))) (sum_to-mul 7 _ (words_each r)) (parts Small 7 (processor_bytes r t) _ processor)

pub report-words : ReportWords
report-words r t = ((report r t).long, (report r t).apids)

pub report-legal : ReportLegal
report-legal r t = (report r t).legal
