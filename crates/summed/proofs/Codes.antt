-- The codes of totals that are a book's exact sums. Assumes nothing.
use Rattle.std.proofs.Common.{◌≡◌, ℕ, ◌+◌, ◌*◌, ◌^◌, ◌<◌, List, [], ◌++◌, length, get_or, drop, sym, refl, ap, ◌∙◌, subst, ap₂, append_assoc, arith}
use Rattle.lists.specs.Tables.{concat_to, overwrite}
use Rattle.lists.proofs.Tables.{concat_to-ext}
use Rattle.lists.proofs.Runs.{concat_to-add}
use Rattle.codes.specs.Code.{sum_code}
use Rattle.codes.proofs.Laws.{sum-bounds, sum-expanded}
use Rattle.fields.proofs.Pairs.{pairs-length, pair-of}
use Rattle.words.specs.Words.{pair_bytes, pair_at}
use Rattle.summed.specs.Totals.{code_bytes}
use Rattle.summed.specs.Book.{Book, exact_sum}
use Rattle.summed.specs.Claims.{CodeOf, run_codes, TotalsOf, CodesWritten}

-- the code of total i
abbrev pub code_at : List ℕ → ℕ → ℕ
code_at totals i = sum_code (get_or totals i 0)

pub code_of : (sum : ℕ) → sum < 2 ^ 64 → CodeOf sum (sum_code sum)
code_of sum h = record { own = refl; expanded = sum-expanded sum h; bounds = sum-bounds sum }

-- the codes of 2,048 totals are those of two runs, each given by a function of the bin
pub two_runs : (sums : List ℕ) (first second : ℕ → ℕ) → length sums ≡ 2048 → ((k : ℕ) → k < 1024 → get_or sums k 0 ≡ first k) →
    ((k : ℕ) → k < 1024 → get_or sums (1024 + k) 0 ≡ second k) →
    code_bytes sums ≡ concat_to 1024 (λ k. pair_bytes (sum_code (first k))) ++ concat_to 1024 (λ k. pair_bytes (sum_code (second k)))
unfolding code_bytes
two_runs sums first second long one two =
    ap (λ (n : ℕ). concat_to n (λ i. pair_bytes (sum_code (get_or sums i 0)))) long ∙ concat_to-add (λ i. pair_bytes (sum_code (get_or sums i 0))) 1024 1024
    ∙ ap₂ ◌++◌ (concat_to-ext 1024 _ _ (λ k l. ap (λ (x : ℕ). pair_bytes (sum_code x)) (one k l)))
    (concat_to-ext 1024 _ _ (λ k l. ap (λ (x : ℕ). pair_bytes (sum_code x)) (two k l)))

-- the codes of totals that are a book's sums, over an output
module _ (b : Book) (sums out : List ℕ) (t : TotalsOf b sums) where
  abbrev first_code : ℕ → ℕ
  first_code k = sum_code (exact_sum b.first b.components k)

  abbrev second_code : ℕ → ℕ
  second_code k = sum_code (exact_sum b.second b.components k)

  abbrev first_bytes : List ℕ
  first_bytes = run_codes b.first b.components

  abbrev second_bytes : List ℕ
  second_bytes = run_codes b.second b.components

  abbrev left : List ℕ
  left = overwrite (first_bytes ++ second_bytes) out

  abbrev rest : List ℕ
  rest = drop (length (first_bytes ++ second_bytes)) out

  first_code-at : (k : ℕ) → k < 1024 → pair_at left (2 * k) ≡ first_code k
  first_code-at k h =
      let e : 2 * k ≡ length {A = ℕ} [] + 2 * k = omega arith in
      ap₂ pair_at (append_assoc first_bytes second_bytes rest) e ∙ pair-of first_code [] (second_bytes ++ rest) 1024 k h

  second-code : (k : ℕ) → k < 1024 → pair_at left (2048 + 2 * k) ≡ second_code k
  second-code k h =
      let e : length first_bytes + 2 * k ≡ 2048 + 2 * k = omega (arith, pairs-length first_code 1024) in
      ap₂ pair_at (append_assoc first_bytes second_bytes rest) (sym e) ∙ pair-of second_code first_bytes rest 1024 k h

  pub codes-written : ((k : ℕ) → k < 1024 → exact_sum b.first b.components k < 2 ^ 64) →
      ((k : ℕ) → k < 1024 → exact_sum b.second b.components k < 2 ^ 64) → CodesWritten b out (overwrite (code_bytes sums) out)
  codes-written f g =
      subst (λ (l : List ℕ). CodesWritten b out (overwrite l out)) (sym (two_runs sums (exact_sum b.first b.components) (exact_sum b.second b.components) t.totals-length t.first_run t.second_run))
      (record {
        written = refl;
        first_run = λ k h. subst (CodeOf (exact_sum b.first b.components k)) (sym (first_code-at k h)) (code_of _ (f k h));
        second_run = λ k h. subst (CodeOf (exact_sum b.second b.components k)) (sym (second-code k h)) (code_of _ (g k h));
      })
