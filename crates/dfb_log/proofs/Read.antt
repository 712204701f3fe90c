-- What was appended is read where it was appended. Assumes nothing.
use mathlib.Core.Path.{◌≡◌, refl, sym, ap, subst, ◌∙◌}
use mathlib.Core.Bool.{true, not}
use mathlib.Core.List.{List, ◌++◌, append_assoc}
use Prim.Native.Nat.{ℕ, zero, suc, ◌+◌, ◌≤◌}
use native.Mathlib.Omega.{arith}
use borrow.Author.Tests.{leb-true, not-false}
use lib.Dec.{leb}
use lib.ListN.{length, take, drop}
use lib.Seq.{length-take-le}
use Rattle.lists.proofs.Choices.{cond-at, both}
use Rattle.refusal.specs.Outcome.{Outcome, given, refused, Filled}
use Rattle.refusal.proofs.Outcomes.{given-same, refused-given}
use Rattle.board_log.specs.declared.Record.{Record}
use Rattle.board_log.specs.Format.{is_kind, record_length, encode, checked}
use Rattle.board_log.specs.Append.{used_with, append_checked, append_outcome}
use Rattle.board_log.specs.Cursor.{found, read_at}
use Rattle.board_log.proofs.Encoding.{check-gives, read-encoded}
use Rattle.dfb_log.specs.Append.{record_of}
use Rattle.dfb_log.specs.Read.{record_numbers, appended_numbers}

module _ (log : List ℕ) (used : ℕ) (r : Record) where
  -- what a call leaves: the record is read at the place, with the place answered
  abbrev Reads : Filled ℕ → Type 0
  Reads f = (next : ℕ) → f.answer ≡ given next → read_at f.buffer used ≡ given (found r next)

  written : checked r ≡ given r → Reads (append_checked log used (given r))
  written kept =
      cond-at Reads (not (leb (used_with used r) (length log))) (λ f next e. absurd (refused-given 2 next e)) (λ f next e.
      let fits : used_with used r ≤ length log = leb-true _ _ (not-false _ f) in
      let long : length (take used log) ≡ used = length-take-le used log (omega arith) in
      let rest = drop (used_with used r) log in
      ap (λ (l : List ℕ). read_at l used) (append_assoc (take used log) (encode r) rest)
      ∙ subst (λ (n : ℕ). read_at (take used log ++ (encode r ++ rest)) n ≡ given (found r (n + record_length r))) long (read-encoded (take used log) rest r kept)
      ∙ ap (λ (n : ℕ). given (found r n)) (given-same (used_with used r) next e))

  by-check : (q : Outcome Record) → checked r ≡ q → Reads (append_checked log used q)
  by-check (given d) e =
      let is : r ≡ d = check-gives r d e in
      subst (λ (x : Record). Reads (append_checked log used (given x))) is (written (e ∙ ap given (sym is)))
  by-check (refused n) e = λ next f. absurd (refused-given n next f)

  pub append-reads : Reads (append_outcome log used r)
  unfolding append_outcome
  append-reads = by-check (checked r) refl

-- the numbers of the record of a kind
numbers-by : (kind a b next : ℕ) → 1 ≤ kind → kind ≤ 4 → record_numbers (found (record_of kind a b) next) ≡ appended_numbers kind a b
numbers-by zero a b next l h = absurd (omega arith)
numbers-by (suc zero) a b next l h = refl
numbers-by (suc (suc zero)) a b next l h = refl
numbers-by (suc (suc (suc zero))) a b next l h = refl
numbers-by (suc (suc (suc (suc zero)))) a b next l h = refl
numbers-by (suc (suc (suc (suc (suc k))))) a b next l h = absurd (omega arith)

pub numbers-of-kind : (kind a b next : ℕ) → is_kind kind ≡ true → record_numbers (found (record_of kind a b) next) ≡ appended_numbers kind a b
numbers-of-kind kind a b next e =
    let t = both (leb 1 kind) (leb kind 4) e in
    numbers-by kind a b next (leb-true _ _ t.0) (leb-true _ _ t.1)
