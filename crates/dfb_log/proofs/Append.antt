-- The cases of append by a kind. Assumes nothing.
use mathlib.Core.Path.{◌≡◌, ap, ◌∙◌}
use mathlib.Core.Bool.{true, false}
use mathlib.Core.List.{List}
use Prim.Native.Nat.{ℕ}
use Rattle.lists.proofs.Choices.{by_cases}
use Rattle.refusal.specs.Outcome.{Outcome, given, refused, Filled, unfilled}
use Rattle.board_log.specs.declared.Record.{Record}
use Rattle.board_log.specs.Format.{is_kind}
use Rattle.board_log.specs.Append.{append_outcome}
use Rattle.dfb_log.specs.Append.{record_of, is_wide, wide_refusal, narrow_record, append_kind}

-- append of a record, or its refusal
abbrev pub appended : List ℕ → ℕ → Outcome Record → Filled ℕ
appended log used (given r) = append_outcome log used r
appended log used (refused n) = unfilled n log

module _ (log : List ℕ) (used kind a b : ℕ) where
  pub append-other : is_kind kind ≡ false → unfilled 9 log ≡ append_kind log used kind a b
  unfolding append_kind
  append-other e = simp e

  append-wide : is_kind kind ≡ true → is_wide kind b ≡ true → unfilled (wide_refusal kind a) log ≡ append_kind log used kind a b
  unfolding append_kind
  append-wide e wide = simp (e, wide)

  pub append-record : is_kind kind ≡ true → is_wide kind b ≡ false → append_outcome log used (record_of kind a b) ≡ append_kind log used kind a b
  unfolding append_kind
  append-record e narrow = simp (e, narrow)

  append-narrow : is_kind kind ≡ true → appended log used (narrow_record kind a b) ≡ append_kind log used kind a b
  append-narrow e = by_cases (is_wide kind b) (λ w. rw w (append-wide e w)) (λ w. rw w (append-record e w))

  -- the record of a kind, or its refusal, is appended
  pub append-of : (byte : ℕ) (o : Outcome Record) → is_kind kind ≡ true → byte ≡ kind → o ≡ narrow_record byte a b → appended log used o ≡ append_kind log used kind a b
  append-of byte o e is h = ap (appended log used) h ∙ ap (λ (k : ℕ). appended log used (narrow_record k a b)) is ∙ append-narrow e
