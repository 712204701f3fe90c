-- What stands at a place of a list, and what the step there makes of it: a record that is passed, the end, or a fault of the profile's rules.
-- Assumes nothing.
use mathlib.Core.Bool.{true, false, not, true≢false}
use mathlib.Core.List.{List}
use mathlib.Core.Path.{◌≡◌, refl, sym, ap, subst, ◌∙◌}
use Prim.Native.Nat.{ℕ, ◌+◌, ◌≤◌, ◌<◌}
use native.Mathlib.Omega.{arith}
use borrow.Author.Tests.{le-leb, leb-true, leb-false, lt-leb, eqb-true, eqb-false, ne_eqb, ltb-true, ltb-false, lt-ltb, le-ltb}
use lib.Dec.{leb, ltb, eqb}
use lib.ListN.{length}
use Rattle.lists.proofs.Choices.{by_cases, cond-at}
use Rattle.refusal.specs.Outcome.{Outcome, given, refused}
use Rattle.registers.specs.Store.{stored}
use Rattle.registers.specs.Access.{is_id}
use Rattle.words.specs.Words.{is_apid}
use Rattle.board_log.specs.declared.Command.{Command}
use Rattle.board_log.specs.declared.Word.{Word}
use Rattle.board_log.specs.declared.Record.{Record}
use Rattle.board_log.specs.Format.{is_kind, decode, checked}
use Rattle.board_log.specs.Cursor.{Found, read_at, next_place, found_checked}
use Rattle.board_log.proofs.Encoding.{read-end}
use Rattle.checker.specs.declared.Standing.{Standing}
use Rattle.checker.specs.Check.{Judged, accepted, refused_at, Stepped, next, last, within_period, check_command, check_mark, after_record, end_judgement, judged_at, record_step, read_step, step_at}
use Rattle.checker.proofs.Period.{over-broken, broken-over}
use Rattle.checker.specs.Claims.{in_profile, registers_after, PeriodKept, kind_at, Stands, NotFalling, Offends, unknown-kind, body-cut, other-kind, unknown-id, altered, falls, over-period, over-period-at-end}
use Rattle.checker.proofs.Rules.{After, Last, unmarked, marked, not-falling}
use Rattle.checker.proofs.Steps.{Passed, step-passes}

-- ---- reading at a place

module _ (log : List ℕ) (at : ℕ) where
  abbrev kind : ℕ
  kind = kind_at log at

  read-unknown : at < length log → is_kind kind ≡ false → read_at log at ≡ refused 9
  unfolding read_at
  read-unknown h k = simp (le-leb at (length log) (omega arith), ne_eqb at (length log) (omega arith), k)

  read-cut : at < length log → is_kind kind ≡ true → length log < next_place at kind → read_at log at ≡ refused 10
  unfolding read_at
  read-cut h k f = simp (le-leb at (length log) (omega arith), ne_eqb at (length log) (omega arith), k, lt-leb (next_place at kind) (length log) f)

  read-stands : (r : Record) → Stands log at r → read_at log at ≡ found_checked (checked r) (next_place at kind)
  unfolding read_at
  read-stands r st =
      simp (le-leb at (length log) (omega (arith, st.whole)), ne_eqb at (length log) (omega (arith, st.whole)), st.kind, le-leb (next_place at kind) (length log) st.whole, st.is)

  -- all that can stand at a place within the list
  data Reading : Type 0 where
    at-end : at ≡ length log → Reading
    unknown : at < length log → is_kind kind ≡ false → Reading
    cut : at < length log → is_kind kind ≡ true → length log < next_place at kind → Reading
    whole : (r : Record) → Stands log at r → Reading

  reading : at ≤ length log → Reading
  reading h =
      by_cases (eqb at (length log)) (λ e. at-end (eqb-true at (length log) e))
      (λ e.
      let before : at < length log = omega (arith, eqb-false at (length log) e) in
      by_cases (is_kind kind)
      (λ k. by_cases (leb (next_place at kind) (length log))
      (λ f. whole (decode log (at + 1) kind) (record { kind = k; whole = leb-true _ _ f; is = refl }))
      (λ f. cut before k (leb-false (next_place at kind) (length log) f)))
      (λ k. unknown before k))

-- ---- the step at a fault

module _ (log : List ℕ) (at : ℕ) (rs : List Record) (s : Standing) (a : After rs s) where
  step-read : (o : Outcome Found) → read_at log at ≡ o → step_at log at s ≡ read_step o at s
  step-read o e = ap (λ (q : Outcome Found). read_step q at s) e

  abbrev Fault : ℕ → Stepped
  Fault n = judged_at s (refused_at n at)

  -- a word, whatever its APID
  step-word : (w : Word) → Stands log at (Record.Word w) → step_at log at s ≡ Fault 18
  step-word w st =
      step-read _ (read-stands log at (Record.Word w) st)
      ∙ cond-at (λ (o : Outcome Record). read_step (found_checked o (next_place at (kind_at log at))) at s ≡ Fault 18) (not (is_apid w.apid)) (λ e. refl) (λ e. refl)

  step_other : (r : Record) → Stands log at r → in_profile r ≡ false → step_at log at s ≡ Fault 18
  step_other (Record.Command c) st e = absurd (true≢false e)
  step_other (Record.SecondMark t) st e = absurd (true≢false e)
  step_other (Record.Word w) st e = step-word w st
  step_other Record.Tick st e = step-read _ (read-stands log at Record.Tick st)

  step-unknown-id : (c : Command) → Stands log at (Record.Command c) → is_id c.id ≡ false → step_at log at s ≡ Fault 1
  step-unknown-id c st e =
      let unknown : checked (Record.Command c) ≡ refused 1 = simp e in
      step-read _ (read-stands log at (Record.Command c) st ∙ ap (λ (o : Outcome Record). found_checked o (next_place at (kind_at log at))) unknown)

  -- a command that is known, and a second mark, are judged by the rule
  step-command : (c : Command) → Stands log at (Record.Command c) → is_id c.id ≡ true → step_at log at s ≡ record_step (check_command c) s (Record.Command c) at (next_place at (kind_at log at))
  step-command c st e =
      let known : checked (Record.Command c) ≡ given (Record.Command c) = simp e in
      step-read _ (read-stands log at (Record.Command c) st ∙ ap (λ (o : Outcome Record). found_checked o (next_place at (kind_at log at))) known)

  step-mark : (t : ℕ) → Stands log at (Record.SecondMark t) → step_at log at s ≡ record_step (check_mark s t) s (Record.SecondMark t) at (next_place at (kind_at log at))
  step-mark t st = step-read _ (read-stands log at (Record.SecondMark t) st)

  step-altered : (c : Command) → Stands log at (Record.Command c) → is_id c.id ≡ true → ¬ (stored c.id c.information ≡ c.information) → step_at log at s ≡ Fault 20
  step-altered c st e h = step-command c st e ∙ simp (ne_eqb (stored c.id c.information) c.information h)

  step_falls : (t : ℕ) → Stands log at (Record.SecondMark t) → t < s.second → step_at log at s ≡ Fault 19
  step_falls t st h = step-mark t st ∙ simp (lt-ltb t s.second h)

  -- the last second is at most one that is smaller than none of the marks
  second-most : (t : ℕ) → NotFalling rs t → s.second ≤ t
  second-most t h = by a.reached
    where
      by : Last rs s.second → s.second ≤ t
      by (unmarked e) = omega (arith, e)
      by (marked before later e) = h before later s.second e

  over : ¬ PeriodKept (registers_after rs) → within_period s.registers ≡ false
  over p = ap within_period a.registers ∙ broken-over rs p

  step-over : (t : ℕ) → Stands log at (Record.SecondMark t) → NotFalling rs t → ¬ PeriodKept (registers_after rs) → step_at log at s ≡ Fault 21
  step-over t st h p = step-mark t st ∙ simp (le-ltb t s.second (second-most t h), over p)

  step_end : at ≡ length log → step_at log at s ≡ judged_at s (end_judgement s.registers at)
  step_end e = step-read _ (ap (read_at log) e ∙ read-end log)

  -- a fault by a number is refused by it
  pub fault-refused : (n : ℕ) → Offends log at rs n → step_at log at s ≡ Fault n
  fault-refused n (unknown-kind h k) = step-read _ (read-unknown log at h k)
  fault-refused n (body-cut h k f) = step-read _ (read-cut log at h k f)
  fault-refused n (other-kind {r = r} st e) = step_other r st e
  fault-refused n (unknown-id {c = c} st e) = step-unknown-id c st e
  fault-refused n (altered {c = c} st e h) = step-altered c st e h
  fault-refused n (falls {s = x} {t = t} before later st e h) = step_falls t st (omega (arith, a.most before later x e))
  fault-refused n (over-period {t = t} st h p) = step-over t st h p
  fault-refused n (over-period-at-end e p) = step_end e ∙ simp (over p)

  -- ---- and every step passes a record, ends the list or meets a fault

  abbrev pub Judges : Judged → Type 0
  Judges accepted = (at ≡ length log) × (within_period s.registers ≡ true)
  Judges (refused_at n k) = (k ≡ at) × Offends log at rs n

  abbrev pub StepHolds : Stepped → Type 0
  StepHolds (next after later) = Passed log at s after later
  StepHolds (last v) = (v.registers ≡ s.registers) × Judges v.judged

  broken : within_period s.registers ≡ false → ¬ PeriodKept (registers_after rs)
  broken p = over-broken rs (ap within_period (sym a.registers) ∙ p)

  refuse : (n : ℕ) → Offends log at rs n → step_at log at s ≡ Fault n → StepHolds (step_at log at s)
  refuse n o e = subst StepHolds (sym e) (refl, (refl, o))

  pass : (after : ℕ) (later : Standing) → step_at log at s ≡ next after later → StepHolds (step_at log at s)
  pass after later e = subst StepHolds (sym e) (step-passes log at s after later e)

  fault : (n : ℕ) → Offends log at rs n → StepHolds (step_at log at s)
  fault n o = refuse n o (fault-refused n o)

  command-holds : (c : Command) → Stands log at (Record.Command c) → StepHolds (step_at log at s)
  command-holds c st =
      by_cases (is_id c.id)
      (λ k. by_cases (eqb (stored c.id c.information) c.information)
      (λ e. pass (next_place at (kind_at log at)) (after_record s (Record.Command c)) (step-command c st k ∙ simp e))
      (λ e. fault 20 (altered st k (eqb-false _ _ e))))
      (λ k. fault 1 (unknown-id st k))

  mark-holds : (t : ℕ) → Stands log at (Record.SecondMark t) → StepHolds (step_at log at s)
  mark-holds t st =
      by_cases (ltb t s.second) (λ f. falling a.reached (ltb-true t s.second f))
      (λ f. by_cases (within_period s.registers)
      (λ p. pass (next_place at (kind_at log at)) (after_record s (Record.SecondMark t)) (step-mark t st ∙ simp (f, p)))
      (λ p. fault 21 (over-period st (not-falling rs s a t (ltb-false t s.second f)) (broken p))))
    where
      falling : Last rs s.second → t < s.second → StepHolds (step_at log at s)
      falling (unmarked e) h = absurd (omega (arith, e))
      falling (marked before later e) h = fault 19 (falls before later st e h)

  end-holds : at ≡ length log → StepHolds (step_at log at s)
  end-holds e =
      by_cases (within_period s.registers)
      (λ p. let z : step_at log at s ≡ judged_at s accepted = step_end e ∙ simp p in
      subst StepHolds (sym z) (refl, (e, p)))
      (λ p. fault 21 (over-period-at-end e (broken p)))

  stands-holds : (r : Record) → Stands log at r → StepHolds (step_at log at s)
  stands-holds (Record.Command c) st = command-holds c st
  stands-holds (Record.SecondMark t) st = mark-holds t st
  stands-holds (Record.Word w) st = fault 18 (other-kind st refl)
  stands-holds Record.Tick st = fault 18 (other-kind st refl)

  pub step-holds : at ≤ length log → StepHolds (step_at log at s)
  step-holds h = by (reading log at h)
    where
      by : Reading log at → StepHolds (step_at log at s)
      by (at-end e) = end-holds e
      by (unknown b k) = fault 9 (unknown-kind b k)
      by (cut b k f) = fault 10 (body-cut b k f)
      by (whole r st) = stands-holds r st
