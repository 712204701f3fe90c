-- Laws of the steps of a check: a step over a record moves on within the list, and the number of steps does not matter once it is more than
-- the bytes left. Assumes nothing.
use mathlib.Core.List.{List}
use mathlib.Core.Path.{◌≡◌, refl, sym, ap, subst, ◌∙◌}
use Prim.Native.Nat.{ℕ, zero, suc, ◌+◌, ◌-◌, ◌≤◌, ◌<◌}
use native.Mathlib.Omega.{arith}
use lib.ListN.{length}
use Rattle.std.specs.Prelude.{Option, Result, Ok, Err}
use Rattle.refusal.specs.declared.Refusal.{Refusal}
use Rattle.refusal.specs.Number.{number_of}
use Rattle.refusal.specs.Outcome.{Outcome, given, refused}
use Rattle.refusal.proofs.Outcomes.{given-refused}
use Rattle.board_log.specs.declared.Record.{Record}
use Rattle.board_log.specs.declared.Entry.{Entry}
use Rattle.board_log.specs.Cursor.{Found, found, end, read_outcome, read_at}
use Rattle.board_log.proofs.Moves.{found-parts}
use Rattle.board_log.proofs.Tags.{NoRecord, without-record}
use Rattle.checker.specs.declared.Standing.{Standing}
use Rattle.checker.specs.Check.{refused_at, Checked, Stepped, next, last, check_record, after_record, judged_at, record_step, read_step, step_at, checked_on, check_steps, check_from}
use Rattle.checker.specs.Private.{Kept, kept_left, kept_by, kept, judgement_without_record}

no_step : {v : Checked} {after : ℕ} {later : Standing} → last v ≡ next after later → ⊥
no_step e = let z : ◌≡◌ {A = ℕ} 0 1 = cc in omega arith

no_given : {n : ℕ} {t : Unit {0}} {s s' : Standing} → ◌≡◌ {A = Kept} (record { answer = refused n; standing = s }) (record { answer = given t; standing = s' }) → ⊥
no_given {n = n} {t = t} e = given-refused t n (sym (ap (λ (k : Kept). k.answer) e))

record After (o : Outcome (Unit {0})) (s : Standing) (r : Record) (place after : ℕ) (later : Standing) : Type 0 where
  kept : o ≡ given tt
  moved : place ≡ after
  leaves : later ≡ after_record s r

record-after : (o : Outcome (Unit {0})) (s : Standing) (r : Record) (at place after : ℕ) (later : Standing) → record_step o s r at place ≡ next after later
    → After o s r place after later
record-after (given tt) s r at place after later e = record { kept = refl; moved = cc; leaves = cc }
record-after (refused n) s r at place after later e = absurd (no_step e)

-- a step over a record: what was read, and what it leaves
pub record Passed (log : List ℕ) (at : ℕ) (s : Standing) (after : ℕ) (later : Standing) : Type 0 where
  pub entry : Record
  pub read : read_at log at ≡ given (found entry after)
  pub kept : check_record s entry ≡ given tt
  pub leaves : later ≡ after_record s entry
  pub forward : at < after
  pub within : after ≤ length log

pub step-passes : (log : List ℕ) (at : ℕ) (s : Standing) (after : ℕ) (later : Standing) → step_at log at s ≡ next after later → Passed log at s after later
step-passes log at s after later = by (read_at log at) refl
  where
    by : (q : Outcome Found) → read_at log at ≡ q → read_step q at s ≡ next after later → Passed log at s after later
    by (given (found r place)) e h =
        let o = record-after (check_record s r) s r at place after later h in
        let f = found-parts log at r place e in
        record {
          entry = r;
          read = subst (λ (p : ℕ). read_at log at ≡ given (found r p)) o.moved e;
          kept = o.kept;
          leaves = o.leaves;
          forward = omega (arith, o.moved, f.forward);
          within = omega (arith, o.moved, f.within);
        }
    by (given end) e h = absurd (no_step h)
    by (refused n) e h = absurd (no_step h)

-- the step at a place by what was read there: no record, a record that is refused, and one that is kept
pub step-without : (at : ℕ) (s : Standing) (q : Result (Option Entry) Refusal) → NoRecord q → read_step (read_outcome q) at s ≡ judged_at s (judgement_without_record (read_outcome q) s.registers at)
step-without at s = without-record (λ (o : Outcome Found). read_step o at s ≡ judged_at s (judgement_without_record o s.registers at)) refl (λ n. refl)

module _ (log : List ℕ) (at : ℕ) (s : Standing) (r : Record) (after : ℕ) (e : read_at log at ≡ given (found r after)) where
  step-found : step_at log at s ≡ record_step (check_record s r) s r at after
  step-found = ap (λ (o : Outcome Found). read_step o at s) e

  pub step-refused : (n : ℕ) → check_record s r ≡ refused n → step_at log at s ≡ judged_at s (refused_at n at)
  step-refused n k = step-found ∙ ap (λ (o : Outcome (Unit {0})). record_step o s r at after) k

  pub step_kept : check_record s r ≡ given tt → step_at log at s ≡ next after (after_record s r)
  step_kept k = step-found ∙ ap (λ (o : Outcome (Unit {0})). record_step o s r at after) k

-- a record that was refused, and one that was taken, by what is kept
module _ (s : Standing) (r : Record) (x : Result (Unit {0}) Refusal) (later : Standing) where
  pub kept-refused : (f : Refusal) → kept_left x later ≡ kept s r → x ≡ Err f → (check_record s r ≡ refused (number_of f)) × (later ≡ s)
  kept-refused f e k = by (check_record s r) refl (sym (ap (λ (y : Result (Unit {0}) Refusal). kept_left y later) k) ∙ e)
    where
      by : (o : Outcome (Unit {0})) → check_record s r ≡ o → record { answer = refused (number_of f); standing = later } ≡ kept_by o s (after_record s r)
          → (check_record s r ≡ refused (number_of f)) × (later ≡ s)
      by (given t) g h = absurd (no_given h)
      by (refused n) g h = (g ∙ sym (ap (λ (y : Kept). y.answer) h), ap (λ (y : Kept). y.standing) h)

  pub kept-given : (t : Unit {0}) → kept_left x later ≡ kept s r → x ≡ Ok t → (check_record s r ≡ given tt) × (later ≡ after_record s r)
  kept-given t e k = by (check_record s r) refl (sym (ap (λ (y : Result (Unit {0}) Refusal). kept_left y later) k) ∙ e)
    where
      by : (o : Outcome (Unit {0})) → check_record s r ≡ o → record { answer = given t; standing = later } ≡ kept_by o s (after_record s r)
          → (check_record s r ≡ given tt) × (later ≡ after_record s r)
      by (given u) g h = (g, ap (λ (y : Kept). y.standing) h)
      by (refused n) g h = absurd (no_given (sym h))

-- one step
pub steps_next : (k : ℕ) (log : List ℕ) (at : ℕ) (s : Standing) (after : ℕ) (later : Standing) → step_at log at s ≡ next after later
    → check_steps (suc k) log at s ≡ check_steps k log after later
unfolding check_steps
steps_next k log at s after later e = ap (λ (q : Stepped). checked_on q (check_steps k log)) e

pub steps-last : (k : ℕ) (log : List ℕ) (at : ℕ) (s : Standing) (v : Checked) → step_at log at s ≡ last v → check_steps (suc k) log at s ≡ v
unfolding check_steps
steps-last k log at s v e = ap (λ (q : Stepped). checked_on q (check_steps k log)) e

step_same : (k m : ℕ) (log : List ℕ) (at : ℕ) (s : Standing)
    → ((after : ℕ) (later : Standing) → Passed log at s after later → check_steps k log after later ≡ check_steps m log after later)
    → (q : Stepped) → step_at log at s ≡ q → check_steps (suc k) log at s ≡ check_steps (suc m) log at s
step_same k m log at s rest (next after later) e =
    steps_next k log at s after later e
    ∙ rest after later (step-passes log at s after later e)
    ∙ sym (steps_next m log at s after later e)
step_same k m log at s rest (last v) e = steps-last k log at s v e ∙ sym (steps-last m log at s v e)

-- more steps than bytes are left are enough, and more change nothing
steps-enough : (k m : ℕ) (log : List ℕ) (at : ℕ) (s : Standing) → length log < at + suc k → length log < at + suc m
    → check_steps (suc k) log at s ≡ check_steps (suc m) log at s
steps-enough zero m log at s h g =
    step_same zero m log at s (λ after later p. absurd (omega (arith, p.forward, p.within))) (step_at log at s) refl
steps-enough (suc k) zero log at s h g =
    step_same (suc k) zero log at s (λ after later p. absurd (omega (arith, p.forward, p.within))) (step_at log at s) refl
steps-enough (suc k) (suc m) log at s h g =
    step_same (suc k) (suc m) log at s
    (λ after later p. steps-enough k m log after later (omega (arith, p.forward)) (omega (arith, p.forward)))
    (step_at log at s) refl

from-steps : (log : List ℕ) (at : ℕ) (s : Standing) → check_from log at s ≡ check_steps (suc (length log)) log at s
unfolding check_from
from-steps log at s =
    let e : length log + 1 ≡ suc (length log) = omega arith in
    ap (λ (n : ℕ). check_steps n log at s) e

-- the check from a place on: the same from the place after a record on, or the verdict
pub from_next : (log : List ℕ) (at : ℕ) (s : Standing) (after : ℕ) (later : Standing) → step_at log at s ≡ next after later
    → check_from log at s ≡ check_from log after later
from_next log at s after later e =
    let p = step-passes log at s after later e in
    let k : length log ≡ suc (length log - 1) = omega (arith, p.forward, p.within) in
    from-steps log at s
    ∙ steps_next (length log) log at s after later e
    ∙ ap (λ (n : ℕ). check_steps n log after later) k
    ∙ steps-enough (length log - 1) (length log) log after later (omega (arith, p.forward)) (omega arith)
    ∙ sym (from-steps log after later)

pub from_last : (log : List ℕ) (at : ℕ) (s : Standing) (v : Checked) → step_at log at s ≡ last v → check_from log at s ≡ v
from_last log at s v e = from-steps log at s ∙ steps-last (length log) log at s v e
