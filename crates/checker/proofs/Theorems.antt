-- The claims of specs/Claims.antt. Assumes nothing.
use mathlib.Core.Bool.{true}
use mathlib.Core.List.{List, [], ◌∷◌, ◌++◌, append_assoc, append-nil}
use mathlib.Core.Path.{◌≡◌, refl, sym, ap, subst, ◌∙◌}
use Prim.Native.Nat.{ℕ, zero, suc, ◌+◌, ◌≤◌, ◌<◌}
use native.Mathlib.Omega.{arith}
use lib.ListN.{length}
use Rattle.refusal.specs.Outcome.{Outcome, given}
use Rattle.registers.specs.declared.Registers.{Registers}
use Rattle.board_log.specs.declared.Record.{Record}
use Rattle.board_log.specs.Cursor.{Found, found, read_at}
use Rattle.board_log.specs.History.{ReadsAs}
use Rattle.board_log.specs.History as history
use Rattle.board_log.proofs.Encoding.{read-end}
use Rattle.board_log.proofs.Moves.{found-parts, read-end-place}
use Rattle.checker.specs.declared.Standing.{Standing}
use Rattle.checker.specs.Check.{Judged, Checked, accepted, refused_at, Stepped, next, last, within_period, after_record, judged_at, read_step, step_at, check_from, at_start, commands_checked}
use Rattle.checker.proofs.Period.{within-kept, kept-within}
use Rattle.checker.specs.Claims.{KeepsRules, Keeps, AcceptedExactly, ReadsTo, none, more, Offends, unknown-kind, body-cut, other-kind, unknown-id, altered, falls, over-period, over-period-at-end, FirstFault, RefusedExactly, RefusesWithin, CheckRefusals}
use Rattle.checker.proofs.Rules.{After, after_none, after_more, keeps-none, keeps-more, rules-pass}
use Rattle.checker.proofs.Faults.{Judges, StepHolds, step-holds, fault-refused}
use Rattle.checker.proofs.Steps.{Passed, step_kept, from_next, from_last}

-- ---- reading up to a place

reads-snoc : (log : List ℕ) (from : ℕ) (rs : List Record) (at place : ℕ) (r : Record) → ReadsTo log from rs at → read_at log at ≡ given (found r place)
    → ReadsTo log from (rs ++ (r ∷ [])) place
reads-snoc log from [] at place r none e = more e none
reads-snoc log from (q ∷ rs) at place r (more {place = p} f rest) e = more f (reads-snoc log p rs at place r rest e)

-- up to the end, and the end
reads_all : (log : List ℕ) (from : ℕ) (rs : List Record) → ReadsTo log from rs (length log) → ReadsAs log from rs
reads_all log from [] none = history.end (read-end log)
reads_all log from (q ∷ rs) (more {place = p} f rest) = history.next f (reads_all log p rs rest)

reads-to-end : (log : List ℕ) (from : ℕ) (rs : List Record) → ReadsAs log from rs → ReadsTo log from rs (length log)
reads-to-end log from [] (history.end e) = subst (ReadsTo log from []) (read-end-place log from e) none
reads-to-end log from (q ∷ rs) (history.next {place = p} f rest) = more f (reads-to-end log p rs rest)

-- ---- from the check to the rules

-- what is claimed of a verdict
abbrev HoldsOf : List ℕ → Judged → Registers → Type 0
HoldsOf log accepted r = Keeps log r
HoldsOf log (refused_at n k) r = FirstFault log n k r

abbrev Holds : List ℕ → Checked → Type 0
Holds log v = HoldsOf log v.judged v.registers

-- what holds at a place that the check comes to
record Reached (log : List ℕ) (at : ℕ) (rs : List Record) (s : Standing) : Type 0 where
  inside : at ≤ length log
  read : ReadsTo log 0 rs at
  rules : KeepsRules rs
  after : After rs s

reached-next : {log : List ℕ} {at : ℕ} {rs : List Record} {s : Standing} {place : ℕ} {later : Standing} → Reached log at rs s
    → (p : Passed log at s place later) → Reached log place (rs ++ (p.entry ∷ [])) later
reached-next {log} {at} {rs} {s} {place} {later} r p =
    record {
      inside = p.within;
      read = reads-snoc log 0 rs at place p.entry r.read p.read;
      rules = keeps-more rs s p.entry r.rules r.after (found-parts log at p.entry place p.read).known p.kept;
      after = subst (After (rs ++ (p.entry ∷ []))) (sym p.leaves) (after_more rs s r.after p.entry p.kept);
    }

module _ (log : List ℕ) where
  judged-holds : (at : ℕ) (rs : List Record) (s : Standing) (r : Reached log at rs s) (j : Judged) → Judges log at rs s r.after j → HoldsOf log j s.registers
  judged-holds at rs s r accepted h =
      record {
        records = rs;
        read = reads_all log 0 rs (subst (ReadsTo log 0 rs) h.0 r.read);
        rules = r.rules;
        ended = within-kept rs (ap within_period (sym r.after.registers) ∙ h.1);
        left = r.after.registers;
      }
  judged-holds at rs s r (refused_at n k) h =
      record {
        records = rs;
        read = subst (ReadsTo log 0 rs) (sym h.0) r.read;
        rules = r.rules;
        fault = subst (λ (p : ℕ). Offends log p rs n) (sym h.0) h.1;
        left = r.after.registers;
      }

  -- what holds from the place after a record on, and of a verdict, holds from a place on
  by-step : (at : ℕ) (rs : List Record) (s : Standing) (r : Reached log at rs s)
      → ((place : ℕ) (later : Standing) (p : Passed log at s place later) → Holds log (check_from log place later))
      → (q : Stepped) → step_at log at s ≡ q → StepHolds log at rs s r.after q → Holds log (check_from log at s)
  by-step at rs s r rest (next place later) e p = subst (Holds log) (sym (from_next log at s place later e)) (rest place later p)
  by-step at rs s r rest (last v) e h =
      subst (Holds log) (sym (from_last log at s v e)) (subst (HoldsOf log v.judged) (sym h.0) (judged-holds at rs s r v.judged h.1))

  from-holds : (k at : ℕ) (rs : List Record) (s : Standing) → length log < at + k → Reached log at rs s → Holds log (check_from log at s)
  from-holds zero at rs s h r = absurd (omega (arith, r.inside))
  from-holds (suc k) at rs s h r =
      by-step at rs s r (λ place later p. from-holds k place (rs ++ (p.entry ∷ [])) later (omega (arith, p.forward)) (reached-next r p))
      (step_at log at s) refl (step-holds log at rs s r.after r.inside)

  check-holds : Holds log (commands_checked log)
  unfolding commands_checked
  check-holds =
      from-holds (suc (length log)) 0 [] at_start (omega arith) (record { inside = omega arith; read = none; rules = keeps-none; after = after_none })

  -- ---- from the rules to the check

  -- the check comes from a place to another, where the records up to it leave what it stands at
  record Comes (at : ℕ) (s : Standing) (to : ℕ) (rs : List Record) : Type 0 where
    later : Standing
    same : check_from log at s ≡ check_from log to later
    after : After rs later

  comes : (before rest : List Record) (at to : ℕ) (s : Standing) → ReadsTo log at rest to → KeepsRules (before ++ rest) → After before s
      → Comes at s to (before ++ rest)
  comes before [] at to s none k a = record { later = s; same = refl; after = subst (λ (l : List Record). After l s) (sym (append-nil before)) a }
  comes before (r ∷ rest) at to s (more {place = p} e read) k a =
      let kept = rules-pass before rest s r k a in
      let group : before ++ (r ∷ rest) ≡ (before ++ (r ∷ [])) ++ rest = sym (append_assoc before (r ∷ []) rest) in
      let c = comes (before ++ (r ∷ [])) rest p to (after_record s r) read (subst KeepsRules group k) (after_more before s a r kept) in
      record {
        later = c.later;
        same = from_next log at s p (after_record s r) (step_kept log at s r p e kept) ∙ c.same;
        after = subst (λ (l : List Record). After l c.later) (sym group) c.after;
      }

  keeps-accepted : (r : Registers) → Keeps log r → commands_checked log ≡ record { judged = accepted; registers = r }
  unfolding commands_checked
  keeps-accepted r k =
      let c = comes [] k.records 0 (length log) at_start (reads-to-end log 0 k.records k.read) k.rules after_none in
      let ended : within_period c.later.registers ≡ true = ap within_period c.after.registers ∙ kept-within k.records k.ended in
      let step : step_at log (length log) c.later ≡ judged_at c.later accepted =
      ap (λ (o : Outcome Found). read_step o (length log) c.later) (read-end log) ∙ simp ended in
      c.same ∙ from_last log (length log) c.later _ step ∙ ap (λ (x : Registers). record { judged = accepted; registers = x }) (c.after.registers ∙ sym k.left)

  fault-first : (n offset : ℕ) (r : Registers) → FirstFault log n offset r → commands_checked log ≡ record { judged = refused_at n offset; registers = r }
  unfolding commands_checked
  fault-first n offset r f =
      let c = comes [] f.records 0 offset at_start f.read f.rules after_none in
      c.same
      ∙ from_last log offset c.later _ (fault-refused log offset f.records c.later c.after n f.fault)
      ∙ ap (λ (x : Registers). record { judged = refused_at n offset; registers = x }) (c.after.registers ∙ sym f.left)

pub accepted-exactly : AcceptedExactly
accepted-exactly log r = (λ e. subst (Holds log) e (check-holds log), keeps-accepted log r)

pub refused-exactly : RefusedExactly
refused-exactly log n offset r = (λ e. subst (Holds log) e (check-holds log), fault-first log n offset r)

offends-within : (log : List ℕ) (at : ℕ) (rs : List Record) (n : ℕ) → Offends log at rs n → RefusesWithin log n at
offends-within log at rs n (unknown-kind h k) = record { listed = refl; inside = omega arith }
offends-within log at rs n (body-cut h k f) = record { listed = refl; inside = omega arith }
offends-within log at rs n (other-kind st e) = record { listed = refl; inside = omega (arith, st.whole) }
offends-within log at rs n (unknown-id st e) = record { listed = refl; inside = omega (arith, st.whole) }
offends-within log at rs n (altered st e h) = record { listed = refl; inside = omega (arith, st.whole) }
offends-within log at rs n (falls before later st e h) = record { listed = refl; inside = omega (arith, st.whole) }
offends-within log at rs n (over-period st h p) = record { listed = refl; inside = omega (arith, st.whole) }
offends-within log at rs n (over-period-at-end e p) = record { listed = refl; inside = omega (arith, e) }

pub check-refusals : CheckRefusals
check-refusals log n offset e =
    let f = (refused-exactly log n offset (commands_checked log).registers).0 (ap (λ (j : Judged). record { judged = j; registers = (commands_checked log).registers }) e) in
    offends-within log offset f.records n f.fault
