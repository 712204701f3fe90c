-- Laws of the profile's rules over a list of records: a record more, and what the records leave. Assumes nothing.
use mathlib.Core.Bool.{true, false≢true}
use mathlib.Core.List.{List, [], ◌∷◌, ◌++◌, append_assoc}
use mathlib.Core.Path.{◌≡◌, refl, sym, ap, subst, ◌∙◌}
use Prim.Native.Nat.{ℕ, ◌≤◌}
use native.Mathlib.Omega.{arith}
use borrow.Author.Tests.{eqb-true, eq-eqb, ltb-false, le-ltb}
use lib.Dec.{ltb, eqb}
use Rattle.lists.proofs.Choices.{by_cases}
use Rattle.lists.proofs.Cuts.{Cut, at_last, within, cut-last, no_cut}
use Rattle.refusal.specs.Outcome.{given}
use Rattle.refusal.proofs.Outcomes.{refused-given}
use Rattle.registers.specs.declared.Registers.{Registers}
use Rattle.registers.specs.Store.{stored}
use Rattle.registers.specs.Access.{at_reset, stored_to}
use Rattle.board_log.specs.declared.Command.{Command}
use Rattle.board_log.specs.declared.Record.{Record}
use Rattle.board_log.specs.Format.{checked}
use Rattle.board_log.proofs.Moves.{command-known}
use Rattle.checker.specs.declared.Standing.{Standing}
use Rattle.checker.specs.Check.{within_period, check_command, check_mark, check_record, after_record, at_start}
use Rattle.checker.specs.Claims.{in_profile, StoresSent, registers_from, registers_after, PeriodKept, KeepsRules, NotFalling}
use Rattle.checker.proofs.Period.{within-kept, kept-within}

-- ---- a record that is kept

pub command-kept : (c : Command) → check_command c ≡ given tt → stored c.id c.information ≡ c.information
command-kept c e =
    by_cases (eqb (stored c.id c.information) c.information) (λ t. eqb-true _ _ t) (λ t. absurd (refused-given 20 tt (rw t at e)))

pub record MarkKept (s : Standing) (t : ℕ) : Type 0 where
  pub rises : s.second ≤ t
  pub period : within_period s.registers ≡ true

pub mark-kept : (s : Standing) (t : ℕ) → check_mark s t ≡ given tt → MarkKept s t
mark-kept s t e =
    by_cases (ltb t s.second) (λ f. absurd (refused-given 19 tt (rw f at e)))
    (λ f. by_cases (within_period s.registers)
    (λ p. record { rises = ltb-false t s.second f; period = p })
    (λ p. absurd (refused-given 21 tt (rw (f, p) at e))))

-- ---- what the records up to a place leave

-- the last second is that of a mark, or 0 before the first
pub data Last (rs : List Record) (m : ℕ) : Type 0 where
  unmarked : m ≡ 0 → Last rs m
  marked : (before later : List Record) → rs ≡ before ++ (Record.SecondMark m ∷ later) → Last rs m

pub record After (rs : List Record) (s : Standing) : Type 0 where
  pub registers : s.registers ≡ registers_after rs
  pub most : NotFalling rs s.second
  pub reached : Last rs s.second

pub after_none : After [] at_start
unfolding registers_after
after_none =
    record {
      registers = refl;
      most = λ before later s e. absurd (no_cut before later (Record.SecondMark s) e);
      reached = unmarked refl;
    }

from-snoc : (r : Registers) (rs : List Record) (q : Record) → registers_from r (rs ++ (q ∷ [])) ≡ registers_from (registers_from r rs) (q ∷ [])
from-snoc r [] q = refl
from-snoc r (Record.Command c ∷ rs) q = from-snoc (stored_to r c.id c.information) rs q
from-snoc r (Record.Word w ∷ rs) q = from-snoc r rs q
from-snoc r (Record.SecondMark s ∷ rs) q = from-snoc r rs q
from-snoc r (Record.Tick ∷ rs) q = from-snoc r rs q

after-snoc : (rs : List Record) (q : Record) → registers_after (rs ++ (q ∷ [])) ≡ registers_from (registers_after rs) (q ∷ [])
unfolding registers_after
after-snoc rs q = from-snoc at_reset rs q

same_second : (s t : ℕ) → Record.SecondMark s ≡ Record.SecondMark t → s ≡ t
same_second s t e = cc

no-mark : (c : Command) (s : ℕ) → Record.SecondMark s ≡ Record.Command c → ⊥
no-mark c s e = let z : ◌≡◌ {A = ℕ} 0 1 = cc in omega arith

same-command : (c d : Command) → Record.Command c ≡ Record.Command d → c ≡ d
same-command c d e = cc

-- a list with a record more, cut before a record
longer : (rs before later : List Record) (r q : Record) → rs ≡ before ++ (r ∷ later) → rs ++ (q ∷ []) ≡ before ++ (r ∷ (later ++ (q ∷ [])))
longer rs before later r q e = ap (λ (l : List Record). l ++ (q ∷ [])) e ∙ append_assoc before (r ∷ later) (q ∷ [])

last-longer : (rs : List Record) (m : ℕ) (q : Record) → Last rs m → Last (rs ++ (q ∷ [])) m
last-longer rs m q (unmarked e) = unmarked e
last-longer rs m q (marked before later e) = marked before (later ++ (q ∷ [])) (longer rs before later (Record.SecondMark m) q e)

module _ (rs : List Record) (s : Standing) (a : After rs s) where
  after-command : (c : Command) → After (rs ++ (Record.Command c ∷ [])) (after_record s (Record.Command c))
  after-command c =
      record {
        registers = ap (λ (r : Registers). stored_to r c.id c.information) a.registers ∙ sym (after-snoc rs (Record.Command c));
        most = λ before later t e. by before later t (cut-last rs (Record.Command c) before (Record.SecondMark t) later e);
        reached = last-longer rs s.second (Record.Command c) a.reached;
      }
    where
      by : (before later : List Record) (t : ℕ) → Cut rs (Record.Command c) before (Record.SecondMark t) later → t ≤ s.second
      by before later t (at_last p q) = absurd (no-mark c t q)
      by before later t (within rest p) = a.most before rest t p

  after-mark : (t : ℕ) → s.second ≤ t → After (rs ++ (Record.SecondMark t ∷ [])) (after_record s (Record.SecondMark t))
  after-mark t rises =
      record {
        registers = a.registers ∙ sym (after-snoc rs (Record.SecondMark t));
        most = λ before later x e. by before later x (cut-last rs (Record.SecondMark t) before (Record.SecondMark x) later e);
        reached = marked rs [] refl;
      }
    where
      by : (before later : List Record) (x : ℕ) → Cut rs (Record.SecondMark t) before (Record.SecondMark x) later → x ≤ t
      by before later x (at_last p q) = omega (arith, same_second x t q)
      by before later x (within rest p) = omega (arith, a.most before rest x p, rises)

  -- and so with a record more
  pub after_more : (r : Record) → check_record s r ≡ given tt → After (rs ++ (r ∷ [])) (after_record s r)
  after_more (Record.Command c) e = after-command c
  after_more (Record.SecondMark t) e = after-mark t (mark-kept s t e).rises
  after_more (Record.Word w) e = absurd (refused-given 18 tt e)
  after_more Record.Tick e = absurd (refused-given 18 tt e)

  -- a second that is not smaller than the last is smaller than none
  pub not-falling : (t : ℕ) → s.second ≤ t → NotFalling rs t
  not-falling t h before later x e = omega (arith, a.most before later x e, h)

-- ---- the rules

pub keeps-none : KeepsRules []
keeps-none =
    record {
      kinds = λ before later r e. absurd (no_cut before later r e);
      writes = λ before later c e. absurd (no_cut before later (Record.Command c) e);
      seconds = λ before between later s t e. absurd (no_cut before _ (Record.SecondMark s) e);
      marks = λ before later s e. absurd (no_cut before later (Record.SecondMark s) e);
    }

-- what a record more is asked
abbrev Allowed : List Record → Record → Type 0
Allowed rs (Record.Command c) = StoresSent c
Allowed rs (Record.SecondMark t) = NotFalling rs t × PeriodKept (registers_after rs)
Allowed rs (Record.Word w) = ⊥
Allowed rs Record.Tick = ⊥

allowed-kind : (rs : List Record) (r : Record) → Allowed rs r → in_profile r ≡ true
allowed-kind rs (Record.Command c) h = refl
allowed-kind rs (Record.SecondMark t) h = refl
allowed-kind rs (Record.Word w) h = absurd h
allowed-kind rs Record.Tick h = absurd h

-- two marks of a list, one after the other
regroup : (before between later : List Record) (p q : Record) → before ++ (p ∷ (between ++ (q ∷ later))) ≡ (before ++ (p ∷ between)) ++ (q ∷ later)
regroup before between later p q = sym (append_assoc before (p ∷ between) (q ∷ later))

module _ (rs : List Record) (q : Record) (k : KeepsRules rs) (h : Allowed rs q) where
  kinds-more : (before later : List Record) (r : Record) → Cut rs q before r later → in_profile r ≡ true
  kinds-more before later r (at_last p e) = subst (λ (x : Record). in_profile x ≡ true) (sym e) (allowed-kind rs q h)
  kinds-more before later r (within rest p) = k.kinds before rest r p

  writes_more : (before later : List Record) (c : Command) → Cut rs q before (Record.Command c) later → StoresSent c
  writes_more before later c (at_last p e) = subst (Allowed rs) (sym e) h
  writes_more before later c (within rest p) = k.writes before rest c p

  seconds-more : (before between later : List Record) (s t : ℕ) → Cut rs q (before ++ (Record.SecondMark s ∷ between)) (Record.SecondMark t) later → s ≤ t
  seconds-more before between later s t (at_last p e) =
      let a : Allowed rs (Record.SecondMark t) = subst (Allowed rs) (sym e) h in
      a.0 before between s (sym p)
  seconds-more before between later s t (within rest p) =
      k.seconds before between rest s t (p ∙ sym (regroup before between rest (Record.SecondMark s) (Record.SecondMark t)))

  marks-more : (before later : List Record) (s : ℕ) → Cut rs q before (Record.SecondMark s) later → PeriodKept (registers_after before)
  marks-more before later s (at_last p e) =
      let a : Allowed rs (Record.SecondMark s) = subst (Allowed rs) (sym e) h in
      subst (λ (l : List Record). PeriodKept (registers_after l)) (sym p) a.1
  marks-more before later s (within rest p) = k.marks before rest s p

  keeps-allowed : KeepsRules (rs ++ (q ∷ []))
  keeps-allowed =
      record {
        kinds = λ before later r e. kinds-more before later r (cut-last rs q before r later e);
        writes = λ before later c e. writes_more before later c (cut-last rs q before (Record.Command c) later e);
        seconds = λ before between later s t e.
            seconds-more before between later s t (cut-last rs q _ (Record.SecondMark t) later (e ∙ regroup before between later (Record.SecondMark s) (Record.SecondMark t)));
        marks = λ before later s e. marks-more before later s (cut-last rs q before (Record.SecondMark s) later e);
      }

-- a record that was read and is kept keeps the rules
pub keeps-more : (rs : List Record) (s : Standing) (r : Record) → KeepsRules rs → After rs s → checked r ≡ given r → check_record s r ≡ given tt
    → KeepsRules (rs ++ (r ∷ []))
keeps-more rs s (Record.Command c) k a known e =
    keeps-allowed rs (Record.Command c) k (record { known = command-known c known; same = command-kept c e })
keeps-more rs s (Record.SecondMark t) k a known e =
    let m = mark-kept s t e in
    keeps-allowed rs (Record.SecondMark t) k (not-falling rs s a t m.rises, within-kept rs (ap within_period (sym a.registers) ∙ m.period))
keeps-more rs s (Record.Word w) k a known e = absurd (refused-given 18 tt e)
keeps-more rs s Record.Tick k a known e = absurd (refused-given 18 tt e)

-- ---- and the other way: a record that keeps the rules is kept

command-passes : (c : Command) → stored c.id c.information ≡ c.information → check_command c ≡ given tt
command-passes c e = simp (eq-eqb _ _ e)

mark-passes : (s : Standing) (t : ℕ) → s.second ≤ t → within_period s.registers ≡ true → check_mark s t ≡ given tt
mark-passes s t h p = simp (le-ltb t s.second h, p)

pub rules-pass : (rs more : List Record) (s : Standing) (r : Record) → KeepsRules (rs ++ (r ∷ more)) → After rs s → check_record s r ≡ given tt
rules-pass rs more s (Record.Command c) k a = command-passes c (k.writes rs more c refl).same
rules-pass rs more s (Record.SecondMark t) k a =
    mark-passes s t (rises a.reached) (ap within_period a.registers ∙ kept-within rs (k.marks rs more t refl))
  where
    rises : Last rs s.second → s.second ≤ t
    rises (unmarked e) = omega (arith, e)
    rises (marked before later e) =
        k.seconds before later more s.second t
        (ap (λ (l : List Record). l ++ (Record.SecondMark t ∷ more)) e ∙ append_assoc before (Record.SecondMark s.second ∷ later) (Record.SecondMark t ∷ more))
rules-pass rs more s (Record.Word w) k a = absurd (false≢true (k.kinds rs more (Record.Word w) refl))
rules-pass rs more s Record.Tick k a = absurd (false≢true (k.kinds rs more Record.Tick refl))
