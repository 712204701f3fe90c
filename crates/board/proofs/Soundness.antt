-- What the answers of the soundness test and of a register write say. Assumes nothing.
use Rattle.std.proofs.Common.{◌≡◌, ◌∙◌, ℕ, Bool, true, false, cond, not, List, length, refl, sym, ap, eqb}
use Rattle.lists.proofs.Choices.{both}
use Rattle.refusal.specs.Outcome.{Outcome, given, refused}
use Rattle.refusal.proofs.Outcomes.{given-same, given-refused, refused-given}
use Rattle.registers.specs.Access.{WriteOutcome, is_id, registers_sound, stored_to, write_refused, write_outcome}
use Rattle.registers.specs.Store.{stored}
use Rattle.registers.specs.declared.Registers.{Registers}
use Rattle.limits.specs.Within.{within}
use Rattle.model.specs.Board.{lengths_fit, totals_within, state_sound, CommandOutcome, command_outcome, command_refused, TickOutcome, tick_outcome, without_report}
use Rattle.model.specs.declared.State.{State}
use Rattle.model.specs.Reply as reply
use Rattle.board.specs.Private.{soundness}

-- a choice that refuses by 2 first
refused-first : {A B : Type 0} (t : Bool) (x : A) (y : Outcome B) (n : ℕ) (o : Outcome A) (q : Outcome B) → o ≡ refused n → o ≡ cond (not t) (refused 2) (given x) →
    q ≡ refused n → q ≡ cond (not t) (refused 2) y
refused-first true x y n o q h e f = absurd (refused-given n x (sym h ∙ e))
refused-first false x y n o q h e f = let same : n ≡ 2 = cc in f ∙ rw same

given-first : {A : Type 0} (t : Bool) (x v : A) → given v ≡ cond (not t) (refused 2) (given x) → (t ≡ true) × (v ≡ x)
given-first true x v e = (refl, given-same v x e)
given-first false x v e = absurd (given-refused v 2 e)

module _ (s : State) (totals : List ℕ) where
  -- the limits refuse by the length alone
  pub length_refused : (m n : ℕ) → refused n ≡ within s.registers m totals → refused n ≡ soundness s totals
  unfolding within soundness
  length_refused m n e = refused-first (eqb (length totals) 784) (totals_within s.registers m totals) _ n _ _ refl e refl

  pub within-found : (m : ℕ) (b : Bool) → given b ≡ within s.registers m totals → (eqb (length totals) 784 ≡ true) × (b ≡ totals_within s.registers m totals)
  unfolding within
  within-found m b e = given-first (eqb (length totals) 784) (totals_within s.registers m totals) b e

  -- sound, the lengths and the state are as they are to be
  pub sound-given : given (tt {0}) ≡ soundness s totals → (eqb (length totals) 784 ≡ true) × (state_sound s totals ≡ true)
  unfolding soundness
  sound-given e = by (eqb (length totals) 784) (state_sound s totals) e
    where
      by : (t u : Bool) → given (tt {0}) ≡ cond (not t) (refused 2) (cond (not u) (refused 3) (given (tt {0}))) → (t ≡ true) × (u ≡ true)
      by true true e = (refl, refl)
      by true false e = absurd (given-refused tt 3 e)
      by false u e = absurd (given-refused tt 2 e)

  -- a command and a tick are refused by what soundness is refused by
  pub command-refused : (n id v : ℕ) → refused n ≡ soundness s totals → command_refused n s totals ≡ command_outcome s totals id v
  unfolding soundness command_outcome
  command-refused n id v e = by (eqb (length totals) 784) (state_sound s totals) _ e
    where
      by : (t u : Bool) (o : CommandOutcome) → refused n ≡ cond (not t) (refused 2) (cond (not u) (refused 3) (given (tt {0}))) →
          command_refused n s totals ≡ cond (not t) (command_refused 2 s totals) (cond (not u) (command_refused 3 s totals) o)
      by true true o e = absurd (refused-given n tt e)
      by true false o e = let same : n ≡ 3 = cc in rw same
      by false u o e = let same : n ≡ 2 = cc in rw same

  pub tick-refused : (n : ℕ) (powers out : List ℕ) → lengths_fit (length powers) (length totals) (length out) ≡ true → refused n ≡ soundness s totals →
      without_report (reply.refused n) s totals out ≡ tick_outcome s totals powers out
  unfolding soundness tick_outcome
  tick-refused n powers out fit e = rw fit (by (eqb (length totals) 784) (state_sound s totals) _ (both (eqb (length powers) 7168) _ (both _ _ fit).0).1 e)
    where
      by : (t u : Bool) (o : TickOutcome) → t ≡ true → refused n ≡ cond (not t) (refused 2) (cond (not u) (refused 3) (given (tt {0}))) →
          without_report (reply.refused n) s totals out ≡ cond (not u) (without_report (reply.refused 3) s totals out) o
      by true true o h e = absurd (refused-given n tt e)
      by true false o h e = let same : n ≡ 3 = cc in rw same
      by false u o h e = let no : false ≡ true = h in cc

-- a write to sound registers: refused by 1, for the ID
module _ (r : Registers) (id v : ℕ) (sound : registers_sound r ≡ true) where
  pub write-refused : (n : ℕ) (q : Registers) → record { answer = refused n; registers = q } ≡ write_outcome r id v → (n ≡ 1) × (is_id id ≡ false)
  unfolding write_outcome
  write-refused n q e = by (is_id id) (rw sound at e)
    where
      by : (t : Bool) → record { answer = refused n; registers = q } ≡ cond (not t) (write_refused 1 r) (record { answer = given (stored id v); registers = stored_to r id v }) → (n ≡ 1) × (t ≡ false)
      by true e = absurd (refused-given n (stored id v) (ap (λ (o : WriteOutcome). o.answer) e))
      by false e = let a = ap (λ (o : WriteOutcome). o.answer) e in (cc, refl)

  pub write-given : (u : ℕ) (q : Registers) → record { answer = given u; registers = q } ≡ write_outcome r id v → (is_id id ≡ true) × (u ≡ stored id v) × (q ≡ stored_to r id v)
  unfolding write_outcome
  write-given u q e = by (is_id id) (rw sound at e)
    where
      by : (t : Bool) → record { answer = given u; registers = q } ≡ cond (not t) (write_refused 1 r) (record { answer = given (stored id v); registers = stored_to r id v }) →
          (t ≡ true) × (u ≡ stored id v) × (q ≡ stored_to r id v)
      by true e = (refl, given-same _ _ (ap (λ (o : WriteOutcome). o.answer) e), ap (λ (o : WriteOutcome). o.registers) e)
      by false e = absurd (given-refused u 1 (ap (λ (o : WriteOutcome). o.answer) e))
