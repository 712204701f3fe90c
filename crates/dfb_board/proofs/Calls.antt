-- The cases of the functions that take a state: by the state's length. Assumes nothing.
use Rattle.std.specs.Prelude.{Result, Err, Ok}
use Rattle.refusal.specs.declared.Refusal.{Refusal}
use Rattle.refusal.specs.Outcome.{answer_outcome}
use mathlib.Core.Path.{◌≡◌, refl, ap, ◌∙◌}
use mathlib.Core.List.{List}
use Prim.Native.Nat.{ℕ, ◌+◌}
use borrow.Author.Tests.{eq-eqb, ne_eqb}
use lib.ListN.{length}
use Rattle.registers.specs.Access.{register_read}
use Rattle.model.specs.Board.{command_reply, CommandOutcome, command_outcome, TickOutcome, tick_outcome}
use Rattle.dfb_refusals.specs.Numbers.{above16, outcome_number}
use Rattle.dfb_board.specs.State.{state_of, state_words}
use Rattle.dfb_board.specs.Calls.{reply_number, CommandCall, command_left, command_call, TickCall, tick_left, tick_call, read_call}

-- the number of a command's answer
pub command-number : (a : Result ℕ Refusal) (reports : ℕ) → outcome_number above16 (answer_outcome a) ≡ reply_number (command_reply (answer_outcome a)) reports
command-number (Ok v) reports = refl
command-number (Err n) reports = refl

-- what a call leaves, from what it computed and what was stored
pub command-done : (n : ℕ) (l : List ℕ) {o p : CommandOutcome} → n ≡ reply_number o.answer o.state.reports → l ≡ state_words o.state → o ≡ p →
    ◌≡◌ {A = CommandCall} (record { answer = n; state = l; totals = o.totals }) (command_left p)
command-done n l {o} answer state e =
    ap (λ (m : ℕ). record { answer = m; state = l; totals = o.totals }) answer
    ∙ ap (λ (k : List ℕ). record { answer = reply_number o.answer o.state.reports; state = k; totals = o.totals }) state
    ∙ ap command_left e

pub tick-done : (n : ℕ) (l : List ℕ) {o p : TickOutcome} → n ≡ reply_number o.answer o.state.reports → l ≡ state_words o.state → o ≡ p →
    ◌≡◌ {A = TickCall} (record { answer = n; state = l; totals = o.totals; out = o.out }) (tick_left p)
tick-done n l {o} answer state e =
    ap (λ (m : ℕ). record { answer = m; state = l; totals = o.totals; out = o.out }) answer
    ∙ ap (λ (k : List ℕ). record { answer = reply_number o.answer o.state.reports; state = k; totals = o.totals; out = o.out }) state
    ∙ ap tick_left e

module _ (state : List ℕ) (other : length state ≡ 9 → ⊥) where
  pub read-other : (id : ℕ) → above16 + 2 ≡ read_call state id
  unfolding read_call
  read-other id = simp (ne_eqb (length state) 9 other)

  pub command-other : (totals : List ℕ) (id v : ℕ) →
      ◌≡◌ {A = CommandCall} (record { answer = above16 + 2; state = state; totals = totals }) (command_call state totals id v)
  unfolding command_call
  command-other totals id v = simp (ne_eqb (length state) 9 other)

  pub tick-other : (totals powers out : List ℕ) →
      ◌≡◌ {A = TickCall} (record { answer = above16 + 2; state = state; totals = totals; out = out }) (tick_call state totals powers out)
  unfolding tick_call
  tick-other totals powers out = simp (ne_eqb (length state) 9 other)

module _ (state : List ℕ) (nine : length state ≡ 9) where
  pub read-state : (id : ℕ) → outcome_number above16 (register_read (state_of state).registers id) ≡ read_call state id
  unfolding read_call
  read-state id = simp (eq-eqb (length state) 9 nine)

  pub command-state : (totals : List ℕ) (id v : ℕ) → command_left (command_outcome (state_of state) totals id v) ≡ command_call state totals id v
  unfolding command_call
  command-state totals id v = simp (eq-eqb (length state) 9 nine)

  pub tick-state : (totals powers out : List ℕ) → tick_left (tick_outcome (state_of state) totals powers out) ≡ tick_call state totals powers out
  unfolding tick_call
  tick-state totals powers out = simp (eq-eqb (length state) 9 nine)
