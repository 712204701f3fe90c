-- A command or a tick that the board refuses leaves state, totals and output as they were. Assumes nothing.
use mathlib.Core.Path.{◌≡◌, sym, ap, ◌∙◌}
use mathlib.Core.Bool.{not}
use mathlib.Core.List.{List}
use Prim.Native.Nat.{ℕ, ◌+◌, ◌-◌}
use native.Mathlib.Omega.{arith}
use lib.Dec.{eqb, ltb}
use lib.ListN.{length}
use Rattle.lists.proofs.Choices.{cond-at}
use Rattle.registers.specs.Access.{is_id}
use Rattle.settings.specs.Settings.{averaged_spectra, running_of}
use Rattle.model.specs.declared.State.{State}
use Rattle.model.specs.Reply.{Reply, refused, idle, collected, waiting}
use Rattle.model.specs.Totals.{added}
use Rattle.model.specs.Board.{state_sound, CommandOutcome, command_refused, command_accepted, command_outcome, TickOutcome, without_report, at_next_phase, tick_reported, running_outcome, lengths_fit, tick_outcome}
use Rattle.dfb_refusals.specs.Numbers.{above16}
use Rattle.dfb_board.specs.State.{state_of}
use Rattle.dfb_board.specs.Calls.{command_left, tick_left}
use Rattle.dfb_board.specs.Claims.{RefusedCommandUnchanged, RefusedTickUnchanged}
use Rattle.dfb_board.proofs.State.{state-words}
use Rattle.dfb_board.proofs.Calls.{command-state, tick-state}

-- what is refused by n leaves all as it was
record CommandSame (s : State) (totals : List ℕ) (n : ℕ) (o : CommandOutcome) : Type 0 where
  same : o.answer ≡ refused n → o ≡ command_refused n s totals

record TickSame (s : State) (totals out : List ℕ) (n : ℕ) (o : TickOutcome) : Type 0 where
  same : o.answer ≡ refused n → o ≡ without_report (refused n) s totals out

module _ (s : State) (totals : List ℕ) (n : ℕ) where
  refused-command : (k : ℕ) → CommandSame s totals n (command_refused k s totals)
  refused-command k = record { same = λ e. ap (λ (a : Reply ℕ). record { answer = a; state = s; totals = totals }) e }

  accepted-command : (id v : ℕ) → CommandSame s totals n (command_accepted s id v)
  accepted-command id v = record { same = λ e. let z : ◌≡◌ {A = ℕ} 0 1 = cc in absurd (omega arith) }

  command-same : (id v : ℕ) → CommandSame s totals n (command_outcome s totals id v)
  unfolding command_outcome
  command-same id v =
      cond-at (CommandSame s totals n) (not (eqb (length totals) 784)) (λ _. refused-command 2)
      (λ _. cond-at (CommandSame s totals n) (not (state_sound s totals)) (λ _. refused-command 3)
      (λ _. cond-at (CommandSame s totals n) (not (is_id id)) (λ _. refused-command 1) (λ _. accepted-command id v)))

module _ (s : State) (totals out : List ℕ) (n : ℕ) where
  refused-tick : (k : ℕ) → TickSame s totals out n (without_report (refused k) s totals out)
  refused-tick k = record { same = λ e. ap (λ (a : Reply ℕ). record { answer = a; state = s; totals = totals; out = out }) e }

  other-tick : (o : TickOutcome) → (o.answer ≡ refused n → ⊥) → TickSame s totals out n o
  other-tick o given = record { same = λ e. absurd (given e) }

  running-same : (sums : List ℕ) → TickSame s totals out n (running_outcome s totals sums out)
  unfolding running_outcome
  running-same sums =
      cond-at (TickSame s totals out n) (ltb s.phase (averaged_spectra s.registers - 1))
      (λ _. other-tick (without_report collected (at_next_phase s) sums out) (λ e. let z : ◌≡◌ {A = ℕ} 0 1 = cc in omega arith))
      (λ _. cond-at (TickSame s totals out n) (eqb s.phase (averaged_spectra s.registers - 1))
      (λ _. other-tick (tick_reported s sums out) (λ e. let z : ◌≡◌ {A = ℕ} 0 1 = cc in omega arith))
      (λ _. other-tick (without_report waiting (at_next_phase s) totals out) (λ e. let z : ◌≡◌ {A = ℕ} 0 1 = cc in omega arith)))

  tick-same : (powers : List ℕ) → TickSame s totals out n (tick_outcome s totals powers out)
  unfolding tick_outcome
  tick-same powers =
      cond-at (TickSame s totals out n) (not (lengths_fit (length powers) (length totals) (length out))) (λ _. refused-tick 2)
      (λ _. cond-at (TickSame s totals out n) (not (state_sound s totals)) (λ _. refused-tick 3)
      (λ _. cond-at (TickSame s totals out n) (not (running_of s.registers))
      (λ _. other-tick (without_report idle s totals out) (λ e. let z : ◌≡◌ {A = ℕ} 0 1 = cc in omega arith))
      (λ _. running-same (added s.registers totals powers))))

pub refused-command-unchanged : RefusedCommandUnchanged
refused-command-unchanged state totals n nine id v e =
    sym (command-state state nine totals id v)
    ∙ ap command_left ((command-same (state_of state) totals n id v).same e)
    ∙ ap (λ (l : List ℕ). record { answer = above16 + n; state = l; totals = totals }) (state-words state nine)

pub refused-tick-unchanged : RefusedTickUnchanged
refused-tick-unchanged state totals n nine powers out e =
    sym (tick-state state nine totals powers out)
    ∙ ap tick_left ((tick-same (state_of state) totals out n powers).same e)
    ∙ ap (λ (l : List ℕ). record { answer = above16 + n; state = l; totals = totals; out = out }) (state-words state nine)
