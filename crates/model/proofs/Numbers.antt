-- 02, ticket 13: the number after a call, by its answer. Assumes nothing.
use Prim.Native.Nat.{ℕ, ◌-◌, ◌≤◌, min}
use mathlib.Core.Path.{◌≡◌}
use mathlib.Core.Bool.{not}
use mathlib.Core.List.{List}
use native.Mathlib.Omega.{arith}
use lib.ListN.{length}
use lib.Dec.{ltb, eqb}
use Rattle.lists.proofs.Choices.{cond-at}
use Rattle.registers.specs.Access.{is_id}
use Rattle.settings.specs.Settings.{averaged_spectra, running_of}
use Rattle.model.specs.Board.{state_sound, CommandOutcome, command_outcome, lengths_fit, TickOutcome, running_outcome, tick_outcome}
use Rattle.model.specs.Calls.{command, tick, passed}
use Rattle.model.specs.ReportNumbers.{count_reply, NumberByAnswer}
use Rattle.model.specs.declared.State.{State}

module _ (s : State) (totals : List ℕ) (small : s.reports ≤ 65535) where
  abbrev CommandNumbered : CommandOutcome → Type 0
  CommandNumbered o = o.state.reports ≡ min (count_reply s.reports o.answer) 65535

  command-number : (id v : ℕ) → CommandNumbered (command_outcome s totals id v)
  unfolding command_outcome
  command-number id v =
      cond-at CommandNumbered (not (eqb (length totals) 784)) (λ e. omega arith) (λ e.
      cond-at CommandNumbered (not (state_sound s totals)) (λ e. omega arith) (λ e.
      cond-at CommandNumbered (not (is_id id)) (λ e. omega arith) (λ e. omega arith)))

  abbrev TickNumbered : TickOutcome → Type 0
  TickNumbered o = o.state.reports ≡ min (count_reply s.reports o.answer) 65535

  tick-number : (powers out : List ℕ) → TickNumbered (tick_outcome s totals powers out)
  unfolding tick_outcome running_outcome
  tick-number powers out =
      cond-at TickNumbered (not (lengths_fit (length powers) (length totals) (length out))) (λ e. omega arith) (λ e.
      cond-at TickNumbered (not (state_sound s totals)) (λ e. omega arith) (λ e.
      cond-at TickNumbered (not (running_of s.registers)) (λ e. omega arith) (λ e.
      cond-at TickNumbered (ltb s.phase (averaged_spectra s.registers - 1)) (λ e. omega arith) (λ e.
      cond-at TickNumbered (eqb s.phase (averaged_spectra s.registers - 1)) (λ e. omega arith) (λ e. omega arith)))))

pub number-by-answer : NumberByAnswer
number-by-answer x (command id v t) small = command-number x.state (passed x.totals t) small id v
number-by-answer x (tick powers t out) small = tick-number x.state (passed x.totals t) small powers out
