-- What a command and a tick leave, and what a tick of a running board is given. No public contract cites this file.
use Rattle.std.specs.Prelude.{ℕ, ◌≤◌, ◌≡◌, true, cond, not, List, length, eqb, Result, Ok, Err}
use Rattle.settings.specs.Settings.{running_of}
use Rattle.refusal.specs.Outcome.{Outcome, given, refused}
use Rattle.refusal.specs.declared.Refusal.{Refusal}
use Rattle.model.specs.Totals.{added}
use Rattle.model.specs.Board.{state_sound, CommandOutcome, commanded_outcome, TickOutcome, ticked_outcome, running_outcome}
use Rattle.model.specs.declared.State.{State}
use Rattle.model.specs.declared.TickAnswer.{TickAnswer}

-- whether a state is sound: 2 for another number of totals than 784, then 3
unfoldable pub soundness : State → List ℕ → Outcome (Unit {0})
soundness s totals = cond (not (eqb (length totals) 784)) (refused 2) (cond (not (state_sound s totals)) (refused 3) (given tt))

-- what is left by an answer and the state after it, or by a refusal, which leaves the state as it was
abbrev pub command_left : State → Result (ℕ × State) Refusal → List ℕ → CommandOutcome
command_left s (Ok taken) totals = commanded_outcome (record { answer = Ok taken.0; state = taken.1 }) totals
command_left s (Err r) totals = commanded_outcome (record { answer = Err r; state = s }) totals

abbrev pub tick_left : State → Result (TickAnswer × State) Refusal → List ℕ → List ℕ → TickOutcome
tick_left s (Ok taken) totals out = ticked_outcome (record { answer = Ok taken.0; state = taken.1 }) totals out
tick_left s (Err r) totals out = ticked_outcome (record { answer = Err r; state = s }) totals out

-- the lists have their lengths, and the state is sound and running
pub record Ticking (s : State) (totals powers out : List ℕ) : Type 0 where
  pub totals-length : length totals ≡ 784
  pub powers-length : length powers ≡ 7168
  pub room : 1176 ≤ length out
  pub sound-state : state_sound s totals ≡ true
  pub is-running : running_of s.registers ≡ true

-- the tick with the powers handed in, whose sums are the totals with them added
abbrev pub running_tick : State → List ℕ → List ℕ → List ℕ → TickOutcome
running_tick s totals powers out = running_outcome s totals (added s.registers totals powers) out
