-- The numbers of a command's and a tick's answer fit their places. Assumes nothing.
use Prim.Native.Nat.{ℕ, ◌-◌, ◌/◌, ◌≤◌}
use mathlib.Core.Bool.{not}
use mathlib.Core.List.{List}
use native.Mathlib.Nat.{le_trans, mul-le-mul_left}
use native.Mathlib.Omega.{arith}
use lib.Dec.{ltb, eqb, lit<}
use lib.ListN.{length}
use Rattle.lists.proofs.Choices.{cond-at}
use Rattle.registers.specs.Access.{is_id}
use Rattle.registers.proofs.Counts.{bands-count}
use Rattle.registers.proofs.Stored.{stored-lt}
use Rattle.registers.specs.declared.Registers.{Registers}
use Rattle.settings.specs.Settings.{setting_of, bands_of, enabled_count, averaged_spectra, running_of, spec_words}
use Rattle.settings.proofs.Settings.{enabled-le}
use Rattle.model.specs.declared.State.{State}
use Rattle.model.specs.Totals.{added}
use Rattle.model.specs.Board.{state_sound, CommandOutcome, command_outcome, TickOutcome, running_outcome, lengths_fit, tick_outcome}
use Rattle.dfb_board.specs.Private.{Fits}

abbrev CommandFits : CommandOutcome → Type 0
CommandFits o = Fits o.answer o.state.reports

abbrev TickFits : TickOutcome → Type 0
TickFits o = Fits o.answer o.state.reports

pub command-fits : (s : State) (totals : List ℕ) (id v : ℕ) → CommandFits (command_outcome s totals id v)
unfolding command_outcome
command-fits s totals id v =
    cond-at CommandFits (not (eqb (length totals) 784)) (λ _. lit< tt)
    (λ _. cond-at CommandFits (not (state_sound s totals)) (λ _. lit< tt)
    (λ _. cond-at CommandFits (not (is_id id)) (λ _. lit< tt) (λ _. stored-lt (id - 0x30) v)))

words-most : (r : Registers) → spec_words r ≤ 392
words-most r =
    let half : bands_of r / 2 ≤ 56 = omega (arith, (bands-count (setting_of r)).at_most) in
    le_trans (mul-le-mul_left {m = bands_of r / 2} {n = 56} (enabled_count r) half) (omega (arith, enabled-le r))

running-fits : (s : State) (totals sums out : List ℕ) → TickFits (running_outcome s totals sums out)
unfolding running_outcome
running-fits s totals sums out =
    cond-at TickFits (ltb s.phase (averaged_spectra s.registers - 1)) (λ _. tt)
    (λ _. cond-at TickFits (eqb s.phase (averaged_spectra s.registers - 1)) (λ _. (words-most s.registers, omega arith)) (λ _. tt))

pub tick-fits : (s : State) (totals powers out : List ℕ) → TickFits (tick_outcome s totals powers out)
unfolding tick_outcome
tick-fits s totals powers out =
    cond-at TickFits (not (lengths_fit (length powers) (length totals) (length out))) (λ _. lit< tt)
    (λ _. cond-at TickFits (not (state_sound s totals)) (λ _. lit< tt)
    (λ _. cond-at TickFits (not (running_of s.registers)) (λ _. tt)
    (λ _. running-fits s totals (added s.registers totals powers) out)))
