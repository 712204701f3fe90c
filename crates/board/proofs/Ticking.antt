-- What a sound state of a running board gives a tick. Assumes nothing.
use Prim.Native.Nat.{ℕ, ◌-◌, ◌<◌}
use mathlib.Core.Path.{◌≡◌, ap, ◌∙◌}
use mathlib.Core.List.{List}
use native.Mathlib.Omega.{arith}
use Rattle.settings.specs.Settings.{averaged_spectra, period_ticks, spec_words}
use Rattle.registers.specs.declared.Registers.{Registers}
use Rattle.model.specs.declared.State.{State}
use Rattle.model.specs.Totals.{slot, added}
use Rattle.model.specs.Report.{report_bytes}
use Rattle.model.proofs.Means.{means-within}
use Rattle.lists.specs.Tables.{overwrite}
use Rattle.model.specs.Board.{spectra_held}
use Rattle.model.specs.Calls.{Powers}
use Rattle.model.proofs.Phases.{period-lt, held-le}
use Rattle.model.proofs.Sound.{Sound, sound-parts}
use Rattle.limits.proofs.Laws.{total-le}
use Rattle.refusal.specs.Outcome.{given}
use Rattle.totals.specs.Adding.{TotalsLeft, totals_left, add_outcome}
use Rattle.totals.proofs.Laws.{added-plain, length-added}
use Rattle.report.specs.Writing.{ReportLeft, report_left, report_written}
use Rattle.report.proofs.Laws.{written-plain}
use Rattle.board.specs.Private.{Ticking}

module _ (s : State) (totals powers out : List ℕ) (t : Ticking s totals powers out) where
  abbrev r : Registers
  r = s.registers

  parts : Sound s totals
  parts = sound-parts s totals t.sound-state

  pub phase-in : s.phase < period_ticks r
  phase-in = period-lt s t.is-running parts.period

  -- no sum comes to 2 ^ 64
  added-here : Powers powers → add_outcome r totals powers ≡ totals_left (given tt) (added r totals powers)
  added-here h =
      added-plain r totals powers
      (λ i l. omega (arith, total-le r (spectra_held r s.phase) totals (omega (arith, held-le r s.phase)) parts.totals i l))
      h t.totals-length t.powers-length

  -- so what adding leaves is the sums, and nothing is refused
  pub sums-here : Powers powers → {left : TotalsLeft} → left ≡ add_outcome r totals powers → left ≡ totals_left (given tt) (added r totals powers)
  sums-here h e = e ∙ added-here h

  -- and what a report leaves at phase N - 1 is its words
  pub words-here : Powers powers → s.phase ≡ averaged_spectra r - 1 → {left : ReportLeft} {sums : List ℕ} → sums ≡ added r totals powers →
      left ≡ report_written r sums out → left ≡ report_left (given (spec_words r)) (overwrite (report_bytes r (slot (added r totals powers))) out)
  words-here h last same e =
      e ∙ ap (λ (l : List ℕ). report_written r l out) same
      ∙ written-plain r (added r totals powers) (means-within s totals powers t.sound-state h t.is-running last) out (length-added r totals powers) t.room
