-- `board::running_tick` meets its contract: from a sound state no sum comes to 2 ^ 64 and no mean is over 2 ^ 32 - 1, so the words are those
-- of the totals, and nothing is refused. Assumes nothing.
use Rattle.std.proofs.Common.{◌≡◌, ◌∙◌, ◌+◌, ◌-◌, ℕ, true, false, cond, length, replicate, ltb, eqb, ap, arith, rules, eq-eqb, ne_eqb}
use borrow.Author.Tests.{lt-ltb, le-ltb}
use Rattle.settings.specs.Settings.{averaged_spectra, period_ticks}
use Rattle.settings.proofs.Settings.{averaged-pos, period-pos, period-le}
use Rattle.refusal.proofs.Outcomes.{given-same, refused-given}
use Rattle.model.specs.Totals.{no_totals, added}
use Rattle.model.specs.Board.{at_next_phase, report_counted, running_outcome}
use Rattle.model.specs.Calls.{Powers}
use Rattle.model.specs.declared.State.{State}
use Rattle.totals.specs.Adding.{TotalsLeft}
use Rattle.totals.proofs.Laws.{length-added}
use Rattle.report.specs.Writing.{ReportLeft}
use Rattle.board.proofs.Ticking.{phase-in, sums-here, words-here}
use Rattle.board.proofs.running_tick.Goals as goal

-- N and C are at least 1
pub overflow_sub-last : goal.overflow_sub-last
overflow_sub-last c =
    let r = c.args.state.registers in
    omega (arith, averaged-pos r, period-pos r, c.averaged_spectra-spectra.ensures, c.period_ticks-period.ensures)

pub next_phase-requires-clause-phase_lt_period : goal.next_phase-requires-clause-phase_lt_period
next_phase-requires-clause-phase_lt_period c =
    let a = c.args in
    omega (arith, phase-in a.state a.totals.now a.powers.now a.out.now c.requires, c.period_ticks-period.ensures)

pub next_phase-requires-clause-period_bound : goal.next_phase-requires-clause-period_bound
next_phase-requires-clause-period_bound c = omega (arith, period-le c.args.state.registers, c.period_ticks-period.ensures)

-- the state at the next phase
moves : (s : State) (period : ℕ) (phase : ℕ) → phase ≡ cond (eqb s.phase (period - 1)) 0 (s.phase + 1) → period ≡ period_ticks s.registers →
    record { registers = s.registers; phase = phase; reports = s.reports } ≡ at_next_phase s
moves s period phase next is =
    ap (λ (p : ℕ). record { registers = s.registers; phase = p; reports = s.reports }) (next ∙ ap (λ (k : ℕ). cond (eqb s.phase (k - 1)) 0 (s.phase + 1)) is)

pub returns-then-last-phase : goal.returns-then-last-phase
unfolding running_outcome
returns-then-last-phase c =
    let a = c.args in
    let s = a.state in
    let inside = phase-in s a.totals.now a.powers.now a.out.now c.requires in
    let late : ltb s.phase (averaged_spectra s.registers - 1) ≡ false = le-ltb s.phase (averaged_spectra s.registers - 1) (omega (arith, inside, c.period_ticks-period.ensures, c.averaged_spectra-spectra.ensures)) in
    let past-last : eqb s.phase (averaged_spectra s.registers - 1) ≡ false = ne_eqb s.phase (averaged_spectra s.registers - 1) (λ e. omega (arith, inside, c.period_ticks-period.ensures, c.averaged_spectra-spectra.ensures)) in
    rw (late, past-last, ← moves s _ _ c.next_phase.ensures c.period_ticks-period.ensures)

-- nothing is refused, since the lists have their lengths
pub returns-in_err-add_spectrum : goal.returns-in_err-add_spectrum
returns-in_err-add_spectrum c =
    let a = c.args in
    let t = sums-here a.state a.totals.now a.powers.now a.out.now c.requires (λ i. omega (arith, c.type_inv.powers i)) c.in_err-add_spectrum.ensures in
    absurd (refused-given _ tt (ap (λ (l : TotalsLeft). l.answer) t))

pub returns : goal.returns
unfolding running_outcome
returns c =
    let a = c.args in
    let s = a.state in
    let before_last : ltb s.phase (averaged_spectra s.registers - 1) ≡ true = lt-ltb s.phase (averaged_spectra s.registers - 1) (omega (arith, c.averaged_spectra-spectra.ensures)) in
    let t = sums-here s a.totals.now a.powers.now a.out.now c.requires (λ i. omega (arith, c.type_inv.powers i)) c.add_spectrum.ensures in
    let sums : c.add_spectrum.new.totals ≡ added s.registers a.totals.now a.powers.now = ap (λ (l : TotalsLeft). l.totals) t in
    rw (before_last, ← moves s _ _ c.next_phase.ensures c.period_ticks-period.ensures, sums)

pub returns-in_err-words : goal.returns-in_err-words
returns-in_err-words c =
    let a = c.args in
    let fit : Powers a.powers.now = λ i. omega (arith, c.type_inv.powers i) in
    let t = sums-here a.state a.totals.now a.powers.now a.out.now c.requires fit c.add_spectrum.ensures in
    let w = words-here a.state a.totals.now a.powers.now a.out.now c.requires fit (omega (arith, c.averaged_spectra-spectra.ensures)) (ap (λ (l : TotalsLeft). l.totals) t) c.in_err-words.ensures in
    absurd (refused-given _ _ (ap (λ (l : ReportLeft). l.words) w))

pub returns-then-phase-last : goal.returns-then-phase-last
unfolding running_outcome no_totals
returns-then-phase-last c =
    let a = c.args in
    let s = a.state in
    let fit : Powers a.powers.now = λ i. omega (arith, c.type_inv.powers i) in
    let last : s.phase ≡ averaged_spectra s.registers - 1 = omega (arith, c.averaged_spectra-spectra.ensures) in
    let late : ltb s.phase (averaged_spectra s.registers - 1) ≡ false = le-ltb s.phase (averaged_spectra s.registers - 1) (omega arith) in
    let t = ap (λ (l : TotalsLeft). l.totals) (sums-here s a.totals.now a.powers.now a.out.now c.requires fit c.add_spectrum.ensures) in
    let w = words-here s a.totals.now a.powers.now a.out.now c.requires fit last t c.in_ok-words.ensures in
    let long : length c.add_spectrum.new.totals ≡ 784 = ap length t ∙ length-added s.registers a.totals.now a.powers.now in
    let cleared : c.fill.new.self ≡ replicate 784 0 = search rules in
    rw (
      late,
      eq-eqb _ _ last,
      given-same _ _ (ap (λ (l : ReportLeft). l.words) w),
      ap (λ (l : ReportLeft). l.out) w,
      c.report_counted.ensures ∙ ap report_counted (moves s _ _ c.next_phase.ensures c.period_ticks-period.ensures),
      cleared,
    )
