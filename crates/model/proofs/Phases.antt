-- The phase of a period, how many spectra the totals hold at it, and that phase and number of reports stay sound. Assumes nothing.
use Prim.Native.Nat.{ℕ, ◌+◌, ◌-◌, ◌≤◌, ◌<◌}
use mathlib.Core.Path.{◌≡◌, refl, sym, subst}
use mathlib.Core.Bool.{true, false, cond, ◌&&◌, or-true}
use mathlib.Core.List.{List, [], ◌∷◌, ◌++◌}
use native.Mathlib.Omega.{arith}
use lib.Dec.{ltb, eqb, lit≤}
use borrow.Author.Tests.{ltb-true, ltb-false, eqb-true, eqb-false, lt-ltb, le-ltb, ne_eqb}
use Rattle.lists.proofs.Choices.{by_cases, both, cond-at, cond_same, cond-false}
use Rattle.settings.specs.Settings.{averaged_spectra, period_ticks, running_of}
use Rattle.registers.specs.declared.Registers.{Registers}
use Rattle.settings.proofs.Settings.{averaged-pos, averaged-le, period-pos, running-le}
use Rattle.model.specs.Reply.{collected, waiting}
use Rattle.model.specs.declared.State.{State}
use Rattle.model.specs.Board.{phase_sound, reports_sound, period_sound, at_next_phase, report_counted, spectra_held}
use Rattle.model.specs.Reference.{Reference, Entry, after_tick, entry_report, entry_running}

-- the book's three cases of a tick when running are the board's
running-cases : {A : Type 0} (p n : ℕ) (collects reports waits : A) → 0 < n →
    cond (ltb p n) (cond (eqb p (n - 1)) reports collects) waits ≡ cond (ltb p (n - 1)) collects (cond (eqb p (n - 1)) reports waits)
running-cases p n collects reports waits h =
    by_cases (ltb p (n - 1))
    (λ e. let l = ltb-true p (n - 1) e in rw (e, lt-ltb p n (omega arith), ne_eqb p (n - 1) (λ q. omega arith)))
    (λ e. let l = ltb-false p (n - 1) e in
    by_cases (eqb p (n - 1))
    (λ q. let s = eqb-true p (n - 1) q in rw (e, q, lt-ltb p n (omega arith)))
    (λ q. let d = eqb-false p (n - 1) q in rw (e, q, le-ltb p n (omega arith))))

abbrev pub by_board_cases : Reference → List (List ℕ) → Entry
by_board_cases m kept =
    cond (ltb m.phase (averaged_spectra m.registers - 1)) (record { reply = collected; next = after_tick m kept })
    (cond (eqb m.phase (averaged_spectra m.registers - 1)) (entry_report m kept)
    (record { reply = waiting; next = after_tick m [] }))

pub entry-cases : (m : Reference) (powers : List ℕ) → by_board_cases m (m.spectra ++ (powers ∷ [])) ≡ entry_running m powers
entry-cases m powers = sym (running-cases m.phase (averaged_spectra m.registers) _ _ _ (averaged-pos m.registers))

-- the phase after p
abbrev pub next_phase : Registers → ℕ → ℕ
next_phase r p = cond (eqb p (period_ticks r - 1)) 0 (p + 1)

module _ (r : Registers) where
  phase-zero : phase_sound r 0 ≡ true
  unfolding phase_sound
  phase-zero = cond-at (λ t. t ≡ true) (running_of r) (λ e. lt-ltb 0 (period_ticks r) (period-pos r)) (λ e. refl)

  pub held-zero : spectra_held r 0 ≡ 0
  held-zero = cond_same (running_of r && ltb 0 (averaged_spectra r)) 0

  pub held-le : (p : ℕ) → spectra_held r p ≤ 1024
  held-le p =
      cond-at (λ x. x ≤ 1024) (running_of r && ltb p (averaged_spectra r))
      (λ e. omega (arith, ltb-true p (averaged_spectra r) (both (running_of r) (ltb p (averaged_spectra r)) e).1, averaged-le r)) (λ e. lit≤ tt)

  module _ (p : ℕ) where
    phase-lt : running_of r ≡ true → phase_sound r p ≡ true → p < period_ticks r
    unfolding phase_sound
    phase-lt e h = ltb-true p (period_ticks r) (rw e at h)

    phase-next : running_of r ≡ true → phase_sound r p ≡ true → phase_sound r (next_phase r p) ≡ true
    unfolding phase_sound
    phase-next e h =
        let l : p < period_ticks r = phase-lt e h in
        rw e
        (cond-at (λ q. ltb q (period_ticks r) ≡ true) (eqb p (period_ticks r - 1))
        (λ z. lt-ltb 0 (period_ticks r) (omega arith))
        (λ n. let d : ¬ (p ≡ period_ticks r - 1) = eqb-false p (period_ticks r - 1) n in lt-ltb (p + 1) (period_ticks r) (omega arith)))

  -- no reports are sound, and any number of them when running
  reports-zero : reports_sound r 0 ≡ true
  unfolding reports_sound
  reports-zero = or-true (running_of r)

  reports-any : running_of r ≡ true → (n : ℕ) → reports_sound r n ≡ true
  unfolding reports_sound
  reports-any run n = rw run

  -- a state at phase 0 without reports is sound beside its registers, and so is a running one at its next phase and with a report more
  pub fresh-sound : period_sound (record { registers = r; phase = 0; reports = 0 }) ≡ true
  unfolding period_sound
  fresh-sound = rw (phase-zero, reports-zero)

  -- the spectra held at p of a running board
  module _ (run : running_of r ≡ true) (p : ℕ) where
    held_all : p < averaged_spectra r → spectra_held r p ≡ p
    held_all l = rw (run, lt-ltb p (averaged_spectra r) l)

    held_none : averaged_spectra r ≤ p → spectra_held r p ≡ 0
    held_none l = rw (run, le-ltb p (averaged_spectra r) l)

    pub held-collecting : ltb p (averaged_spectra r - 1) ≡ true → spectra_held r p ≡ p
    held-collecting e = held_all (omega (arith, ltb-true p (averaged_spectra r - 1) e))

    pub held-reporting : eqb p (averaged_spectra r - 1) ≡ true → spectra_held r p + 1 ≡ averaged_spectra r
    held-reporting e =
        let q : p ≡ averaged_spectra r - 1 = eqb-true p (averaged_spectra r - 1) e in
        omega (arith, averaged-pos r, held_all (omega (arith, averaged-pos r)))

    pub held-waiting : ltb p (averaged_spectra r - 1) ≡ false → eqb p (averaged_spectra r - 1) ≡ false → spectra_held r p ≡ 0
    held-waiting e f =
        let d : ¬ (p ≡ averaged_spectra r - 1) = eqb-false p (averaged_spectra r - 1) f in
        held_none (omega (arith, ltb-false p (averaged_spectra r - 1) e))

  -- the spectra held after p
  pub next-collecting : running_of r ≡ true → (p : ℕ) → ltb p (averaged_spectra r - 1) ≡ true → spectra_held r (next_phase r p) ≡ p + 1
  next-collecting run p c =
      let l : p < averaged_spectra r - 1 = ltb-true p (averaged_spectra r - 1) c in
      let d : ¬ (p ≡ period_ticks r - 1) = λ z. omega (arith, running-le r run) in
      subst (λ q. spectra_held r q ≡ p + 1) (sym (cond-false (eqb p (period_ticks r - 1)) 0 (p + 1) (ne_eqb p (period_ticks r - 1) d)))
      (held_all run (p + 1) (omega arith))

  pub next-other : running_of r ≡ true → (p : ℕ) → ltb p (averaged_spectra r - 1) ≡ false → spectra_held r (next_phase r p) ≡ 0
  next-other run p c =
      cond-at (λ q. spectra_held r q ≡ 0) (eqb p (period_ticks r - 1)) (λ e. held-zero)
      (λ e. held_none run (p + 1) (omega (arith, ltb-false p (averaged_spectra r - 1) c)))

-- the phase of a sound state is sound
phase-part : (s : State) → period_sound s ≡ true → phase_sound s.registers s.phase ≡ true
unfolding period_sound
phase-part s h = (both _ (reports_sound s.registers s.reports) h).0

pub period-lt : (s : State) → running_of s.registers ≡ true → period_sound s ≡ true → s.phase < period_ticks s.registers
period-lt s run h = phase-lt s.registers s.phase run (phase-part s h)

pub next-sound : (s : State) → running_of s.registers ≡ true → period_sound s ≡ true → period_sound (at_next_phase s) ≡ true
unfolding period_sound
next-sound s run h = rw (phase-next s.registers s.phase run (phase-part s h), reports-any s.registers run (at_next_phase s).reports)

pub report-sound : (s : State) → running_of s.registers ≡ true → period_sound s ≡ true → period_sound (report_counted s) ≡ true
unfolding period_sound
report-sound s run h = rw (phase-part s h, reports-any s.registers run (report_counted s).reports)
