-- A command or a tick keeps the model's numbers good, is refused by 1 or 2 if at all, and a report is on N spectra. Assumes nothing.
use Prim.Native.Nat.{ℕ, ◌-◌, ◌<◌}
use mathlib.Core.Path.{◌≡◌, sym, subst}
use mathlib.Core.Bool.{true, not, ◌&&◌}
use mathlib.Core.List.{List, [], ◌∷◌, ◌++◌}
use native.Mathlib.Omega.{arith}
use lib.ListN.{length, length-append}
use lib.Dec.{eqb, ltb, leb, lit<}
use borrow.Author.Tests.{not-false}
use Rattle.lists.proofs.Choices.{cond-at}
use Rattle.registers.specs.Access.{is_id}
use Rattle.settings.specs.Settings.{averaged_spectra, running_of}
use Rattle.registers.specs.declared.Registers.{Registers}
use Rattle.registers.proofs.Theorems.{write-sound}
use Rattle.model.specs.Reply.{Reply, refused, stores, idle, collected, waiting, reported}
use Rattle.model.specs.Board.{spectra_held}
use Rattle.model.specs.Reference.{Reference, Input, Entry, after_tick, entry_running, entry}
use Rattle.model.specs.Calls.{Powers}
use Rattle.model.proofs.SpectraTotals.{AllPowers, powers-snoc}
use Rattle.model.proofs.Phases.{by_board_cases, entry-cases, next_phase, held-collecting, held-reporting, next-collecting, next-other}
use Rattle.model.proofs.Invariant.{Good, fresh-good}

abbrev pub GoodReply : Registers → Reply (List (List ℕ)) → Type 0
GoodReply r (refused n) = n < 3
GoodReply r (stores v) = Unit {0}
GoodReply r idle = Unit {0}
GoodReply r collected = Unit {0}
GoodReply r waiting = Unit {0}
GoodReply r (reported sp) = length sp ≡ averaged_spectra r

pub record GoodEntry (r : Registers) (e : Entry) : Type 0 where
  pub reply : GoodReply r e.reply
  pub next : Good e.next

module _ (m : Reference) (g : Good m) where
  abbrev r : Registers
  r = m.registers

  -- a report is on the spectra held and the tick's: N
  report-count : running_of r ≡ true → (ps : List ℕ) → eqb m.phase (averaged_spectra r - 1) ≡ true →
      length (m.spectra ++ (ps ∷ [])) ≡ averaged_spectra r
  report-count run ps e = omega (arith, length-append m.spectra (ps ∷ []), g.held, held-reporting r run m.phase e)

  next-good : (sp : List (List ℕ)) → length sp ≡ spectra_held r (next_phase r m.phase) → AllPowers sp → Good (after_tick m sp)
  next-good sp h a = record { registers = g.registers; held = h; powers = a }

  pub keeps-command : (id v n : ℕ) → GoodEntry r (entry m (Input.command id v n))
  unfolding entry
  keeps-command id v n =
      cond-at (GoodEntry r) (not (eqb n 784)) (λ e. record { reply = lit< tt; next = g }) (λ e.
      cond-at (GoodEntry r) (not (is_id id)) (λ e. record { reply = lit< tt; next = g }) (λ e.
      record { reply = tt; next = fresh-good _ (write-sound r id v g.registers) }))

  one_more : (ps : List ℕ) → running_of r ≡ true → ltb m.phase (averaged_spectra r - 1) ≡ true →
      length (m.spectra ++ (ps ∷ [])) ≡ spectra_held r (next_phase r m.phase)
  one_more ps run c =
      omega (
        arith,
        length-append m.spectra (ps ∷ []),
        g.held,
        held-collecting r run m.phase c,
        next-collecting r run m.phase c,
      )

  pub keeps-tick : (ps : List ℕ) (n o : ℕ) → Powers ps → GoodEntry r (entry m (Input.tick ps n o))
  unfolding entry
  keeps-tick ps n o h =
      cond-at (GoodEntry r) (not (eqb (length ps) 7168 && eqb n 784 && leb 1176 o)) (λ e. record { reply = lit< tt; next = g }) (λ e.
      cond-at (GoodEntry r) (not (running_of r)) (λ e. record { reply = tt; next = g }) (λ e. runs (not-false (running_of r) e)))
    where
      by_cases : running_of r ≡ true → GoodEntry r (by_board_cases m (m.spectra ++ (ps ∷ [])))
      by_cases run =
          cond-at (GoodEntry r) (ltb m.phase (averaged_spectra r - 1))
          (λ c. record { reply = tt; next = next-good _ (one_more ps run c) (powers-snoc m.spectra ps g.powers h) })
          (λ c. let rest = next-good [] (sym (next-other r run m.phase c)) tt in
          cond-at (GoodEntry r) (eqb m.phase (averaged_spectra r - 1))
          (λ q. record { reply = report-count run ps q; next = rest })
          (λ q. record { reply = tt; next = rest }))

      runs : running_of r ≡ true → GoodEntry r (entry_running m ps)
      runs run = subst (GoodEntry r) (entry-cases m ps) (by_cases run)
