-- A call on the board follows the reference model's entry for it. Assumes nothing.
use Prim.Native.Nat.{ℕ, ◌-◌}
use mathlib.Core.Path.{◌≡◌, refl, ap, ap₂, subst, ◌∙◌}
use mathlib.Core.Bool.{true, not, and-false}
use mathlib.Core.List.{List, [], ◌∷◌, ◌++◌}
use native.Mathlib.Omega.{arith}
use lib.ListN.{length}
use lib.Dec.{ltb, eqb}
use borrow.Author.Tests.{ne_eqb, not-false}
use Rattle.lists.specs.Tables.{overwrite}
use Rattle.lists.proofs.Choices.{cond-related}
use Rattle.registers.specs.Access.{is_id, stored_to}
use Rattle.settings.specs.Settings.{averaged_spectra, running_of, spec_words}
use Rattle.registers.specs.declared.Registers.{Registers}
use Rattle.model.specs.Reply.{reported}
use Rattle.model.specs.Totals.{slot, added}
use Rattle.model.specs.Report.{report_bytes}
use Rattle.model.specs.Board.{CommandOutcome, TickOutcome, at_next_phase, report_counted, lengths_fit, tick_reported, running_outcome, command_outcome, tick_outcome}
use Rattle.model.specs.Reference.{Reference, Entry, after_tick, entry_report, entry_running, entry, spectra_total}
use Rattle.model.specs.Calls.{TotalsPassed, current, wrong, Memory, Call, command, tick, Performed, perform_command, perform_tick, perform, input_of, out_of, answer_of, written_by}
use Rattle.model.specs.declared.State.{State}
use Rattle.model.proofs.TickSums.{sums_after}
use Rattle.model.proofs.Phases.{by_board_cases, entry-cases, next_phase, held-waiting, fresh-sound, next-sound, report-sound}
use Rattle.model.proofs.Invariant.{held_totals, Represents, Good, memory-sound, memory-length, held-no, held-added}
use Rattle.model.proofs.Reports.{slot_held, report-ext}

-- what a call leaves is what the model's entry e, made at registers r, says of it
pub record Follows (r : Registers) (before : List ℕ) (e : Entry) (p : Performed) : Type 0 where
  pub answer : p.answer ≡ answer_of r e.reply
  pub out : p.out ≡ written_by r e.reply before
  pub next : Represents e.next p.memory

no_length {ℓ} : {A : Type ℓ} (l : List A) → length l ≡ 0 → l ≡ []
no_length [] e = refl
no_length (x ∷ l) e = absurd (omega arith)

module _ (m : Reference) (g : Good m) (x : Memory) (h : Represents m x) where
  abbrev r : Registers
  r = m.registers

  -- the call changes nothing
  unchanged : Represents m (record { state = x.state; totals = x.totals })
  unchanged = record { registers = h.registers; phase = h.phase; sound = h.sound; totals = h.totals }

  -- ---- commands

  abbrev FollowsCommand : TotalsPassed → CommandOutcome → Entry → Type 0
  FollowsCommand t o e = Follows r [] e (perform_command x t o)

  follows-command : (id v : ℕ) (t : TotalsPassed) → Follows r [] (entry m (input_of (command id v t))) (perform x (command id v t))
  unfolding entry command_outcome
  follows-command id v current =
      rw (memory-length m x h, memory-sound m g x h)
      (cond-related (FollowsCommand current) (not (is_id id)) (not (is_id id)) refl
      (λ e. record { answer = refl; out = refl; next = unchanged })
      (λ e. record {
        answer = refl;
        out = refl;
        next = record { registers = ap (λ k. stored_to k id v) h.registers; phase = refl; sound = fresh-sound _; totals = held-no _ };
      }))
  follows-command id v (wrong l d) = rw (ne_eqb (length l) 784 d) (record { answer = refl; out = refl; next = unchanged })

  -- ---- ticks

  abbrev FollowsTick : List ℕ → TickOutcome → Entry → Type 0
  FollowsTick out o e = Follows r out e (perform_tick x current o)

  -- a tick of a running board that leaves the totals of these spectra
  ticked : running_of r ≡ true → (sp : List (List ℕ)) (totals : List ℕ) → totals ≡ held_totals r sp →
      Represents (after_tick m sp) (record { state = at_next_phase x.state; totals = totals })
  ticked run sp totals e =
      record {
        registers = h.registers;
        phase = ap₂ next_phase h.registers h.phase;
        sound = next-sound x.state (ap running_of h.registers ∙ run) h.sound;
        totals = e;
      }

  -- the same with a report more
  report-counted : {n : Reference} {s : State} {totals : List ℕ} → running_of s.registers ≡ true →
      Represents n (record { state = s; totals = totals }) → Represents n (record { state = report_counted s; totals = totals })
  report-counted {n} {s} run e =
      record { registers = e.registers; phase = e.phase; sound = report-sound s run e.sound; totals = e.totals }

  module _ (run : running_of r ≡ true) (ps out : List ℕ) where
    abbrev sp : List (List ℕ)
    sp = m.spectra ++ (ps ∷ [])

    -- the totals with the tick's powers added are those of the spectra with the tick's
    abbrev tick_sums : List ℕ
    tick_sums = sums_after x.state x.totals ps

    sums : tick_sums ≡ held_totals r sp
    sums = ap₂ (λ k l. added k l ps) h.registers h.totals ∙ held-added r m.spectra ps

    bytes : report_bytes x.state.registers (slot tick_sums) ≡ report_bytes r (spectra_total r sp)
    bytes = ap₂ (λ q l. report_bytes q (slot l)) h.registers sums ∙ report-ext r _ _ (slot_held r sp)

    follows-report : FollowsTick out (tick_reported x.state tick_sums out) (entry_report m sp)
    follows-report =
        record {
          answer = ap (λ q. reported (spec_words q)) h.registers;
          out = ap (λ l. overwrite l out) bytes;
          next = report-counted (ap running_of h.registers ∙ run) (ticked run [] _ (held-no r));
        }

    by_cases : FollowsTick out (running_outcome x.state x.totals tick_sums out) (by_board_cases m sp)
    unfolding running_outcome
    by_cases =
        cond-related (FollowsTick out) (ltb x.state.phase (averaged_spectra x.state.registers - 1)) (ltb m.phase (averaged_spectra r - 1))
        (ap₂ (λ q p. ltb p (averaged_spectra q - 1)) h.registers h.phase)
        (λ c. record { answer = refl; out = refl; next = ticked run sp _ sums })
        (λ c. cond-related (FollowsTick out) (eqb x.state.phase (averaged_spectra x.state.registers - 1)) (eqb m.phase (averaged_spectra r - 1))
        (ap₂ (λ q p. eqb p (averaged_spectra q - 1)) h.registers h.phase)
        (λ q. follows-report)
        (λ q. record {
          answer = refl;
          out = refl;
          next = ticked run [] _ (h.totals ∙ ap (held_totals r) (no_length m.spectra (g.held ∙ held-waiting r run m.phase c q)));
        }))

    follows-running : FollowsTick out (running_outcome x.state x.totals tick_sums out) (entry_running m ps)
    follows-running = subst (FollowsTick out _) (entry-cases m ps) by_cases

  follows-tick : (ps out : List ℕ) (t : TotalsPassed) → Follows r out (entry m (input_of (tick ps t out))) (perform x (tick ps t out))
  unfolding entry tick_outcome
  follows-tick ps out current =
      rw (memory-length m x h, memory-sound m g x h)
      (cond-related (FollowsTick out) (not (lengths_fit (length ps) 784 (length out))) (not (lengths_fit (length ps) 784 (length out))) refl
      (λ e. record { answer = refl; out = refl; next = unchanged })
      (λ e. cond-related (FollowsTick out) (not (running_of x.state.registers)) (not (running_of r)) (ap (λ q. not (running_of q)) h.registers)
      (λ e. record { answer = refl; out = refl; next = unchanged })
      (λ e. follows-running (not-false (running_of r) e) ps out)))
  follows-tick ps out (wrong l d) =
      rw (ne_eqb (length l) 784 d, and-false (eqb (length ps) 7168)) (record { answer = refl; out = refl; next = unchanged })

  pub follows : (c : Call) → Follows r (out_of c) (entry m (input_of c)) (perform x c)
  follows (command id v t) = follows-command id v t
  follows (tick ps t out) = follows-tick ps out t
