-- Commands and reads: a command with the value read stores it again, a read after an accepted command gives the value stored, and such a
-- command changes one register. Assumes nothing.
use Prim.Native.Nat.{ℕ, ◌-◌}
use mathlib.Core.Path.{◌≡◌, refl, sym, ap, ap₂, subst, ◌∙◌}
use mathlib.Core.Bool.{false, not}
use native.Mathlib.Omega.{arith}
use lib.Dec.{eqb}
use lib.ListN.{length}
use lib.Seq.{get_or-set_other}
use borrow.Author.Tests.{eq-eqb, not-false}
use Rattle.lists.proofs.Choices.{cond-at}
use Rattle.refusal.specs.Outcome.{given}
use Rattle.refusal.proofs.Outcomes.{given-same}
use Rattle.registers.specs.Access.{is_id, register, register_read, stored_to, WriteOutcome}
use Rattle.registers.specs.Store.{stored}
use Rattle.registers.specs.declared.Registers.{Registers}
use Rattle.registers.proofs.Theorems.{read-accepted, read-written, write-takes, write-back}
use Rattle.model.specs.Reply.{Reply, refused, stores}
use Rattle.model.specs.Totals.{no_totals}
use Rattle.model.specs.Board.{state_sound, CommandOutcome, command_outcome}
use Rattle.model.specs.Claims.{OneRegister, ReadCommanded, CommandBack}
use Rattle.model.proofs.Sound.{sound-parts}

pub command-back : CommandBack
unfolding command_outcome
command-back s totals id v long sound e =
    let t = read-accepted s.registers id v e in
    let w = sym (write-takes s.registers id v t.0 t.1) ∙ write-back s.registers id v e in
    let value : stored id v ≡ v = given-same _ _ (ap (λ (o : WriteOutcome). o.answer) w) in
    let kept : stored_to s.registers id v ≡ s.registers = ap (λ (o : WriteOutcome). o.registers) w in
    rw (eq-eqb (length totals) 784 long, sound, t.1)
    (ap₂ (λ (k : ℕ) (r : Registers). record { answer = stores k; state = record { registers = r; phase = 0; reports = 0 }; totals = no_totals }) value kept)

-- a refusal is no value stored
refused-stores : {A : Type 0} (n w : ℕ) → ◌≡◌ {A = Reply ℕ} (refused n) (stores w) → A
refused-stores n w e = let z : ◌≡◌ {A = ℕ} 0 1 = cc in absurd (omega arith)

-- an accepted command leaves the registers as an accepted write does
pub read-commanded : ReadCommanded
unfolding command_outcome
read-commanded s totals id v w seven e =
    cond-at Reads (not (eqb (length totals) 784)) (λ _. refused-stores 2 w) (λ _.
    cond-at Reads (not (state_sound s totals)) (λ _. refused-stores 3 w) (λ sound.
    cond-at Reads (not (is_id id)) (λ _. refused-stores 1 w) (λ known. after sound known))) e
  where
    Reads : CommandOutcome → Type 0
    Reads o = o.answer ≡ stores w → register_read o.state.registers id ≡ given w

    after : not (state_sound s totals) ≡ false → not (is_id id) ≡ false → ◌≡◌ {A = Reply ℕ} (stores (stored id v)) (stores w) →
        register_read (stored_to s.registers id v) id ≡ given w
    after sound known q =
        let t = write-takes s.registers id v (sound-parts s totals (not-false _ sound)).registers (not-false _ known) in
        let same : stored id v ≡ w = cc in
        subst (λ (o : WriteOutcome). register_read o.registers id ≡ given w) t
        (read-written s.registers id v w seven (ap (λ (o : WriteOutcome). o.answer) t ∙ ap given same))

pub one-register : OneRegister
unfolding command_outcome
one-register s totals id v n other =
    cond-at Same (not (eqb (length totals) 784)) (λ e. refl) (λ e.
    cond-at Same (not (state_sound s totals)) (λ e. refl) (λ e.
    cond-at Same (not (is_id id)) (λ e. refl) (λ e. get_or-set_other s.registers.value (id - 0x30) n (stored id v) 0 other)))
  where
    Same : CommandOutcome → Type 0
    Same o = register o.state.registers n ≡ register s.registers n
