-- The invariant of demand 3: between calls the caller's memory represents what the reference model holds, and the model holds `Good`
-- numbers. What soundness asks of the state beside its registers is one clause, `sound`. Assumes nothing.
use Prim.Native.Nat.{ℕ, ◌+◌, ◌-◌, ◌*◌, ◌^◌, ◌≤◌, ◌<◌, zero-le}
use mathlib.Core.Path.{◌≡◌, refl, sym, ap, ◌∙◌, subst}
use mathlib.Core.Bool.{Bool, true, false, cond, ◌&&◌}
use mathlib.Core.List.{List, [], ◌∷◌, ◌++◌}
use native.Mathlib.Omega.{arith}
use native.Mathlib.Nat.{zero-mul}
use lib.Arith.{le-zero}
use lib.Dec.{ltb}
use lib.ListN.{length, replicate, length-replicate, get_or-replicate}
use borrow.Author.Tests.{ltb-true, le-leb}
use Rattle.lists.specs.Tables.{grid}
use Rattle.lists.proofs.Choices.{cond_same}
use Rattle.lists.proofs.Sums.{all_to-of}
use Rattle.lists.proofs.Tables.{length-grid, get_d-grid, grid-of, grid-ext}
use Rattle.registers.specs.Access.{at_reset, registers_sound}
use Rattle.settings.specs.Settings.{bands_of, enabled_of}
use Rattle.registers.specs.declared.Registers.{Registers}
use Rattle.registers.proofs.Theorems.{reset-sound}
use Rattle.model.specs.Totals.{in_use, width_of, slot, no_totals, added}
use Rattle.model.specs.Board.{spectra_held, slot_limit, totals_within, period_sound, state_sound}
use Rattle.model.specs.Reference.{Reference, spectra_total}
use Rattle.model.specs.Calls.{Memory, begin}
use Rattle.model.specs.Demand.{Begun, reset_memory}
use Rattle.model.specs.Claims.{ResetBegun}
use Rattle.model.proofs.Phases.{fresh-sound, held-zero}
use Rattle.model.proofs.Sound.{sound-parts}
use Rattle.model.proofs.SpectraTotals.{AllPowers, spectra_total-le, spectra_total-snoc}

-- the totals of the spectra held, in the slots in use
unfoldable pub held_totals : Registers → List (List ℕ) → List ℕ
held_totals r sp = grid 7 112 (λ n b. cond (in_use r n b) (spectra_total r sp n b) 0)

pub record Represents (m : Reference) (x : Memory) : Type 0 where
  pub registers : x.state.registers ≡ m.registers
  pub phase : x.state.phase ≡ m.phase
  pub sound : period_sound x.state ≡ true
  pub totals : x.totals ≡ held_totals m.registers m.spectra

-- what holds of the model between calls
pub record Good (m : Reference) : Type 0 where
  pub registers : registers_sound m.registers ≡ true
  pub held : length m.spectra ≡ spectra_held m.registers m.phase
  pub powers : AllPowers m.spectra

-- ---- the totals held

pub length-held : (r : Registers) (sp : List (List ℕ)) → length (held_totals r sp) ≡ 784
unfolding held_totals
length-held r sp = length-grid 7 112 _

pub slot-of-held : (r : Registers) (sp : List (List ℕ)) (n b : ℕ) → n < 7 → b < 112 → slot (held_totals r sp) n b ≡ cond (in_use r n b) (spectra_total r sp n b) 0
unfolding held_totals
slot-of-held r sp n b h l = get_d-grid 7 112 _ 0 n b h l

held_none : (r : Registers) (l : List ℕ) → length l ≡ 784 → ((n b : ℕ) → n < 7 → b < 112 → slot l n b ≡ 0) → l ≡ held_totals r []
unfolding held_totals
held_none r l e h = grid-of 7 112 _ 0 l e (λ n b k m. h n b k m ∙ sym (cond_same (in_use r n b) 0))

pub held-no : (r : Registers) → no_totals ≡ held_totals r []
unfolding no_totals
held-no r = held_none r (replicate 784 0) (length-replicate {A = ℕ} 784 0) (λ n b h l. get_or-replicate {A = ℕ} 784 (n * 112 + b) 0 0 (omega arith))

pub held-added : (r : Registers) (sp : List (List ℕ)) (ps : List ℕ) → added r (held_totals r sp) ps ≡ held_totals r (sp ++ (ps ∷ []))
unfolding added
held-added r sp ps =
    unfold held_totals in grid-ext 7 112 _ _ (λ n b h l.
    rw (slot-of-held r sp n b h l, spectra_total-snoc r n b sp ps) (cond-add (in_use r n b) _ _))
  where
    cond-add : (t : Bool) (x y : ℕ) → cond t x 0 + cond t y 0 ≡ cond t (x + y) 0
    cond-add true x y = refl
    cond-add false x y = refl

-- ---- good numbers make a sound state

slot-within : (m : Reference) → Good m → (n b : ℕ) → n < 7 → b < 112 →
    slot (held_totals m.registers m.spectra) n b ≤ slot_limit m.registers (spectra_held m.registers m.phase) n b
slot-within m g n b h l =
    rw (slot-of-held m.registers m.spectra n b h l, ← g.held)
    (within (enabled_of m.registers n) (ltb b (bands_of m.registers)) (λ e. spectra_total-le m.registers n b (ltb-true b _ e) m.spectra g.powers))
  where
    within : (on known : Bool) {x y : ℕ} → (known ≡ true → x ≤ y) → cond (on && known) x 0 ≤ cond (on && known) y 0
    within true true h = h refl
    within true false h = zero-le
    within false known h = zero-le

pub memory-sound : (m : Reference) → Good m → (x : Memory) → Represents m x → state_sound x.state x.totals ≡ true
unfolding state_sound totals_within
memory-sound m g x h =
    rw (h.sound, h.registers, h.phase, h.totals, g.registers)
    (all_to-of 7 _ (λ n k. all_to-of 112 _ (λ b l. le-leb _ _ (slot-within m g n b k l))))

pub memory-length : (m : Reference) (x : Memory) → Represents m x → length x.totals ≡ 784
memory-length m x h = ap length h.totals ∙ length-held m.registers m.spectra

-- ---- a list begins with such a memory

limit-zero : (r : Registers) (p n b : ℕ) → p ≡ 0 → slot_limit r (spectra_held r p) n b ≡ 0
limit-zero r p n b e =
    rw (e, held-zero r, zero-mul (width_of r b), zero-mul (2 ^ 32 - 1)) (cond_same (in_use r n b) 0)

begun-totals : (x : Memory) → Begun x → x.totals ≡ held_totals x.state.registers []
begun-totals x h =
    held_none x.state.registers x.totals h.totals-length
    (λ n b k l. le-zero (subst (λ y. slot x.totals n b ≤ y) (limit-zero x.state.registers x.state.phase n b h.phase)
    ((sound-parts x.state x.totals h.sound).totals n b k l)))

pub begun-represents : (x : Memory) → Begun x → Represents (begin x) x
begun-represents x h = record { registers = refl; phase = h.phase; sound = (sound-parts x.state x.totals h.sound).period; totals = begun-totals x h }

-- sound registers at phase 0 with no spectra are good
pub fresh-good : (r : Registers) → registers_sound r ≡ true → Good (record { registers = r; phase = 0; spectra = [] })
fresh-good r h = record { registers = h; held = sym (held-zero r); powers = tt }

pub begun-good : (x : Memory) → Begun x → Good (begin x)
begun-good x h = fresh-good x.state.registers (sound-parts x.state x.totals h.sound).registers

-- the board at reset is such a start
pub reset-begun : ResetBegun
reset-begun =
    let fresh = fresh-good at_reset reset-sound in
    let is : Represents (begin reset_memory) reset_memory = record { registers = refl; phase = refl; sound = fresh-sound at_reset; totals = held-no at_reset } in
    record { totals-length = memory-length _ reset_memory is; sound = memory-sound _ fresh reset_memory is; phase = refl }
