-- The test of the period says of the registers that a list leaves that no processor is enabled or N ≤ C. Assumes nothing.
use mathlib.Core.Bool.{Bool, true, false, cond, ◌||◌, or-true, true≢false}
use mathlib.Core.List.{List, [], ◌∷◌}
use mathlib.Core.Logic.{inl, inr, ⊎_elim}
use mathlib.Core.Path.{◌≡◌, refl, sym, ap, ◌∙◌}
use Prim.Native.Nat.{ℕ, ◌<◌}
use native.Mathlib.Omega.{arith}
use borrow.Author.Tests.{eq-eqb, eqb-true, eqb-false, ne_eqb, le-leb, leb-true}
use lib.Dec.{eqb, leb}
use Rattle.lists.proofs.Choices.{by_cases, either}
use Rattle.lists.proofs.Sums.{sum_to-zero}
use Rattle.lists.proofs.Changes.{sum_to-at}
use Rattle.registers.specs.declared.Registers.{Registers}
use Rattle.registers.specs.Store.{enable_of}
use Rattle.registers.specs.Access.{register, registers_sound, at_reset, stored_to}
use Rattle.registers.proofs.Theorems.{write-sound, reset-sound}
use Rattle.settings.specs.Settings.{averaged_spectra, period_ticks, enabled_of, enabled_count}
use Rattle.settings.specs.Claims.{AsHeld}
use Rattle.settings.proofs.Theorems.{sound-settings}
use Rattle.board_log.specs.declared.Record.{Record}
use Rattle.checker.specs.Check.{within_period}
use Rattle.checker.specs.Claims.{registers_from, registers_after, PeriodKept}

or_left : (a b : Bool) → a ≡ true → a || b ≡ true
or_left a b e = rw e refl

pub or_right : (a b : Bool) → b ≡ true → a || b ≡ true
or_right a b e = ap (λ (x : Bool). a || x) e ∙ or-true a

-- ---- of sound registers

module _ (r : Registers) (sound : registers_sound r ≡ true) where
  -- what a processor adds to the count
  abbrev one : ℕ → ℕ
  one n = cond (enabled_of r n) 1 0

  one_of : (n : ℕ) (b : Bool) → enabled_of r n ≡ b → one n ≡ cond b 1 0
  one_of n b e = rw e refl

  bit-off : (n : ℕ) → enable_of (register r n) ≡ 0 → enabled_of r n ≡ false
  unfolding enabled_of
  bit-off n e = ne_eqb (enable_of (register r n)) 1 (λ f. absurd (omega (arith, e, f)))

  off-bit : (n : ℕ) → enabled_of r n ≡ false → enable_of (register r n) ≡ 0
  unfolding enabled_of
  off-bit n e =
      let other = eqb-false (enable_of (register r n)) 1 e in
      by_cases (eqb (enable_of (register r n)) 0) (λ z. eqb-true _ _ z)
      (λ z. absurd (omega (arith, eqb-false (enable_of (register r n)) 0 z, other)))

  none-counted : ((n : ℕ) → n < 7 → enable_of (register r n) ≡ 0) → enabled_count r ≡ 0
  none-counted h = sum_to-zero 7 one (λ n l. one_of n false (bit-off n (h n l)))

  none-enabled : enabled_count r ≡ 0 → (n : ℕ) → n < 7 → enable_of (register r n) ≡ 0
  none-enabled e n l =
      by_cases (enabled_of r n)
      (λ t. absurd (omega (arith, e, sum_to-at 7 n one l, one_of n true t)))
      (λ t. off-bit n t)

  held : AsHeld r
  held = sound-settings r sound

  sound-kept : within_period r ≡ true → PeriodKept r
  unfolding within_period
  sound-kept e =
      ⊎_elim (λ z. inl (none-enabled (eqb-true (enabled_count r) 0 z))) (λ l. inr (omega (arith, leb-true (averaged_spectra r) (period_ticks r) l, held.navg, held.ncad)))
      (either (eqb (enabled_count r) 0) (leb (averaged_spectra r) (period_ticks r)) e)

  kept-sound : PeriodKept r → within_period r ≡ true
  unfolding within_period
  kept-sound (inl h) = or_left (eqb (enabled_count r) 0) (leb (averaged_spectra r) (period_ticks r)) (eq-eqb (enabled_count r) 0 (none-counted h))
  kept-sound (inr h) = or_right (eqb (enabled_count r) 0) (leb (averaged_spectra r) (period_ticks r)) (le-leb (averaged_spectra r) (period_ticks r) (omega (arith, h, held.navg, held.ncad)))

-- ---- of the registers that a list leaves, which are sound

from-sound : (r : Registers) (rs : List Record) → registers_sound r ≡ true → registers_sound (registers_from r rs) ≡ true
from-sound r [] h = h
from-sound r (Record.Command c ∷ rs) h = from-sound (stored_to r c.id c.information) rs (write-sound r c.id c.information h)
from-sound r (Record.Word w ∷ rs) h = from-sound r rs h
from-sound r (Record.SecondMark s ∷ rs) h = from-sound r rs h
from-sound r (Record.Tick ∷ rs) h = from-sound r rs h

module _ (rs : List Record) where
  sound : registers_sound (registers_after rs) ≡ true
  unfolding registers_after
  sound = from-sound at_reset rs reset-sound

  pub within-kept : within_period (registers_after rs) ≡ true → PeriodKept (registers_after rs)
  within-kept e = sound-kept (registers_after rs) sound e

  pub kept-within : PeriodKept (registers_after rs) → within_period (registers_after rs) ≡ true
  kept-within h = kept-sound (registers_after rs) sound h

  pub over-broken : within_period (registers_after rs) ≡ false → ¬ PeriodKept (registers_after rs)
  over-broken e h = true≢false (sym (kept-within h) ∙ e)

  pub broken-over : ¬ PeriodKept (registers_after rs) → within_period (registers_after rs) ≡ false
  broken-over h = by_cases (within_period (registers_after rs)) (λ t. absurd (h (within-kept t))) (λ t. t)
