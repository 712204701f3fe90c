-- What a sound state has. Assumes nothing.
use Prim.Native.Nat.{ℕ, ◌≤◌, ◌<◌}
use mathlib.Core.Path.{◌≡◌}
use mathlib.Core.Bool.{true, ◌&&◌}
use mathlib.Core.List.{List}
use borrow.Author.Tests.{leb-true}
use Rattle.lists.proofs.Choices.{both}
use Rattle.lists.proofs.Sums.{all_to-at}
use Rattle.registers.specs.Access.{registers_sound}
use Rattle.model.specs.Totals.{slot}
use Rattle.model.specs.Board.{spectra_held, slot_limit, totals_within, period_sound, state_sound}
use Rattle.model.specs.declared.State.{State}

pub record Sound (s : State) (l : List ℕ) : Type 0 where
  pub registers : registers_sound s.registers ≡ true
  pub period : period_sound s ≡ true
  pub totals : (n b : ℕ) → n < 7 → b < 112 → slot l n b ≤ slot_limit s.registers (spectra_held s.registers s.phase) n b

pub sound-parts : (s : State) (totals : List ℕ) → state_sound s totals ≡ true → Sound s totals
unfolding state_sound totals_within
sound-parts s totals h =
    let r = s.registers in
    let e = both (registers_sound r && period_sound s) (totals_within r (spectra_held r s.phase) totals) h in
    let f = both (registers_sound r) (period_sound s) e.0 in
    record {
      registers = f.0;
      period = f.1;
      totals = λ n b h l. leb-true _ _ (all_to-at 112 _ (all_to-at 7 _ e.1 n h) b l);
    }
