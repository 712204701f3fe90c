-- The rule of a choice, case by case. Assumes nothing.
use Prim.Native.Nat.{ℕ, ◌≤◌, ◌<◌}
use mathlib.Core.Path.{◌≡◌, ap, ◌∙◌}
use mathlib.Core.Bool.{true, false}
use mathlib.Core.List.{List}
use borrow.Author.Tests.{lt-ltb, le-ltb, eq-eqb, ne_eqb}
use lib.ListN.{length}
use Rattle.refusal.specs.Outcome.{given, refused}
use Rattle.interval.specs.declared.Interval.{Interval}
use Rattle.interval.specs.declared.Growing.{Growing}
use Rattle.interval.specs.Interval.{all_zero, start_of, grown, interval_of, interval_outcome}

abbrev ends : Growing → Interval
ends g = record { first = g.first; last = g.last }

module _ (index : List ℕ) (bonus limit : ℕ) where
  pub too_long : 16000 < length index → interval_outcome index bonus limit ≡ refused 2
  unfolding interval_outcome
  too_long h = rw (lt-ltb 16000 (length index) h)

  pub no-limit : length index ≤ 16000 → limit ≡ 0 → interval_outcome index bonus limit ≡ refused 29
  unfolding interval_outcome
  no-limit h e = rw (le-ltb 16000 (length index) h, eq-eqb limit 0 e)

  pub nothing : length index ≤ 16000 → (limit ≡ 0 → ⊥) → all_zero index ≡ true → interval_outcome index bonus limit ≡ refused 26
  unfolding interval_outcome
  nothing h n e = rw (le-ltb 16000 (length index) h, ne_eqb limit 0 n, e)

  pub chosen : length index ≤ 16000 → (limit ≡ 0 → ⊥) → all_zero index ≡ false → (start : ℕ) → start ≡ start_of index →
      (g : Growing) → g ≡ grown index bonus limit start (length index) →
      given (record { first = g.first; last = g.last }) ≡ interval_outcome index bonus limit
  unfolding interval_outcome interval_of
  chosen h n e start s g q =
      ap (λ (g : Growing). given (ends g)) (q ∙ ap (λ (i : ℕ). grown index bonus limit i (length index)) s)
      ∙ rw (le-ltb 16000 (length index) h, ne_eqb limit 0 n, e)
