-- The ends of an interval fit 16 bits; so the number of an interval has both, and is told apart from a refusal. Assumes nothing.
use Prim.Native.Nat.{ℕ, ◌+◌, ◌*◌, ◌≤◌, ◌<◌}
use mathlib.Core.Path.{◌≡◌, refl, sym, ap, ◌∙◌}
use mathlib.Core.List.{List}
use native.Mathlib.Omega.{arith}
use borrow.Author.Tests.{lt-ltb, le-ltb, ltb-true, ltb-false}
use lib.Dec.{ltb}
use lib.ListN.{length}
use Rattle.lists.proofs.Choices.{by_cases}
use Rattle.refusal.specs.Outcome.{Outcome, given, refused, is_given}
use Rattle.refusal.proofs.Outcomes.{refused-given}
use Rattle.interval.specs.declared.Interval.{Interval}
use Rattle.interval.specs.Interval.{interval_outcome}
use Rattle.interval.proofs.Rules.{too_long}
use Rattle.interval.proofs.Claims.{interval-chosen}
use Rattle.dfb_refusals.specs.Numbers.{above63}
use Rattle.dfb_interval.specs.Interval.{interval_number, interval_call}
use Rattle.dfb_interval.specs.Claims.{IntervalApart, IntervalEnds}

pub interval-small : (index : List ℕ) (bonus limit : ℕ) (i : Interval) → interval_outcome index bonus limit ≡ given i → (i.first < 0x10000) × (i.last < 0x10000)
interval-small index bonus limit i e =
    let ok = interval-chosen index bonus limit i e in
    let long : length index ≤ 16000 =
    by_cases (ltb 16000 (length index))
    (λ t. absurd (refused-given 2 i (sym (too_long index bonus limit (ltb-true 16000 (length index) t)) ∙ e)))
    (λ f. ltb-false 16000 (length index) f) in
    (omega (arith, ok.start.0, ok.start.1, ok.within, long), omega (arith, ok.within, long))

pub interval-apart : IntervalApart
unfolding interval_call
interval-apart index bonus limit = by (interval_outcome index bonus limit) refl
  where
    by : (o : Outcome Interval) → interval_outcome index bonus limit ≡ o → ltb (interval_number o) above63 ≡ is_given o
    by (given i) e =
        let small = interval-small index bonus limit i e in
        lt-ltb (i.first + 0x10000 * i.last) above63 (omega (arith, small.0, small.1))
    by (refused n) e = le-ltb (above63 + n) above63 (omega arith)

pub interval-ends : IntervalEnds
unfolding interval_call
interval-ends index bonus limit i e =
    let small = interval-small index bonus limit i e in
    let number : interval_number (interval_outcome index bonus limit) ≡ i.first + 0x10000 * i.last = ap interval_number e in
    (omega (arith, small.0, number), omega (arith, small.0, number))
