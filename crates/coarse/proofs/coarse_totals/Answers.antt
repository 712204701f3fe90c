-- `coarse::coarse_totals` meets its contract: the tests pick the case of `coarse_outcome`. Assumes nothing.
use Prim.Native.Nat.{ℕ, ◌≤◌}
use mathlib.Core.Path.{◌≡◌, sym, ap₂, ◌∙◌}
use mathlib.Core.Bool.{true, false}
use mathlib.Core.List.{List, [], ◌∷◌}
use native.Mathlib.Omega.{arith}
use lib.ListN.{length, get_or}
use borrow.Author.Tests.{eq-eqb, ne_eqb, le-leb, lt-leb, not-true, not-false}
use Rattle.refusal.specs.Outcome.{given}
use Rattle.registers.specs.Store.{band_count}
use Rattle.registers.proofs.Counts.{count_at, bands-count}
use Rattle.coarse.specs.Coarse.{totals_taken, coarse_outcome}
use Rattle.coarse.proofs.coarse_totals.Goals as goal

-- the constant has the count of the target
counted : (setting : ℕ) → setting ≤ 2 → get_or (36 ∷ 64 ∷ 112 ∷ []) setting 0 ≡ band_count setting
counted setting h = count_at setting (omega arith)

pub returns-then-setting-gt-LAST_TARGET : goal.returns-then-setting-gt-LAST_TARGET
unfolding coarse_outcome
returns-then-setting-gt-LAST_TARGET c = simp (lt-leb c.args.setting 1 (omega arith))

pub overflow_cast-bands : goal.overflow_cast-bands
overflow_cast-bands c = omega (arith, counted c.args.setting (omega arith), (bands-count c.args.setting).at_most)

pub returns-then-fine-ne-FINE_TOTALS : goal.returns-then-fine-ne-FINE_TOTALS
unfolding coarse_outcome
returns-then-fine-ne-FINE_TOTALS c =
    let a = c.args in
    simp (le-leb a.setting 1 (omega arith), ne_eqb (length a.fine.now) 112 c.if-fine-ne-FINE_TOTALS.true)

pub returns-then-out-bands : goal.returns-then-out-bands
unfolding coarse_outcome
returns-then-out-bands c =
    let a = c.args in
    let target = le-leb a.setting 1 (omega arith) in
    let long = eq-eqb (length a.fine.now) 112 (omega arith) in
    let short = lt-leb (band_count a.setting) (length a.out.now) (omega (arith, counted c.args.setting (omega arith))) in
    simp (target, long, short)

pub returns-then-not-are_taken : goal.returns-then-not-are_taken
unfolding coarse_outcome
returns-then-not-are_taken c =
    let a = c.args in
    let target = le-leb a.setting 1 (omega arith) in
    let long = eq-eqb (length a.fine.now) 112 (omega arith) in
    let room = le-leb (band_count a.setting) (length a.out.now) (omega (arith, counted c.args.setting (omega arith))) in
    let over : totals_taken a.fine.now ≡ false = sym c.are_taken.ensures ∙ not-true _ c.if-not-are_taken.true-raw in
    simp (target, long, room, over)

pub put_totals-requires : goal.put_totals-requires
put_totals-requires c =
    let taken = sym c.are_taken.ensures ∙ not-false _ c.if-not-are_taken.false-raw in
    record { setting_bound = omega arith; fine_len = (omega arith, taken); setting_in_bounds = omega (arith, counted c.args.setting (omega arith)) }

pub returns : goal.returns
unfolding coarse_outcome
returns c =
    let a = c.args in
    let target = le-leb a.setting 1 (omega arith) in
    let long = eq-eqb (length a.fine.now) 112 (omega arith) in
    let room = le-leb (band_count a.setting) (length a.out.now) (omega (arith, counted c.args.setting (omega arith))) in
    let taken : totals_taken a.fine.now ≡ true =
    sym c.are_taken.ensures ∙ not-false _ c.if-not-are_taken.false-raw
    in
    simp (target, long, room, taken)
    (ap₂ (λ (n : ℕ) (l : List ℕ). record { answer = given n; buffer = l }) (counted c.args.setting (omega arith)) c.put_totals.ensures)
