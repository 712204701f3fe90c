-- `limits::are_within` meets its contract: of no spectra every total is 0, and otherwise each row is within the limits. Assumes nothing.
use Rattle.std.proofs.Common.{◌≡◌, ◌∙◌, ◌/◌, ◌+◌, ◌*◌, ◌<◌, ap, sym, ℕ, Bool, List, [], length, get_or, arith, rules}
use borrow.Author.Tests.{tests}
use Rattle.std.specs.List.{list_all, enumerate_from}
use Rattle.std.specs.Simd.{first_chunks}
use Rattle.std.proofs.lemmas.Iterator.{YieldsList-from_slice}
use Rattle.std.proofs.lemmas.Iterator.Consumers.{YieldsList-from_enumerate}
use Rattle.std.proofs.lemmas.Iterator.Search.{all_from_yields_List}
use Rattle.settings.specs.Settings.{bands_of, enabled_of}
use Rattle.registers.specs.declared.Registers.{Registers}
use Rattle.model.specs.Board.{totals_within}
use Rattle.lists.specs.Sums.{all_to}
use Rattle.lists.proofs.Sums.{all_to-ext}
use Rattle.lists.proofs.Overwriting.{part}
use Rattle.std.proofs.lemmas.List.FromFn.{get_or-enumerate_from}
use Rattle.limits.specs.Private.{row_within, slots_within}
use Rattle.limits.proofs.Limiting.{zero-slots, limited-slots, row-slots}
use Rattle.limits.proofs.Folds.{list_all-all_to, chunk-at}
use Rattle.limits.proofs.are_within.Goals as goal

pub returns-then-spectra-eq0 : goal.returns-then-spectra-eq0
returns-then-spectra-eq0 c =
    let a = c.args in
    c.all_zero.ensures ∙ zero-slots a.registers a.totals.now c.requires
    ∙ ap (λ (m : ℕ). totals_within a.registers m a.totals.now) (sym c.if-spectra-eq0.true)

-- a row as `all` is handed it, with its number
row-test : Registers → ℕ → List ℕ → ℕ × List ℕ → Bool
row-test r bands limits q = row_within (enabled_of r q.0) bands limits q.1

-- over all rows
rows-tested : (r : Registers) (bands : ℕ) (limits totals : List ℕ) → length totals ≡ 784 →
    list_all (row-test r bands limits) (enumerate_from 0 (first_chunks 112 (length totals / 112) totals)) ≡ all_to 7 (λ n. row_within (enabled_of r n) bands limits (part totals (n * 112) 112))
unfolding row-test
rows-tested r bands limits totals e =
    let rows = first_chunks 112 7 totals in
    let seven : length totals / 112 ≡ 7 = omega arith in
    let same : (n : ℕ) → n < 7 → get_or (enumerate_from 0 rows) n (0, []) ≡ (n, part totals (n * 112) 112) =
    λ n h. (let z : 0 + n ≡ n = omega arith in rw z at (get_or-enumerate_from 0 rows n (0, []) h)) ∙ ap (λ (row : List ℕ). (n, row)) (chunk-at 112 7 totals n h) in
    ap (λ (k : ℕ). list_all (row-test r bands limits) (enumerate_from 0 (first_chunks 112 k totals))) seven
    ∙ list_all-all_to (row-test r bands limits) (enumerate_from 0 rows) (0, [])
    ∙ all_to-ext 7 _ _ (λ n h. ap (row-test r bands limits) (same n h))

slots-tested : (r : Registers) (limits totals : List ℕ) → all_to 7 (λ n. row_within (enabled_of r n) (bands_of r) limits (part totals (n * 112) 112)) ≡ slots_within r limits totals
unfolding slots_within
slots-tested r limits totals = all_to-ext 7 _ _ (λ n h. row-slots r limits totals n)

pub returns : goal.returns
unfolding row-test
returns c =
    let a = c.args in
    let l = c.of-limits.result in
    all_from_yields_List (row-test a.registers l.bands l.limits) _ _ c.all.result c.all.ensures.ran
    (YieldsList-from_enumerate (YieldsList-from_slice (first_chunks 112 (length a.totals.now / 112) a.totals.now) (cc)) (cc)) (λ x b q k. search (rules, tests))
    ∙ rows-tested a.registers l.bands l.limits a.totals.now c.requires
    ∙ (rw (c.of-limits.ensures.bands_value) (slots-tested a.registers l.limits a.totals.now))
    ∙ limited-slots a.registers a.spectra l.limits a.totals.now c.of-limits.ensures.limits_value
