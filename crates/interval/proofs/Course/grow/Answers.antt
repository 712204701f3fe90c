use Rattle.std.proofs.Common.{arith, ◌≡◌, ◌<◌, ℕ, false, List, refl, sym, ap, ◌∙◌, length}
use mathlib.Core.Path.{subst}
use Rattle.interval.specs.declared.Growing.{Growing}
use Rattle.interval.specs.Interval.{growing, try_older, try_newer, grown}
use Rattle.interval.proofs.Growth.{Fine, older-fine, grown-fine, grown-next, grown-stop}
use Rattle.interval.proofs.Course.grow.Goals as goal

-- what holds of the interval after so many turns, and after the older side's turn
module _ (index : List ℕ) (bonus limit start : ℕ) (l : start < length index) (h : 0 < limit) (turn : ℕ) (g : Growing) (e : g ≡ grown index bonus limit start turn) where
  fine : Fine index bonus limit start g
  fine = subst (Fine index bonus limit start) (sym e) (grown-fine index bonus limit start l h turn)

  tried : (g' : Growing) → g' ≡ try_older index bonus limit start g → Fine index bonus limit start g'
  tried g' e' = subst (Fine index bonus limit start) (sym e') (older-fine index bonus limit start g fine)

pub loop-turn-init : goal.loop-turn-init
unfolding grown
loop-turn-init c = refl

pub is_growing-requires-clause-first_le_last : goal.is_growing-requires-clause-first_le_last
is_growing-requires-clause-first_le_last c =
    let s = c.args.self.now in
    let f = fine s.index.now s.bonus s.limit s.start s.start_in_bounds c.requires.limit_nonzero c.loop-turn.turn c.loop-turn.g c.loop-turn.invariant in
    omega (arith, f.begins, f.ends)

pub is_growing-requires-clause-last_bound : goal.is_growing-requires-clause-last_bound
is_growing-requires-clause-last_bound c =
    let s = c.args.self.now in
    let f = fine s.index.now s.bonus s.limit s.start s.start_in_bounds c.requires.limit_nonzero c.loop-turn.turn c.loop-turn.g c.loop-turn.invariant in
    omega (arith, f.inside, s.index_len_bound)

pub try_older-requires-clause-first_le_last : goal.try_older-requires-clause-first_le_last
try_older-requires-clause-first_le_last c =
    let s = c.args.self.now in
    let f = fine s.index.now s.bonus s.limit s.start s.start_in_bounds c.requires.limit_nonzero c.loop-turn.turn c.loop-turn.g c.loop-turn.invariant in
    omega (arith, f.begins, f.ends)

pub try_older-requires-clause-last_bound : goal.try_older-requires-clause-last_bound
try_older-requires-clause-last_bound c =
    let s = c.args.self.now in
    (fine s.index.now s.bonus s.limit s.start s.start_in_bounds c.requires.limit_nonzero c.loop-turn.turn c.loop-turn.g c.loop-turn.invariant).inside

pub try_newer-requires-clause-first_le_last : goal.try_newer-requires-clause-first_le_last
try_newer-requires-clause-first_le_last c =
    let s = c.args.self.now in
    let f = tried s.index.now s.bonus s.limit s.start s.start_in_bounds c.requires.limit_nonzero c.loop-turn.turn c.loop-turn.g c.loop-turn.invariant c.try_older.new.g c.try_older.ensures in
    omega (arith, f.begins, f.ends)

pub try_newer-requires-clause-last_bound : goal.try_newer-requires-clause-last_bound
try_newer-requires-clause-last_bound c =
    let s = c.args.self.now in
    (tried s.index.now s.bonus s.limit s.start s.start_in_bounds c.requires.limit_nonzero c.loop-turn.turn c.loop-turn.g c.loop-turn.invariant c.try_older.new.g c.try_older.ensures).inside

pub loop-turn-preserved : goal.loop-turn-preserved
loop-turn-preserved c =
    let s = c.args.self.now in
    let l = c.loop-turn in
    c.try_newer.ensures
    ∙ ap (try_newer s.index.now s.bonus s.limit s.start) (c.try_older.ensures ∙ ap (try_older s.index.now s.bonus s.limit s.start) l.invariant)
    ∙ sym (grown-next s.index.now s.bonus s.limit s.start l.turn)

pub returns-after-loop-turn : goal.returns-after-loop-turn
returns-after-loop-turn c =
    let s = c.args.self.now in
    let l = c.loop-turn in
    let e : l.turn ≡ length s.index.now = omega arith in
    l.invariant ∙ ap (grown s.index.now s.bonus s.limit s.start) e

-- it may stop early, since it then rests
pub returns-then-not-is_growing : goal.returns-then-not-is_growing
returns-then-not-is_growing c =
    let s = c.args.self.now in
    let l = c.loop-turn in
    let rests : growing s.limit l.g ≡ false = sym c.is_growing.ensures ∙ c.if-not-is_growing.true in
    l.invariant
    ∙ sym
    (grown-stop s.index.now s.bonus s.limit s.start l.turn (length s.index.now) (omega arith)
    (subst (λ (g : Growing). growing s.limit g ≡ false) l.invariant rests))
