use Rattle.std.proofs.Common.{arith, ◌≡◌, ℕ, ◌-◌, refl, sym, ap, ◌∙◌, length}
use borrow.Author.Tests.{lt-ltb, le-ltb}
use mathlib.Core.Path.{subst}
use Rattle.lists.proofs.Best.{Best, best_none, best-more, best-same}
use Rattle.bursts.specs.Slots.{slot_state_of}
use Rattle.bursts.specs.Searches.{listed, slot_below, smallest_below}
use Rattle.bursts.proofs.Arms.{not-held-under}
use Rattle.bursts.proofs.Finding.{under, smallest-found}
use Rattle.bursts.proofs.smallest_below.Goals as goal
use Rattle.bursts.proofs.smallest_below.Goals.{in-Held+then-criterion-least, in-Held+else-criterion-least, in_default}

pub loop-i-init : goal.loop-i-init
loop-i-init c =
    let n = length c.args.slots.now in
    (n, omega arith, simp (le-ltb n n (omega arith)), subst (Best n _ 0 n) (omega arith) (best_none n _))

pub loop-i-preserved : goal.loop-i-preserved
loop-i-preserved c =
    let l = c.loop-i in
    let x = c.args.limit in
    let s = listed c.args.slots.now in
    let n = length c.args.slots.now in
    let (p, few, place, best) = l.invariant in
    let value : ℕ → ℕ = λ j. under x (slot_state_of s j) in
    elim c.match-slot.branch [
      | in-Held+then-criterion-least w ↦
          let e : value l.i ≡ _ = ap (under x) w.in-Held.is in (
            l.i,
            omega (arith, w.least-is),
            w.place-is ∙ sym (simp (lt-ltb l.i n (omega arith))),
            best-more n value l.i p (x - l.least) best refl (ap (λ (m : ℕ). x - m) w.least-is ∙ sym e) (omega (arith, e)),
          )
      | in-Held+else-criterion-least w ↦
          let e : value l.i ≡ _ = ap (under x) w.in-Held.is in
          (p, omega (arith, w.least-is), w.place-is ∙ place, best-same n value l.i p (x - l.least) best refl (ap (λ (m : ℕ). x - m) w.least-is) (omega (arith, e)))
      | in_default w ↦
          (p, omega (arith, w.least-is), w.place-is ∙ place, best-same n value l.i p (x - l.least) best refl (ap (λ (m : ℕ). x - m) w.least-is) (omega (arith, not-held-under x (slot_state_of s l.i) w.in_default.not-Held)))
    ]

pub returns : goal.returns
unfolding smallest_below
returns c =
    let l = c.loop-i in
    let s = listed c.args.slots.now in
    let n = length c.args.slots.now in
    let all : l.i ≡ n = omega arith in
    let (p, few, place, best) = l.invariant in
    place ∙ ap (slot_below n) (sym (smallest-found s c.args.limit p (c.args.limit - l.least) (rw all at best)))
