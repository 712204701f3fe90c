use Rattle.std.proofs.Common.{rules, arith, ◌≡◌, ℕ, sym, ap, ◌∙◌, option_map, length}
use Rattle.lists.proofs.Best.{best_none, best-more, best-same}
use Rattle.bursts.specs.Slots.{slot_state_of}
use Rattle.bursts.specs.Searches.{listed, slot_below}
use Rattle.bursts.proofs.Arms.{not-held}
use Rattle.bursts.proofs.Finding.{worth, place_of, top_of, greatest-found, greatest-place}
use Rattle.bursts.proofs.greatest_held.Goals as goal
use Rattle.bursts.proofs.greatest_held.Goals.{in-Held+in-Some, in-Held+in_default-greatest-2, in-Held+in_default-greatest, in_default}

pub loop-i-init : goal.loop-i-init
loop-i-init c = best_none _ _

pub loop-i-preserved : goal.loop-i-preserved
loop-i-preserved c =
    let l = c.loop-i in
    let s = listed c.args.slots.now in
    let n = length c.args.slots.now in
    let value : ℕ → ℕ = λ j. worth (slot_state_of s j) in
    elim c.match-slot.branch [
      | in-Held+in-Some w ↦
          let e : value l.i ≡ _ = ap worth w.in-Held.is in
          let top = ap top_of w.in-Some.is in
          best-same n value l.i (place_of n l.greatest) (top_of l.greatest) l.invariant (ap (place_of n) w.greatest-is) (ap top_of w.greatest-is) (omega (arith, e, top))
      | in-Held+in_default-greatest-2 w ↦
          let e : value l.i ≡ _ = ap worth w.in-Held.is in
          let top = ap top_of w.in-Some.is in
          best-more n value l.i (place_of n l.greatest) (top_of l.greatest) l.invariant (ap (place_of n) w.greatest-is) (ap top_of w.greatest-is ∙ sym e) (omega (arith, e, top))
      | in-Held+in_default-greatest w ↦
          let e : value l.i ≡ _ = ap worth w.in-Held.is in
          let top = ap top_of w.in_default-greatest.is in
          best-more n value l.i (place_of n l.greatest) (top_of l.greatest) l.invariant (ap (place_of n) w.greatest-is) (ap top_of w.greatest-is ∙ sym e) (omega (arith, e, top))
      | in_default w ↦
          best-same n value l.i (place_of n l.greatest) (top_of l.greatest) l.invariant (ap (place_of n) w.greatest-is) (ap top_of w.greatest-is) (omega (arith, not-held (slot_state_of s l.i) w.in_default.not-Held))
    ]

pub returns : goal.returns
returns c =
    let l = c.loop-i in
    let s = listed c.args.slots.now in
    let n = length c.args.slots.now in
    let all : l.i ≡ n = omega arith in
    let best = rw all at l.invariant in
    let e : c.map.result ≡ option_map (λ q. q.0) l.greatest = search rules in
    e ∙ greatest-place n l.greatest (λ h. (best.here h).0) ∙ ap (slot_below n) (sym (greatest-found s (place_of n l.greatest) (top_of l.greatest) best))
