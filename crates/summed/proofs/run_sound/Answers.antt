-- `summed::run_sound` meets its contract. The loop: the bits so far are without the highest exactly if the totals so far are within. Assumes
-- nothing.
use Rattle.std.proofs.Common.{◌≡◌, ℕ, ◌^◌, ◌<◌, leb, get_or, sym, refl, ◌∙◌, ap₂, arith, rules}
use Rattle.lists.specs.Sums.{all_to}
use Rattle.lists.proofs.Sums.{all_to-none}
use Rattle.summed.specs.Totals.{run_sound}
use Rattle.summed.proofs.Laws.{counted-le, bits-more}
use Rattle.summed.proofs.run_sound.Goals as goal

pub loop-k-init : goal.loop-k-init
loop-k-init c = (search rules, refl, sym (all_to-none _))

pub loop-k-preserved : goal.loop-k-preserved
loop-k-preserved c =
    let a = c.args in
    let l = c.loop-k in
    let most : c.greatest-most.result < 2 ^ 63 = omega (arith, c.greatest-most.ensures, counted-le a.mask a.n) in
    let total : get_or a.run.now l.k 0 < 2 ^ 64 = search rules in
    (search rules, search rules, bits-more a.run.now c.greatest-most.result l.bits l.k _ most total (search rules) (omega (arith, most, total)) l.invariant.2)

pub returns : goal.returns
unfolding run_sound
returns c =
    let a = c.args in
    let e : c.loop-k.k ≡ 1024 = omega arith in
    c.loop-k.invariant.2
    ∙ ap₂ (λ (k most : ℕ). all_to k (λ j. leb (get_or a.run.now j 0) most)) e c.greatest-most.ensures
