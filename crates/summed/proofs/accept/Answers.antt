-- `summed::accept` meets its contract: after the eighth component the codes are written and the totals are 0. Assumes nothing.
use Rattle.std.proofs.Common.{◌≡◌, ℕ, List, length, ap, ap₂, ◌∙◌, arith, replicate, le-ltb}
use Rattle.lists.specs.Tables.{overwrite}
use Rattle.refusal.specs.Outcome.{given}
use Rattle.summed.specs.Totals.{no_totals, code_bytes}
use Rattle.summed.specs.Call.{moved_to}
use Rattle.summed.proofs.accept.Goals as goal

pub returns : goal.returns
unfolding no_totals
returns c =
    let a = c.args in
    let long : length c.add_to_runs.new.totals ≡ 2048 = omega (arith, c.add_to_runs.auto.totals, c.requires.ready.totals-length) in
    simp (le-ltb a.state.next 7 (omega arith))
    (ap₂ (λ (totals out : List ℕ). record { answer = given 4096; state = moved_to 0 a.state; totals = totals; out = out })
    (c.fill.ensures.after (λ y e. e) ∙ ap (λ (n : ℕ). replicate n 0) long)
    (c.put_codes.ensures ∙ ap (λ (sums : List ℕ). overwrite (code_bytes sums) a.out.now) c.add_to_runs.ensures))
