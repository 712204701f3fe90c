-- `space_packets::export_packets` meets its contract: the words of a set pick the case of the rule. Assumes nothing.
use Prim.Native.Nat.{ℕ}
use mathlib.Core.Path.{sym, ap, ◌∙◌}
use Rattle.std.proofs.lemmas.Result.{err_from_is_err_and}
use Rattle.refusal.specs.Outcome.{Outcome}
use Rattle.space_packets.specs.Calls.{exported_sets, packets_exported}
use Rattle.space_packets.proofs.Headers.{set-sizes-fit}
use Rattle.space_packets.proofs.export_packets.Goals as goal

pub returns-in_err-words : goal.returns-in_err-words
unfolding packets_exported
returns-in_err-words c =
    let a = c.args in
    let p = err_from_is_err_and c.from_residual.result c.from_residual.ensures.1 in
    rw (p.1, p.2) (ap (λ (o : Outcome ℕ). exported_sets o a.apid a.first a.samples.now a.out.now) c.in_err-words.ensures)

pub export_sets-requires : goal.export_sets-requires
export_sets-requires c = set-sizes-fit c.args.apid _ (sym c.in_ok-words.ensures)

pub returns : goal.returns
unfolding packets_exported
returns c =
    let a = c.args in
    c.export_sets.ensures ∙ ap (λ (o : Outcome ℕ). exported_sets o a.apid a.first a.samples.now a.out.now) c.in_ok-words.ensures
