-- `sets::pack` meets its contract: the set's size picks the case of `pack_sized`. Assumes nothing.
use Rattle.std.proofs.Common.{sym, ap, ◌∙◌}
use Rattle.std.proofs.lemmas.Result.{err_from_is_err_and}
use Rattle.sets.specs.Sets.{pack_sized, pack_outcome}
use Rattle.words.proofs.Laws.{size-range}
use Rattle.sets.proofs.pack.Goals as goal

pub returns-in_err-set_words : goal.returns-in_err-set_words
unfolding pack_outcome
returns-in_err-set_words c =
    let a = c.args in
    let p = err_from_is_err_and c.from_residual.result c.from_residual.ensures.1 in
    rw (p.1, p.2) (ap (pack_sized a.apid a.samples.now a.out.now) c.in_err-set_words.ensures)

pub pack_set-requires : goal.pack_set-requires
pack_set-requires c = (size-range _ _ (sym c.in_ok-set_words.ensures)).1

pub returns : goal.returns
unfolding pack_outcome
returns c =
    let a = c.args in
    c.pack_set.ensures ∙ ap (pack_sized a.apid a.samples.now a.out.now) c.in_ok-set_words.ensures
