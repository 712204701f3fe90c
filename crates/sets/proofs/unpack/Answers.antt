-- `sets::unpack` meets its contract: the set's size picks the case of `unpack_sized`. Assumes nothing.
use Rattle.std.proofs.Common.{sym, ap, ◌∙◌}
use Rattle.std.proofs.lemmas.Result.{err_from_is_err_and}
use Rattle.sets.specs.Sets.{unpack_sized, unpack_outcome}
use Rattle.words.proofs.Laws.{size-range}
use Rattle.sets.proofs.unpack.Goals as goal

pub returns-in_err-set_words : goal.returns-in_err-set_words
unfolding unpack_outcome
returns-in_err-set_words c =
    let a = c.args in
    let p = err_from_is_err_and c.from_residual.result c.from_residual.ensures.1 in
    rw (p.1, p.2) (ap (unpack_sized a.apid a.bytes.now a.samples.now) c.in_err-set_words.ensures)

pub unpack_set-requires : goal.unpack_set-requires
unpack_set-requires c = (size-range _ _ (sym c.in_ok-set_words.ensures)).1

pub returns : goal.returns
unfolding unpack_outcome
returns c =
    let a = c.args in
    c.unpack_set.ensures ∙ ap (unpack_sized a.apid a.bytes.now a.samples.now) c.in_ok-set_words.ensures
