-- `dfb_log::append_numbers` meets its contract: the kind and the record pick the case of the rule. Assumes nothing.
use Rattle.std.proofs.lemmas.Result.{err_from_is_err_and}
use Rattle.refusal.proofs.Outcomes.{given-of, refused-of}
use Rattle.board_log.specs.Format.{is_kind, kind_byte}
use Rattle.dfb_log.proofs.Append.{append-other, append-of}
use Rattle.dfb_log.proofs.append_numbers.Goals as goal

pub returns-in_err-kind : goal.returns-in_err-kind
returns-in_err-kind c =
    let a = c.args in
    let p = err_from_is_err_and c.from_residual.result c.from_residual.ensures.1 in
    let no = refused-of (is_kind a.kind) a.kind 9 _ c.in_err-kind.ensures in
    rw (p.1, p.2, no.1) (append-other a.log.now a.used a.kind a.a a.b no.0)

pub returns-in_err-rec : goal.returns-in_err-rec
returns-in_err-rec c =
    let a = c.args in
    let p = err_from_is_err_and c.from_residual-in_err-rec.result c.from_residual-in_err-rec.ensures.1 in
    let is = given-of (is_kind a.kind) a.kind (kind_byte c.in_ok-kind.kind) 9 c.in_ok-kind.ensures in
    rw (p.1, p.2) (append-of a.log.now a.used a.kind a.a a.b _ _ is.0 is.1 c.in_err-rec.ensures)

pub returns : goal.returns
returns c =
    let a = c.args in
    let is = given-of (is_kind a.kind) a.kind (kind_byte c.in_ok-kind.kind) 9 c.in_ok-kind.ensures in
    rw c.append.ensures (append-of a.log.now a.used a.kind a.a a.b _ _ is.0 is.1 c.in_ok-rec.ensures)
