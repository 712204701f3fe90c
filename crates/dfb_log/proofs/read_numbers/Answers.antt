-- `dfb_log::read_numbers` meets its contract: each answer of the read is a case of the rule. Assumes nothing.
use Rattle.std.proofs.lemmas.Result.{err_from_is_err_and}
use Rattle.dfb_log.specs.Read.{record_read}
use Rattle.dfb_log.proofs.read_numbers.Goals as goal

pub returns-in_err-entry : goal.returns-in_err-entry
unfolding record_read
returns-in_err-entry c =
    let p = err_from_is_err_and c.from_residual.result c.from_residual.ensures.1 in
    rw (p.1, p.2, ← c.in_err-entry.ensures)

pub returns-in-Some : goal.returns-in-Some
unfolding record_read
returns-in-Some c = rw (← c.in_ok-entry.ensures, c.in-Some.is) (rw c.numbers_of.ensures at c.put_numbers.ensures)

pub returns-in-None : goal.returns-in-None
unfolding record_read
returns-in-None c = rw (← c.in_ok-entry.ensures, c.in-None.is) c.put_numbers-in-None.ensures
