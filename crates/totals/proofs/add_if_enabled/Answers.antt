-- `totals::add_if_enabled` meets its contract. Assumes nothing.
use Rattle.totals.proofs.add_if_enabled.Goals as goal

pub returns-then-enabled : goal.returns-then-enabled
returns-then-enabled c = rw c.if-enabled.true c.add_row.ensures

pub returns-else-enabled : goal.returns-else-enabled
returns-else-enabled c = rw c.if-enabled.false
