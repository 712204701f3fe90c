-- The loop of `every_apid`: each word passed has the APID.
use Rattle.std.specs.Prelude.{◌≡◌, true}
use Rattle.sets.specs.Sets.{every_apid}
use Rattle.sets.proofs.every_apid.Given as goal

abbrev pub invariant-loop-i : goal.invariant-loop-i
invariant-loop-i l = every_apid l.apid l.i l.bytes ≡ true
