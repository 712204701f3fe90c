-- `dfb_space_packets::store` meets its contract: two stores leave the header's numbers. Assumes nothing.
use lib.Seq.{sets-eq}
use Rattle.dfb_space_packets.specs.Calls.{header_numbers}
use Rattle.dfb_space_packets.proofs.store.Goals as goal

pub returns : goal.returns
returns c = sets-eq (header_numbers c.args.from) c.args.header.now 0 c.requires
