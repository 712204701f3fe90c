-- `space_packets::primary_in` meets its contract: the fields by 16 bits. Assumes nothing.
use Rattle.space_packets.proofs.Headers.{primary-of}
use Rattle.space_packets.proofs.primary_in.Goals as goal

pub returns : goal.returns
returns c =
    primary-of c.args.packet.now _ _ _ c.from_be_bytes-identification.ensures c.from_be_bytes-sequence.ensures c.from_be_bytes.ensures
    c.from_be_bytes-identification.type_inv c.from_be_bytes-sequence.type_inv c.from_be_bytes.type_inv
