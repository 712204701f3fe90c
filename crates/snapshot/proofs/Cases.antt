-- Packets by computation. Assumes nothing.
use mathlib.Core.Path.{refl}
use Rattle.lists.specs.Sums.{sum_to}
use Rattle.lists.specs.Tables.{concat_to}
use Rattle.fields.specs.Samples.{sample_bytes}
use Rattle.snapshot.specs.Packet.{header_bytes, packet_bytes, header_in, components}
use Rattle.snapshot.specs.Calls.{header_found, packet_written}
use Rattle.snapshot.specs.Claims.{WorkedCounts, WorkedPacket, WorkedRefusals, WorkedWritings}

pub worked-packet : WorkedPacket
unfolding packet_bytes header_bytes sample_bytes concat_to
worked-packet = refl

pub worked-counts : WorkedCounts
unfolding components sum_to
worked-counts = refl

pub worked-refusals : WorkedRefusals
unfolding header_found header_in components sum_to
worked-refusals = refl

pub worked-writings : WorkedWritings
unfolding packet_written components sum_to
worked-writings = refl
