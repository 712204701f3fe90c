-- Packets by computation. Assumes nothing.
use mathlib.Core.Path.{refl}
use Rattle.lists.specs.Tables.{concat_to}
use Rattle.words.specs.Words.{set_size}
use Rattle.fields.specs.Samples.{sample_bytes}
use Rattle.space_packets.specs.Packet.{primary_bytes, primary_in, packet_bytes, most_samples}
use Rattle.space_packets.specs.Calls.{header_taken, header_found, sets_exported, packets_exported}
use Rattle.space_packets.specs.Claims.{SixBytes, WorkedHeaders, WorkedPacket, WorkedMost, WorkedImports, WorkedExports}

pub six-bytes : SixBytes
six-bytes = refl

pub worked-headers : WorkedHeaders
unfolding primary_bytes
worked-headers = refl

pub worked-packet : WorkedPacket
unfolding packet_bytes primary_bytes sample_bytes concat_to
worked-packet = refl

pub worked-most : WorkedMost
unfolding most_samples
worked-most = refl

pub worked-imports : WorkedImports
unfolding header_found header_taken primary_in set_size
worked-imports = refl

pub worked-exports : WorkedExports
unfolding packets_exported sets_exported set_size most_samples
worked-exports = refl
