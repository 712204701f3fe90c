-- `space_packets::most_samples` meets its contract: whole sets of those that fit; two arms know the words. Assumes nothing.
use mathlib.Core.Path.{refl, sym, ap}
use native.Mathlib.Omega.{arith}
use Rattle.space_packets.specs.Packet.{most_samples}
use Rattle.space_packets.proofs.Packets.{most-of}
use Rattle.space_packets.proofs.most_samples.Goals as goal

pub overflow_mul-result-in_default-2 : goal.overflow_mul-result-in_default-2
unfolding most_samples
overflow_mul-result-in_default-2 c = omega (arith, (most-of c.args.words c.requires.0 c.requires.1).fits)

pub returns-in-3 : goal.returns-in-3
unfolding most_samples
returns-in-3 c = ap most_samples (sym c.in-3.is)

pub returns-in-7 : goal.returns-in-7
unfolding most_samples
returns-in-7 c = ap most_samples (sym c.in-7.is)

pub returns-in_default : goal.returns-in_default
unfolding most_samples
returns-in_default c = refl
