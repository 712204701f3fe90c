-- `space_packets::export_sets` meets its contract: the tests pick the case of the rule. Assumes nothing.
use Prim.Native.Nat.{ℕ, ◌+◌, ◌*◌, ◌%◌}
use mathlib.Core.Path.{◌≡◌, sym, ap, ap₂, ◌∙◌}
use mathlib.Core.Bool.{true, false}
use mathlib.Core.List.{List}
use native.Mathlib.Omega.{arith}
use borrow.Author.Tests.{ltb-true, lt-ltb, le-ltb, leb-true, leb-false}
use lib.Dec.{ltb, eqb}
use lib.ListN.{length}
use Rattle.lists.specs.Tables.{overwrite}
use Rattle.lists.proofs.Choices.{both}
use Rattle.refusal.specs.Outcome.{given}
use Rattle.space_packets.specs.Packet.{most_samples, packet_count, count_of, packets_bytes, packets_length}
use Rattle.space_packets.specs.declared.Export.{Export}
use Rattle.space_packets.specs.Calls.{are_sets, sets_exported}
use Rattle.space_packets.proofs.Packets.{most-of}
use Rattle.space_packets.proofs.export_sets.Goals as goal

pub returns-then-first-gt-LAST_COUNT : goal.returns-then-first-gt-LAST_COUNT
unfolding sets_exported
returns-then-first-gt-LAST_COUNT c = simp (lt-ltb 16383 c.args.first (omega arith))

pub returns-then-not-are_sets : goal.returns-then-not-are_sets
unfolding sets_exported
returns-then-not-are_sets c =
    let a = c.args in
    let none : are_sets a.words (length a.samples.now) ≡ false = sym c.are_sets.ensures ∙ c.if-not-are_sets.true in
    simp (le-ltb 16383 a.first (omega arith), none)

pub packet_count-packets-requires : goal.packet_count-packets-requires
packet_count-packets-requires c =
    let a = c.args in
    let most = most-of a.words c.requires.0 c.requires.1 in
    let n = length a.samples.now in
    let sets = sym c.are_sets.ensures ∙ c.if-not-are_sets.false in
    (ltb-true 0 n (both (ltb 0 n) (eqb (n % a.words) 0) sets).0, omega (arith, c.most_samples-most.ensures, most.some))

pub returns-then-not-has_room : goal.returns-then-not-has_room
unfolding sets_exported
returns-then-not-has_room c =
    let a = c.args in
    let n = length a.samples.now in
    let sets : are_sets a.words n ≡ true = sym c.are_sets.ensures ∙ c.if-not-are_sets.false in
    let packets-are : c.packet_count-packets.result ≡ packet_count n (most_samples a.words) = c.packet_count-packets.ensures ∙ ap (packet_count n) c.most_samples-most.ensures in
    let room = leb-false (6 * c.packet_count-packets.result + 2 * n) (length a.out.now) (sym c.has_room.ensures ∙ c.if-not-has_room.true) in
    let short : ltb (length a.out.now) (packets_length n (most_samples a.words)) ≡ true =
    lt-ltb (length a.out.now) (packets_length n (most_samples a.words)) (omega (arith, room, packets-are)) in
    simp (le-ltb 16383 a.first (omega arith), sets, short)

pub put_packets-next-requires : goal.put_packets-next-requires
put_packets-next-requires c =
    let a = c.args in
    let most = most-of a.words c.requires.0 c.requires.1 in
    let fits = leb-true (6 * c.packet_count-packets.result + 2 * length a.samples.now) (length a.out.now) (sym c.has_room.ensures ∙ c.if-not-has_room.false) in
    (omega arith, omega (arith, most.some, c.most_samples-most.ensures), omega (arith, most.fits, c.most_samples-most.ensures), c.packet_count-packets.ensures, omega (arith, fits, c.packet_count-packets.ensures))

pub returns : goal.returns
unfolding sets_exported
returns c =
    let a = c.args in
    let n = length a.samples.now in
    let done = c.put_packets-next.ensures in
    let sets : are_sets a.words n ≡ true = sym c.are_sets.ensures ∙ c.if-not-are_sets.false in
    let packets-are : c.packet_count-packets.result ≡ packet_count n (most_samples a.words) = c.packet_count-packets.ensures ∙ ap (packet_count n) c.most_samples-most.ensures in
    let fits = leb-true (6 * c.packet_count-packets.result + 2 * n) (length a.out.now) (sym c.has_room.ensures ∙ c.if-not-has_room.false) in
    let room : ltb (length a.out.now) (packets_length n (most_samples a.words)) ≡ false =
    le-ltb (length a.out.now) (packets_length n (most_samples a.words)) (omega (arith, fits, packets-are)) in
    let bytes : 6 * c.packet_count-packets.result + 2 * n ≡ packets_length n (most_samples a.words) = omega (arith, packets-are) in
    let next : c.put_packets-next.result ≡ count_of a.first (packet_count n (most_samples a.words)) = done.0 ∙ ap (count_of a.first) packets-are in
    let written = done.1 ∙ ap (λ (m : ℕ). overwrite (packets_bytes a.apid a.first m a.samples.now) a.out.now) c.most_samples-most.ensures in
    simp (le-ltb 16383 a.first (omega arith), sets, room)
    (ap₂ (λ (s : Export) (l : List ℕ). record { answer = given s; out = l }) (ap₂ (λ (b m : ℕ). record { bytes = b; next = m }) bytes next) written)
