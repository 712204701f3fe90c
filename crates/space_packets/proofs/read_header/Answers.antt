-- `space_packets::read_header` meets its contract: the tests and the words of a set pick the case of the rule. Assumes nothing.
use Prim.Native.Nat.{ℕ, ◌-◌, ◌<◌}
use mathlib.Core.Path.{◌≡◌, refl, sym, ap, ◌∙◌}
use mathlib.Core.List.{List}
use native.Mathlib.Omega.{arith}
use borrow.Author.Tests.{lt-ltb, le-ltb}
use lib.ListN.{length}
use Rattle.std.proofs.lemmas.Result.{err_from_is_err_and}
use Rattle.refusal.specs.Number.{number_of}
use Rattle.refusal.specs.Outcome.{Outcome, given, refused}
use Rattle.words.specs.Words.{set_size}
use Rattle.space_packets.specs.declared.Primary.{Primary}
use Rattle.space_packets.specs.Packet.{primary_in}
use Rattle.space_packets.specs.Calls.{header_taken, header_found}
use Rattle.space_packets.proofs.Headers.{set-sizes-fit, set-over}
use Rattle.space_packets.proofs.read_header.Goals as goal

pub returns-then-packet-lt-HEADER : goal.returns-then-packet-lt-HEADER
unfolding header_found
returns-then-packet-lt-HEADER c = simp (lt-ltb (length c.args.packet.now) 6 (omega arith)) refl

-- the words of a set by the APID of the packet, which is a byte
words-by : (packet : List ℕ) {p : Primary} {apid : ℕ} {o : Outcome ℕ} → o ≡ set_size apid → apid ≡ p.apid → p ≡ primary_in packet → set_size (primary_in packet).apid ≡ o
words-by packet e same read = sym (e ∙ ap set_size same ∙ ap (λ (p : Primary). set_size p.apid) read)

pub returns-in_default : goal.returns-in_default
unfolding header_found
returns-in_default c =
    let packet = c.args.packet.now in
    let big : 255 < c.primary_in-primary.result.apid = omega (arith, c.in_default.ensures) in
    let over : set_size (primary_in packet).apid ≡ refused 4 =
    set-over (primary_in packet).apid (omega (arith, big, ap (λ (p : Primary). p.apid) c.primary_in-primary.ensures)) in
    simp (le-ltb (length packet) 6 (omega arith), over) refl

pub returns-in_err-words : goal.returns-in_err-words
unfolding header_found
returns-in_err-words c =
    let packet = c.args.packet.now in
    let p = err_from_is_err_and c.from_residual.result c.from_residual.ensures.1 in
    let other : set_size (primary_in packet).apid ≡ refused (number_of c.in_err-words.field-0.0) =
    words-by c.args.packet.now c.in_err-words.ensures c.in-Ok.ensures.1 c.primary_in-primary.ensures in
    simp (le-ltb (length packet) 6 (omega arith), other) (rw (p.1, p.2) refl)

pub take_header-requires : goal.take_header-requires
take_header-requires c =
    set-sizes-fit _ _ (words-by c.args.packet.now c.in_ok-words.ensures c.in-Ok.ensures.1 c.primary_in-primary.ensures)

pub returns : goal.returns
unfolding header_found
returns c =
    let packet = c.args.packet.now in
    let words : set_size (primary_in packet).apid ≡ given c.in_ok-words.words =
    words-by c.args.packet.now c.in_ok-words.ensures c.in-Ok.ensures.1 c.primary_in-primary.ensures in
    simp (le-ltb (length packet) 6 (omega arith), words)
    (c.take_header.ensures
    ∙ ap (λ (p : Primary). header_taken c.in_ok-words.words p (length packet - 6)) c.primary_in-primary.ensures)
