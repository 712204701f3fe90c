-- `sets::put_words` meets its contract. Assumes nothing.
use Rattle.std.specs.Prelude.{◌≡◌, ℕ, ◌+◌, ◌*◌, ◌<◌, ◌++◌, length, take, drop, get_or, pos}
use Rattle.std.proofs.Common.{refl, ap, ◌∙◌, arith}
use lib.Seq.{length-take-le}
use mir.Syntax.{w16}
use mir.Val.{SFits}
use mir.ValLaws.{to_z-of_z}
use Rattle.lists.proofs.Overwriting.{front-more}
use Rattle.words.specs.Sample.{bits_of}
use Rattle.words.specs.Words.{word_bytes}
use Rattle.sets.specs.Sets.{packed_bytes}
use Rattle.sets.proofs.Laws.{packed-length, packed_more}
use Rattle.sets.proofs.put_words.Goals as goal

pub loop-i-init : goal.loop-i-init
unfolding packed_bytes
loop-i-init c = (refl, refl)

pub loop-i-preserved : goal.loop-i-preserved
loop-i-preserved c =
    let a = c.args in
    let l = c.loop-i in
    let h : l.i < length a.samples.now = omega arith in
    let z = get_or a.samples.now l.i (pos 0) in
    let fit : SFits w16 z = record { sfits = c.bits_of-arg-1.given } in
    let long : length (packed_bytes a.apid (take l.i a.samples.now)) ≡ 3 * l.i =
    packed-length a.apid (take l.i a.samples.now) ∙ ap (λ (k : ℕ). 3 * k) (length-take-le l.i a.samples.now (omega arith)) in
    let next : 3 * (l.i + 1) ≡ 3 * l.i + 3 = omega arith in
    let put : c.put_word.new.out ≡ packed_bytes a.apid (take (l.i + 1) a.samples.now) ++ drop (3 * (l.i + 1)) a.out.now =
    rw (c.put_word.ensures, l.invariant.1, c.bits_of.ensures, to_z-of_z w16 z fit, packed_more a.apid a.samples.now l.i h, next)
    (front-more (packed_bytes a.apid (take l.i a.samples.now)) (word_bytes a.apid (bits_of z)) a.out.now (3 * l.i) long (omega arith)) in
    (c.put_word.auto.out ∙ l.invariant.0, put)
