-- `sets::put_samples` meets its contract. Assumes nothing.
use Rattle.std.specs.Prelude.{◌≡◌, ◌+◌, ◌++◌, [], ◌∷◌, set, drop}
use Rattle.std.proofs.Common.{refl, ap, ◌∙◌, arith, length-set}
use mir.Syntax.{w16}
use mir.Val.{SFits, of_z, to_z}
use mir.ValLaws.{to_z-of_z}
use Rattle.lists.proofs.Overwriting.{front-more}
use Rattle.words.specs.Sample.{sample_of}
use Rattle.sets.specs.Sets.{samples_of}
use Rattle.sets.proofs.Laws.{sample_at, samples-length, samples-more}
use Rattle.sets.proofs.put_samples.Goals as goal

pub loop-i-init : goal.loop-i-init
unfolding samples_of
loop-i-init c = (refl, refl)

pub loop-i-preserved : goal.loop-i-preserved
loop-i-preserved c =
    let a = c.args in
    let l = c.loop-i in
    let read : c.sample_of.result ≡ sample_at a.bytes.now l.i = c.sample_of.ensures ∙ ap sample_of c.pair.ensures in
    let fit : SFits w16 c.sample_of.result = record { sfits = c.sample_of.type_inv } in
    let put : set l.samples l.i (to_z w16 (of_z w16 c.sample_of.result)) ≡ samples_of (l.i + 1) a.bytes.now ++ drop (l.i + 1) a.samples.now =
    rw (to_z-of_z w16 c.sample_of.result fit, read, l.invariant.1, samples-more)
    (front-more (samples_of l.i a.bytes.now) (sample_at a.bytes.now l.i ∷ []) a.samples.now l.i (samples-length l.i a.bytes.now) (omega arith)) in
    (simp length-set l.invariant.0, put)
