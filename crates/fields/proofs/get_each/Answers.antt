-- `fields::get_each` meets its contract. The loop: the samples so far are written. Assumes nothing.
use Prim.Native.Nat.{ℕ, ◌+◌, ◌*◌}
use mathlib.Core.Path.{◌≡◌, refl, ap, ◌∙◌}
use mathlib.Core.List.{List}
use native.Mathlib.Omega.{arith}
use lib.IntN.{ℤ, pos}
use lib.ListN.{get_or, length-set}
use mir.Syntax.{w16}
use mir.Val.{SFits, of_z, to_z}
use mir.ValLaws.{to_z-of_z}
use Rattle.lists.specs.Tables.{tabulate, overwrite}
use Rattle.lists.proofs.Overwriting.{table_none, table_more}
use Rattle.words.specs.Sample.{sample_of}
use Rattle.words.specs.Words.{pair_at}
use Rattle.fields.specs.Samples.{samples_at}
use Rattle.fields.specs.Private.{exchanged_bits}
use Rattle.fields.proofs.Samples.{exchanged-pair}
use Rattle.fields.proofs.get_each.Goals as goal

-- sample i
abbrev sample_at : List ℕ → ℕ → ℤ
sample_at bytes i = sample_of (pair_at bytes (0 + 2 * i))

pub loop-i-init : goal.loop-i-init
loop-i-init c = (omega arith, c.requires.0, c.requires.1, refl, table_none _ _)

pub loop-i-preserved : goal.loop-i-preserved
loop-i-preserved c =
    let known = c.before.before.before.before.before in
    let a = known.args in
    let l = c.loop-i in
    let z = c.sample_of.result in
    let fit : SFits w16 z = record { sfits = c.sample_of.type_inv } in
    let place : 0 + 2 * l.i ≡ 2 * l.i = omega arith in
    let bits : c.exchanged.result ≡ pair_at a.bytes.now (2 * l.i) =
    c.exchanged.ensures ∙ ap exchanged_bits c.low_first_at.ensures
    ∙ exchanged-pair (get_or a.bytes.now (2 * l.i) 0) (get_or a.bytes.now (2 * l.i + 1) 0) (known.shared_slice_known-1.given (2 * l.i)).fits (known.shared_slice_known-1.given (2 * l.i + 1)).fits in
    let read : to_z w16 (of_z w16 z) ≡ sample_at a.bytes.now l.i =
    to_z-of_z w16 z fit ∙ c.sample_of.ensures ∙ ap sample_of (bits ∙ ap (pair_at a.bytes.now) (omega (arith, place))) in
    (omega arith, l.invariant.1, l.invariant.2, simp length-set l.invariant.3, table_more (sample_at a.bytes.now) a.samples.now l.i _ (pos 0) l.samples l.invariant.4 (omega arith) read)

pub returns : goal.returns
unfolding samples_at
returns c =
    let a = c.args in
    let l = c.loop-i in
    let e : l.i ≡ a.n = omega arith in
    l.invariant.4 ∙ ap (λ (m : ℕ). overwrite (tabulate m (sample_at a.bytes.now)) a.samples.now) e
