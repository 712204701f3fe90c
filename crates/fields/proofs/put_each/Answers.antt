-- `fields::put_each` meets its contract. The loop: the output begins with the bytes of the samples so far, and is as it was after them.
use Prim.Native.Nat.{ℕ, ◌+◌, ◌*◌, ◌/◌, ◌%◌}
use mathlib.Core.Path.{◌≡◌, refl, sym, ap, ap₂, ◌∙◌}
use mathlib.Core.List.{◌++◌}
use native.Mathlib.Omega.{arith}
use borrow.Author.Rules.{rules}
use lib.IntN.{pos}
use lib.ListN.{length, get_or, set, drop}
use mir.Syntax.{w16}
use mir.Val.{SFits}
use mir.ValLaws.{to_z-of_z}
use Rattle.lists.specs.Tables.{concat_to}
use Rattle.words.specs.Sample.{bits_of}
use Rattle.fields.specs.Samples.{sample_bytes}
use Rattle.fields.proofs.Samples.{bits_at, bytes_of}
use Rattle.fields.proofs.Pairs.{pairs-length, pairs-more}
use Rattle.fields.proofs.put_each.Goals as goal

pub loop-i-init : goal.loop-i-init
unfolding concat_to
loop-i-init c = (omega arith, refl, c.requires, refl, refl)

pub loop-i-preserved : goal.loop-i-preserved
loop-i-preserved c =
    let a = c.args in
    let l = c.loop-i in
    let z = get_or a.samples.now l.i (pos 0) in
    let fit : SFits w16 z = record { sfits = search rules } in
    let b = c.bits_of.result in
    let bits : b ≡ bits_of z = c.bits_of.ensures ∙ ap bits_of (to_z-of_z w16 z fit) in
    let first : c.exchanged.result % 256 ≡ b / 256 = omega (arith, c.exchanged.ensures, c.bits_of.type_inv) in
    let second : c.exchanged.result / 256 ≡ b % 256 = omega (arith, c.exchanged.ensures, c.bits_of.type_inv) in
    let put : c.put_low_first.new.out ≡ set (set l.out (2 * l.i) (b / 256)) (2 * l.i + 1) (b % 256) =
    c.put_low_first.ensures ∙ ap₂ (λ (x y : ℕ). set (set l.out (2 * l.i) x) (2 * l.i + 1) y) first second in
    (omega arith, l.invariant.1, l.invariant.2, c.put_low_first.auto.out ∙ l.invariant.3, put ∙ pairs-more (bits_at a.samples.now) a.out.now l.out l.i b (omega arith) l.invariant.4 bits)

pub returns : goal.returns
unfolding sample_bytes
returns c =
    let a = c.args in
    let l = c.loop-i in
    let e : l.i ≡ length a.samples.now = omega arith in
    l.invariant.4 ∙ ap (λ (n : ℕ). concat_to n (bytes_of a.samples.now) ++ drop (2 * n) a.out.now) e
    ∙ ap (λ (n : ℕ). concat_to (length a.samples.now) (bytes_of a.samples.now) ++ drop n a.out.now) (sym (pairs-length (bits_at a.samples.now) (length a.samples.now)))
