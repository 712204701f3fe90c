-- `summed::power` meets its contract. Assumes nothing.
use Rattle.std.proofs.Common.{◌≡◌, ◌+◌, ap, ◌∙◌, ap₂, arith, w16}
use mir.ValLaws.{to_z-of_z}
use Rattle.summed.specs.Component.{square}
use Rattle.summed.proofs.power.Goals as goal

pub overflow_add-result : goal.overflow_add-result
overflow_add-result c = omega (arith, c.square.ensures.1, c.square-2.ensures.1)

pub returns : goal.returns
returns c =
    let start = c.before.before in
    let re : c.square.result ≡ square start.args.re = c.square.ensures.0 ∙ ap square (to_z-of_z w16 start.args.re start.ranges.re) in
    let im : c.square-2.result ≡ square start.args.im = c.square-2.ensures.0 ∙ ap square (to_z-of_z w16 start.args.im start.ranges.im) in
    (ap₂ ◌+◌ re im, omega (arith, c.square.ensures.1, c.square-2.ensures.1))
