-- `settings::enabled_count` meets its contract: each enabled processor adds 1. Assumes nothing.
use Rattle.std.proofs.Common.{◌≡◌, ◌∙◌, ℕ, ◌^◌, refl, rules, arith}
use Rattle.std.proofs.lemmas.Iterator.{YieldsList-from_range, YieldsList-from_map}
use Rattle.std.proofs.lemmas.Iterator.Consumers.{fits_from_yields_list, sum_from_yields_List}
use Rattle.std.specs.Prelude.{cond, map, sum}
use Rattle.std.specs.List.{range_with_len}
use Rattle.lists.specs.Sums.{sum_to}
use Rattle.settings.specs.Settings.{enabled_of, enabled_count}
use Rattle.registers.specs.declared.Registers.{Registers}
use Rattle.settings.proofs.Settings.{enabled-le}
use Rattle.settings.proofs.enabled_count.Goals as goal

-- 1 for an enabled processor
abbrev one_of : Registers → ℕ → ℕ
one_of r n = cond (enabled_of r n) 1 0

counted : (r : Registers) → sum (map (one_of r) (range_with_len 0 7)) ≡ enabled_count r
unfolding sum_to
counted r = refl

pub sum-requires-clause-fits : goal.sum-requires-clause-fits
sum-requires-clause-fits c =
    fits_from_yields_list c.map.result (2 ^ 64)
    (YieldsList-from_map _ (one_of c.args.registers) (YieldsList-from_range 0 7 7 (cc) refl) c.map.ensures.closure (λ x r q k. search rules))
    (omega (arith, counted c.args.registers, enabled-le c.args.registers))

pub returns : goal.returns
returns c =
    sum_from_yields_List c.map.result _ c.sum.ensures.ran
    (YieldsList-from_map _ (one_of c.args.registers) (YieldsList-from_range 0 7 7 (cc) refl) c.map.ensures.closure (λ x r q k. search rules))
    ∙ counted c.args.registers
