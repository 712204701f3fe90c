-- `totals::add_octave` meets its contract. Assumes nothing.
use Rattle.std.proofs.Common.{◌≡◌, ℕ, List, sym, ap, ◌∙◌, subst}
use Rattle.totals.specs.Private.{BandsOfWidth, added_run}
use Rattle.totals.proofs.add_octave.Goals as goal

-- an arm's width is the octave's
same-run : (width known : ℕ) (row powers : List ℕ) → width ≡ known → BandsOfWidth width row powers → BandsOfWidth known row powers
same-run width known row powers e = subst (λ (w : ℕ). BandsOfWidth w row powers) e

same_row : (width known : ℕ) (row powers after : List ℕ) → width ≡ known → after ≡ added_run known row powers → after ≡ added_run width row powers
same_row width known row powers after e p = p ∙ ap (λ (w : ℕ). added_run w row powers) (sym e)

pub add_run-requires : goal.add_run-requires
add_run-requires c = same-run _ 2 _ _ c.in-2.is c.requires

pub returns-in-2 : goal.returns-in-2
returns-in-2 c = same_row _ 2 _ _ _ c.in-2.is c.add_run.ensures

pub add_run-requires-in-4 : goal.add_run-requires-in-4
add_run-requires-in-4 c = same-run _ 4 _ _ c.in-4.is c.requires

pub returns-in-4 : goal.returns-in-4
returns-in-4 c = same_row _ 4 _ _ _ c.in-4.is c.add_run-in-4.ensures

pub add_run-requires-in-8 : goal.add_run-requires-in-8
add_run-requires-in-8 c = same-run _ 8 _ _ c.in-8.is c.requires

pub returns-in-8 : goal.returns-in-8
returns-in-8 c = same_row _ 8 _ _ _ c.in-8.is c.add_run-in-8.ensures

pub add_run-requires-in-16 : goal.add_run-requires-in-16
add_run-requires-in-16 c = same-run _ 16 _ _ c.in-16.is c.requires

pub returns-in-16 : goal.returns-in-16
returns-in-16 c = same_row _ 16 _ _ _ c.in-16.is c.add_run-in-16.ensures

pub add_run-requires-in-32 : goal.add_run-requires-in-32
add_run-requires-in-32 c = same-run _ 32 _ _ c.in-32.is c.requires

pub returns-in-32 : goal.returns-in-32
returns-in-32 c = same_row _ 32 _ _ _ c.in-32.is c.add_run-in-32.ensures
