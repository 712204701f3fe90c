-- `dfb_walk::store` meets its contract: the registers are put behind place and records. Assumes nothing.
use Rattle.std.proofs.Common.{◌≡◌, ℕ, ◌<◌, length, get_or, ◌∙◌, rules, tests}
use Rattle.registers.specs.Access.{register}
use Rattle.dfb_walk.proofs.Numbers.{walk_put, same_entries}
use Rattle.dfb_walk.proofs.store.Goals as goal

pub returns : goal.returns
returns c =
    let a = c.args in
    let r = a.after.registers in
    let long : length r.value ≡ 7 = search rules in
    let items = c.map.ensures.items in
    let same : (i : ℕ) → i < 7 → get_or c.map.result i 0 ≡ register r i = λ i l. let called = items.at i 0 0 l in search (rules, tests, called) in
    walk_put a.after a.walk.now c.copy_from_slice.new.self c.requires (c.copy_from_slice.ensures.after ∙ same_entries r c.map.result items.long long same)
