-- `dfb_checker::put_registers` meets its contract. Assumes nothing.
use Rattle.std.proofs.Common.{◌≡◌, ℕ, ◌≤◌, List, ◌++◌, length, drop, refl, ap, ap₂, sym, ◌∙◌, arith, rules}
use Rattle.lists.specs.Tables.{tabulate}
use Rattle.lists.proofs.Tables.{length-tabulate, tabulate-of}
use Rattle.registers.specs.declared.Registers.{Registers}
use Rattle.registers.specs.Access.{register}
use Rattle.dfb_refusals.specs.Numbers.{Values, above63, FilledNumber, filled_number, values_put}
use Rattle.dfb_refusals.proofs.Numbers.{numbered}
use Rattle.dfb_refusals.proofs.Values.{values-short, values-fit}
use Rattle.dfb_checker.proofs.put_registers.Goals as goal

-- the values that are put
abbrev values : Registers → Values ℕ
values r = record { number = 0; values = tabulate 7 (register r) }

seven : (r : Registers) → length (tabulate 7 (register r)) ≡ 7
seven r = length-tabulate 7 (register r)

pub returns-then-list-lt-COUNT : goal.returns-then-list-lt-COUNT
returns-then-list-lt-COUNT c =
    let a = c.args in
    numbered above63 _ c.above_63.ensures (values-short (values a.registers) a.list.now (omega (arith, seven a.registers)))

-- all seven
put_all : (r : Registers) (front list : List ℕ) → front ≡ r.value → length r.value ≡ 7 → 7 ≤ length list
    → ◌≡◌ {A = FilledNumber ℕ} (record { answer = 0; buffer = front ++ drop 7 list }) (filled_number above63 (values_put (values r) list))
put_all r front list e long h =
    ap₂ {C = FilledNumber ℕ} (λ (f : List ℕ) (n : ℕ). record { answer = 0; buffer = f ++ drop n list })
    (e ∙ tabulate-of 7 (register r) 0 r.value long (λ i l. refl)) (sym (seven r))
    ∙ ap (filled_number above63) (values-fit (values r) list (omega (arith, seven r)))

pub returns : goal.returns
returns c =
    let a = c.args in
    put_all a.registers c.copy_from_slice.new.self a.list.now c.copy_from_slice.ensures.after (search rules) c.if-list-lt-COUNT.false
