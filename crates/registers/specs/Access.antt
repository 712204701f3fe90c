-- Fields, reset, store and read of the seven registers (01, "Registers 0x30 to 0x36" and "Refusal numbers").
use Rattle.std.specs.Prelude.{ℕ, ◌-◌, Bool, cond, not, ◌&&◌, leb, get_or, set, replicate}
use Rattle.lists.specs.Sums.{all_to}
use Rattle.refusal.specs.Outcome.{Outcome, given, refused, answer_outcome}
use Rattle.registers.specs.Store.{source_of, enable_of, bins_of, navg_of, ncad_of, stored, can_store}
use Rattle.registers.specs.declared.Fields.{Fields}
use Rattle.registers.specs.declared.Registers.{Registers}
use Rattle.registers.specs.declared.Write.{Write}

-- the fields of 16 bits of information
abbrev pub fields_of : ℕ → Fields
fields_of v = record { source = source_of v; enable = enable_of v; bins = bins_of v; navg = navg_of v; ncad = ncad_of v }

-- all registers after reset
abbrev pub at_reset : Registers
at_reset = record { value = replicate 7 0 }

-- an ID of a register: 0x30 to 0x36
abbrev pub is_id : ℕ → Bool
is_id id = leb 0x30 id && leb id 0x36

-- the value of register n, counted from 0
abbrev pub register : Registers → ℕ → ℕ
register r n = get_or r.value n 0

-- register n is a value that a write can store, and each of the seven is
abbrev pub storable : Registers → ℕ → Bool
storable r n = can_store n (register r n)

unfoldable pub registers_sound : Registers → Bool
registers_sound r = all_to 7 (storable r)

-- the registers after a write of the information v to the ID: one of them holds what it stores
abbrev pub stored_to : Registers → ℕ → ℕ → Registers
stored_to r id v = record { value = set r.value (id - 0x30) (stored id v) }

-- a read: the stored value; refused by 3, then 1
unfoldable pub register_read : Registers → ℕ → Outcome ℕ
register_read r id = cond (not (registers_sound r)) (refused 3) (cond (not (is_id id)) (refused 1) (given (register r (id - 0x30))))

-- what a write leaves: its answer, and the registers afterwards
pub record WriteOutcome : Type 0 where
  pub answer : Outcome ℕ
  pub registers : Registers

abbrev pub outcome_of : Write → WriteOutcome
outcome_of w = record { answer = answer_outcome w.answer; registers = w.registers }

-- refused: the registers are as they were
abbrev pub write_refused : ℕ → Registers → WriteOutcome
write_refused n r = record { answer = refused n; registers = r }

-- a write of the information v to the ID: refused by 3, then 1; else the value stored, and the registers with that one register changed
unfoldable pub write_outcome : Registers → ℕ → ℕ → WriteOutcome
write_outcome r id v =
    cond (not (registers_sound r)) (write_refused 3 r)
    (cond (not (is_id id)) (write_refused 1 r)
    (record { answer = given (stored id v); registers = stored_to r id v }))
