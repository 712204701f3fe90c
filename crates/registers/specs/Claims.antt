-- What is proved of the registers (01, "Registers 0x30 to 0x36"): proofs/Theorems.antt has each.
use Rattle.std.specs.Prelude.{ℕ, ◌-◌, ◌≤◌, ◌<◌, ◌≡◌, true, ◌↔◌, length}
use Rattle.refusal.specs.Outcome.{given}
use Rattle.registers.specs.Store.{source_of, bins_of, navg_of, ncad_of, stored_at}
use Rattle.registers.specs.Access.{register, registers_sound, stored_to, at_reset, register_read, write_outcome}
use Rattle.registers.specs.declared.Registers.{Registers}

-- a value is one that a write of 16 bits to register n can store exactly if a write of it stores it
abbrev pub CanStore : Type 0
CanStore = (n w : ℕ) → ((v : ℕ) × (v < 65536) × (stored_at n v ≡ w)) ↔ (stored_at n w ≡ w)

-- which values are stored exactly as sent: in 0x30 those whose fields are within their limits, in the others those under 64 with such a source
abbrev pub FirstExactly : Type 0
FirstExactly = (v : ℕ) → (stored_at 0 v ≡ v) ↔ ((source_of v ≤ 0x16) × (bins_of v ≤ 2) × (navg_of v ≤ 0xA) × (ncad_of v ≤ 0xA))

abbrev pub OthersExactly : Type 0
OthersExactly = (n v : ℕ) → ¬ (n ≡ 0) → (stored_at n v ≡ v) ↔ ((source_of v ≤ 0x16) × (v < 64))

-- reset gives sound registers, and a write leaves sound registers sound
abbrev pub ResetSound : Type 0
ResetSound = registers_sound at_reset ≡ true

abbrev pub WriteSound : Type 0
WriteSound = (r : Registers) (id v : ℕ) → registers_sound r ≡ true → registers_sound (stored_to r id v) ≡ true

-- writing back what was read stores the same value again and changes nothing
abbrev pub WriteBack : Type 0
WriteBack = (r : Registers) (id v : ℕ) → register_read r id ≡ given v → write_outcome r id v ≡ record { answer = given v; registers = r }

-- a write changes no other register
abbrev pub WriteOne : Type 0
WriteOne = (r : Registers) (id v n : ℕ) → ¬ (n ≡ id - 0x30) → register (write_outcome r id v).registers n ≡ register r n

-- a read after an accepted write gives the value stored; the registers are seven, as those of the type are
abbrev pub ReadWritten : Type 0
ReadWritten =
    (r : Registers) (id v w : ℕ) → length r.value ≡ 7 → (write_outcome r id v).answer ≡ given w → register_read (write_outcome r id v).registers id ≡ given w
