-- The store rule of the spectral registers (01, "Registers 0x30 to 0x36"). Register n, counted from 0, has the ID 0x30 + n and belongs
-- to processor n + 1.
use Rattle.std.specs.Prelude.{ℕ, ◌+◌, ◌-◌, ◌*◌, ◌/◌, ◌%◌, Bool, cond, leb, eqb}

-- the fields of 16 bits of information: source 4:0, enable 5, bins 7:6, NAVG 11:8, NCAD 15:12
abbrev pub source_of : ℕ → ℕ
source_of v = v % 32

abbrev pub enable_of : ℕ → ℕ
enable_of v = v / 32 % 2

abbrev pub bins_of : ℕ → ℕ
bins_of v = v / 64 % 4

abbrev pub navg_of : ℕ → ℕ
navg_of v = v / 256 % 16

abbrev pub ncad_of : ℕ → ℕ
ncad_of v = v / 4096

-- the bands of a bin setting: bins 0 = 36, 1 = 64, 2 = 112; no other setting has bands
unfoldable pub band_count : ℕ → ℕ
band_count setting = cond (eqb setting 0) 36 (cond (eqb setting 1) 64 (cond (eqb setting 2) 112 0))

-- a field at most the limit is kept, and any other becomes the default
abbrev pub limited : ℕ → ℕ → ℕ → ℕ
limited limit default field = cond (leb field limit) field default

-- bits 15:6 as 0x30 stores them: bins 3 become 1, NAVG above 0xA becomes 3, NCAD above 0xA becomes 6
unfoldable pub high_stored : ℕ → ℕ
high_stored v = limited 0xA 6 (ncad_of v) * 4096 + limited 0xA 3 (navg_of v) * 256 + limited 2 1 (bins_of v) * 64

-- bits 5:0 as stored: a source above 0x16 becomes the default
unfoldable pub low_stored : ℕ → ℕ → ℕ
low_stored default v = enable_of v * 32 + limited 0x16 default (source_of v)

-- what register n stores of the information v: the default source is 0x03 in 0x30 and 0x12 in the others, whose bits 15:6 are 0
unfoldable pub stored_at : ℕ → ℕ → ℕ
stored_at n v = cond (eqb n 0) (high_stored v + low_stored 0x03 v) (low_stored 0x12 v)

-- what a write of the information v to the ID stores
abbrev pub stored : ℕ → ℕ → ℕ
stored id v = stored_at (id - 0x30) v

-- register n can store the value: it is what a write of it stores (`CanStore` of Claims.antt)
abbrev pub can_store : ℕ → ℕ → Bool
can_store n v = eqb (stored_at n v) v
