-- 01, "Demand 3 and its plain book": the reference model, which is that book. It holds registers, a phase and spectra, takes what a caller
-- hands in, and nothing of the board's state, totals or answers. It imports nothing of `Board`.
use Rattle.std.specs.Prelude.{ℕ, ◌+◌, ◌-◌, cond, not, ◌&&◌, List, [], ◌∷◌, ◌++◌, length, leb, ltb, eqb}
use Rattle.registers.specs.Store.{stored}
use Rattle.registers.specs.Access.{is_id, stored_to}
use Rattle.settings.specs.Settings.{averaged_spectra, period_ticks, running_of}
use Rattle.registers.specs.declared.Registers.{Registers}
use Rattle.model.specs.Reply.{Reply, refused, stores, idle, collected, waiting, reported}
use Rattle.model.specs.Totals.{band_power}

-- what the book holds; spectra are 7 rows each, as handed in, oldest first
pub record Reference : Type 0 where
  pub registers : Registers
  pub phase : ℕ
  pub spectra : List (List ℕ)

-- what it takes of a call: a command's ID and information or a tick's powers, and the lengths of the lists and outputs passed
pub data Input : Type 0 where
  command : (id information totals_length : ℕ) → Input
  tick : (powers : List ℕ) (totals_length out_length : ℕ) → Input

-- what it answers, and what it then holds
pub record Entry : Type 0 where
  pub reply : Reply (List (List ℕ))
  pub next : Reference

-- 01's T: the sum, over the spectra, of processor n's powers in band b
abbrev pub spectra_total : Registers → List (List ℕ) → ℕ → ℕ → ℕ
spectra_total r [] n b = 0
spectra_total r (powers ∷ spectra) n b = band_power r powers n b + spectra_total r spectra n b

-- a refused call changes nothing
abbrev pub entry_refused : Reference → ℕ → Entry
entry_refused m n = record { reply = refused n; next = m }

-- a command: refused by 2, then 1; else it stores by the register rule, sets the phase to 0 and drops the spectra
abbrev pub entry_command : Reference → ℕ → ℕ → ℕ → Entry
entry_command m id v totals_length =
    cond (not (eqb totals_length 784)) (entry_refused m 2)
    (cond (not (is_id id)) (entry_refused m 1)
    (record { reply = stores (stored id v); next = record { registers = stored_to m.registers id v; phase = 0; spectra = [] } }))

-- a tick of a running board leaves the book with these spectra, and the phase becomes p + 1, or 0 after C - 1
abbrev pub after_tick : Reference → List (List ℕ) → Reference
after_tick m spectra =
    record { registers = m.registers; phase = cond (eqb m.phase (period_ticks m.registers - 1)) 0 (m.phase + 1); spectra = spectra }

-- a report on the spectra kept, which the book then drops
abbrev pub entry_report : Reference → List (List ℕ) → Entry
entry_report m kept = record { reply = reported kept; next = after_tick m [] }

-- with the tick's rows kept: at p = N - 1 the book then reports on its N spectra
abbrev pub entry_kept : Reference → List (List ℕ) → Entry
entry_kept m kept =
    cond (eqb m.phase (averaged_spectra m.registers - 1)) (entry_report m kept) (record { reply = collected; next = after_tick m kept })

-- when running: at p < N it keeps the tick's 7 rows as one spectrum; at p ≥ N it keeps nothing
abbrev pub entry_running : Reference → List ℕ → Entry
entry_running m powers =
    cond (ltb m.phase (averaged_spectra m.registers)) (entry_kept m (m.spectra ++ (powers ∷ [])))
    (record { reply = waiting; next = after_tick m [] })

-- a tick: refused by 2; not running, it changes nothing
abbrev pub entry_tick : Reference → List ℕ → ℕ → ℕ → Entry
entry_tick m powers totals_length out_length =
    cond (not (eqb (length powers) 7168 && eqb totals_length 784 && leb 1176 out_length)) (entry_refused m 2)
    (cond (not (running_of m.registers)) (record { reply = idle; next = m })
    (entry_running m powers))

unfoldable pub entry : Reference → Input → Entry
entry m (command id v totals_length) = entry_command m id v totals_length
entry m (tick powers totals_length out_length) = entry_tick m powers totals_length out_length

-- the model after a list of calls
abbrev pub after : Reference → List Input → Reference
after m [] = m
after m (i ∷ is) = after (entry m i).next is
