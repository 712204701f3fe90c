-- Reports do come: from reset, after 0x1120 to 0x30 (processor 1 enabled, 36 bands, N = C = 2), a tick with powers 8 is collected, and the
-- next one, with powers 11, reports (01, "Numbers on both sides"). And after 0x0020 (N = C = 1) each tick reports, so that every count of
-- reports comes. Assumes nothing.
use Prim.Native.Nat.{ℕ, zero, suc, ◌+◌, ◌^◌, ◌≤◌, ◌<◌}
use mathlib.Core.Path.{◌≡◌, refl, sym, ap, subst, ◌∙◌}
use mathlib.Core.List.{List, [], ◌∷◌, map}
use native.Mathlib.Omega.{arith}
use lib.ListN.{length, get_or, replicate, length-replicate, get_or-replicate}
use lib.Dec.{lit<}
use Rattle.lists.specs.Sums.{sum_to}
use Rattle.codes.specs.Code.{least_from, exponent, code_of, value_of, band_code, band_value}
use Rattle.bands.specs.Band.{width_exponent, band_start, band_width}
use Rattle.bands.proofs.Power.{band_sum-run}
use Rattle.registers.specs.Store.{band_count, high_stored, low_stored, stored_at}
use Rattle.registers.specs.Access.{at_reset, stored_to}
use Rattle.settings.specs.Settings.{setting_of, averaged_spectra, period_ticks, enabled_of, running_of}
use Rattle.registers.specs.declared.Registers.{Registers}
use Rattle.model.specs.Reply.{Reply, collected, reported}
use Rattle.model.specs.Totals.{power, band_power}
use Rattle.model.specs.Report.{divisor, mean}
use Rattle.model.specs.Reference.{Reference, Entry, entry, spectra_total}
use Rattle.model.specs.Calls.{Powers, Call, command, tick, current, input_of, out_of, written_by}
use Rattle.model.specs.Demand.{ReportedBand, printed_value, reset_memory, AllTyped, Run, model_of, performed, Reports}
use Rattle.model.specs.ReportNumbers.{entries, count_entries, EveryCount}
use Rattle.model.specs.Claims.{SomeListReports, SomeListAverages}
use Rattle.model.proofs.Invariant.{reset-begun}
use Rattle.model.proofs.Reports.{printed-mean}
use Rattle.model.proofs.Demand3.{demand-3}

-- the rows of a tick whose powers are all v, and an output for it
powers : ℕ → List ℕ
powers v = replicate 7168 v

output : List ℕ
output = replicate 1176 0

powers-length : (v : ℕ) → length (powers v) ≡ 7168
unfolding powers
powers-length v = length-replicate {A = ℕ} 7168 v

output-length : length output ≡ 1176
unfolding output
output-length = length-replicate {A = ℕ} 1176 0

powers-typed : (v : ℕ) → v < 2 ^ 32 → Powers (powers v)
unfolding powers
powers-typed v h i = omega (arith, most 7168 i)
  where
    most : (n i : ℕ) → get_or (replicate {A = ℕ} n v) i 0 ≤ v
    most zero i = omega arith
    most (suc n) zero = omega arith
    most (suc n) (suc i) = most n i

first-power : (v : ℕ) → power (powers v) 0 0 ≡ v
unfolding powers
first-power v = get_or-replicate {A = ℕ} 7168 0 v 0 (lit< tt)

typed-8 : Powers (powers 8)
typed-8 = powers-typed 8 (lit< tt)

typed-11 : Powers (powers 11)
typed-11 = powers-typed 11 (lit< tt)

-- the calls: up to the tick that is collected, and all
abbrev settings : Call
settings = command 0x30 0x1120 current

abbrev spectrum : ℕ → Call
spectrum v = tick (powers v) current output

abbrev spectra : List (List ℕ)
spectra = powers 8 ∷ powers 11 ∷ []

earlier : Run
earlier =
    record {
      start = reset_memory;
      begun = reset-begun;
      calls = settings ∷ [];
      typed = (tt, tt);
      last = spectrum 8;
      last-typed = typed-8;
    }

whole : Run
whole =
    record {
      start = reset_memory;
      begun = reset-begun;
      calls = settings ∷ spectrum 8 ∷ [];
      typed = (tt, (typed-8, tt));
      last = spectrum 11;
      last-typed = typed-11;
    }

-- the registers after the command, and what the reference model then holds, before and after the tick that is collected
registers : Registers
registers = stored_to at_reset 0x30 0x1120

abbrev held : ℕ → List (List ℕ) → Reference
held p sp = record { registers = registers; phase = p; spectra = sp }

first-model : model_of earlier ≡ held 0 []
unfolding earlier registers entry
first-model = refl

first-tick : entry (held 0 []) (input_of (spectrum 8)) ≡ record { reply = collected; next = held 1 (powers 8 ∷ []) }
unfolding entry registers averaged_spectra period_ticks running_of enabled_of sum_to high_stored low_stored stored_at
first-tick = rw (powers-length 8, output-length)

second-model : model_of whole ≡ held 1 (powers 8 ∷ [])
unfolding whole earlier
second-model = ap (λ (m : Reference). (entry m (input_of (spectrum 8))).next) first-model ∙ ap (λ (e : Entry). e.next) first-tick

-- the last tick reports on both spectra
second-tick : (entry (held 1 (powers 8 ∷ [])) (input_of (spectrum 11))).reply ≡ reported spectra
unfolding entry registers averaged_spectra period_ticks running_of enabled_of sum_to high_stored low_stored stored_at
second-tick = rw (powers-length 11, output-length)

whole-reports : Reports whole spectra
unfolding whole
whole-reports = ap (λ (m : Reference). (entry m (input_of (spectrum 11))).reply) second-model ∙ second-tick

-- its first band, of one bin, has a total of 19, which is divided by 2
first-band : ReportedBand registers 0 0
unfolding registers setting_of enabled_of band_count high_stored low_stored stored_at
first-band = record { processor = lit< tt; enabled = refl; band = lit< tt }

band-power : (v : ℕ) → band_power registers (powers v) 0 0 ≡ v
unfolding registers setting_of high_stored low_stored stored_at width_exponent band_start band_width sum_to
band-power v = band_sum-run 0 0 first-band.band (power (powers v) 0) ∙ omega (arith, first-power v)

first-total : spectra_total registers spectra 0 0 ≡ 19
first-total = omega (arith, band-power 8, band-power 11)

divided : divisor registers 0 ≡ 2
unfolding registers setting_of averaged_spectra high_stored low_stored stored_at width_exponent band_width
divided = refl

first-mean : mean registers (spectra_total registers spectra) 0 0 ≡ 9
first-mean = rw (first-total, divided)

code-of-9 : band_value (band_code 9) ≡ 10
unfolding least_from exponent code_of value_of band_code band_value
code-of-9 = refl

printed-band : ReportedBand (model_of whole).registers 0 0
printed-band = subst (λ (m : Reference). ReportedBand m.registers 0 0) (sym second-model) first-band

whole-value : printed_value (model_of whole).registers (performed whole).out 0 0 ≡ 10
whole-value =
    let r = (model_of whole).registers in
    ap (λ (o : List ℕ). printed_value r o 0 0)
    ((demand-3.agrees whole).out ∙ ap (λ (a : Reply (List (List ℕ))). written_by r a (out_of whole.last)) whole-reports)
    ∙ printed-mean r (spectra_total r spectra) 0 0 printed-band (out_of whole.last)
    ∙ ap (λ (m : Reference). band_value (band_code (mean m.registers (spectra_total m.registers spectra) 0 0))) second-model
    ∙ ap (λ (v : ℕ). band_value (band_code v)) first-mean
    ∙ code-of-9

pub some-list-averages : SomeListAverages
unfolding earlier whole
some-list-averages =
    record {
      earlier = earlier;
      collects = ap (λ (m : Reference). (entry m (input_of (spectrum 8))).reply) first-model ∙ ap (λ (e : Entry). e.reply) first-tick;
      whole = whole;
      start = refl;
      calls = refl;
      spectra = spectra;
      reports = whole-reports;
      two = refl;
      processor = 0;
      band = 0;
      printed = printed-band;
      total = ap (λ (m : Reference). spectra_total m.registers spectra 0 0) second-model ∙ first-total;
      value = whole-value;
    }

pub some-list-reports : SomeListReports
some-list-reports = (whole, spectra, whole-reports)

-- ---- every count of reports: one of each tick after the command

each-tick : Registers
each-tick = stored_to at_reset 0x30 0x0020

abbrev begun : Reference
begun = record { registers = each-tick; phase = 0; spectra = [] }

abbrev reporting : Call
reporting = spectrum 8

tick-reports : entry begun (input_of reporting) ≡ record { reply = reported (powers 8 ∷ []); next = begun }
unfolding entry each-tick averaged_spectra period_ticks running_of enabled_of sum_to high_stored low_stored stored_at
tick-reports = rw (powers-length 8, output-length)

ticks-typed : (k : ℕ) → AllTyped (replicate k reporting)
ticks-typed zero = tt
ticks-typed (suc k) = (typed-8, ticks-typed k)

ticks-count : (k n : ℕ) → count_entries n (entries begun (map input_of (replicate k reporting))) ≡ n + k
ticks-count zero n = omega arith
ticks-count (suc k) n = rw tick-reports (ticks-count k (n + 1) ∙ omega arith)

pub every-count : EveryCount
unfolding entry each-tick
every-count k = (command 0x30 0x0020 current ∷ replicate k reporting, (tt, ticks-typed k), ticks-count k 0 ∙ omega arith)
