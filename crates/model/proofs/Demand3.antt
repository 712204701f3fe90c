-- Demand 3. Assumes nothing.
use Prim.Native.Nat.{ℕ, ◌≤◌, ◌<◌}
use mathlib.Core.Path.{◌≡◌, sym, ap, ◌∙◌, subst}
use mathlib.Core.List.{List, [], ◌∷◌, map}
use native.Mathlib.Nat.{le_trans, le-div_iff_mul-le, div-mul-le_self}
use Rattle.codes.proofs.BandCode.{band-mono}
use Rattle.registers.specs.declared.Registers.{Registers}
use Rattle.model.specs.Reply.{reported}
use Rattle.model.specs.Report.{divisor}
use Rattle.model.specs.Reference.{Reference, entry, after, spectra_total}
use Rattle.model.specs.Calls.{Memory, Call, Typed, perform_all, perform, input_of, out_of, written_by, begin}
use Rattle.model.specs.Demand.{AllTyped, printed_value, ReportedBand, Agrees, Run, model_of, performed, Reports, NoSmaller, Demand3}
use Rattle.model.proofs.SpectraTotals.{spectra_total-mono}
use Rattle.model.proofs.Invariant.{Represents, Good, begun-represents, begun-good}
use Rattle.model.proofs.Reports.{printed-mean}
use Rattle.model.proofs.KeepsTick.{GoodReply}
use Rattle.model.proofs.Keeps.{keeps, refused-lt}
use Rattle.model.proofs.Simulation.{follows}
use Rattle.model.proofs.Printed.{Report, divisor-pos, near}

module _ (r : Registers) (n b : ℕ) (s : ReportedBand r n b) where
  ordered : {sp sp' : List (List ℕ)} {out out' : List ℕ} → Report r sp out → Report r sp' out' → NoSmaller r sp sp' →
      printed_value r out n b ≤ printed_value r out' n b
  ordered {sp} {sp'} p p' h =
      let d : 0 < divisor r b = divisor-pos r b in
      let t : spectra_total r sp n b ≤ spectra_total r sp' n b =
      spectra_total-mono r n b sp sp' (p.count ∙ sym p'.count) (λ i k l m. h i n k l s.processor s.enabled m) in
      rw (p.value n b s, p'.value n b s)
      (band-mono _ _ ((le-div_iff_mul-le d).1 (le_trans (div-mul-le_self (spectra_total r sp n b) (divisor r b)) t)))

-- ---- one call

module _ (m : Reference) (g : Good m) (x : Memory) (h : Represents m x) (c : Call) (typed : Typed c) where
  report : (sp : List (List ℕ)) → (entry m (input_of c)).reply ≡ reported sp → Report m.registers sp (perform x c).out
  report sp e =
      record {
        count = subst (GoodReply m.registers) e (keeps m g c typed).reply;
        value = λ n b s.
            ap (λ o. printed_value m.registers o n b) ((follows m g x h c).out ∙ ap (λ a. written_by m.registers a (out_of c)) e)
            ∙ printed-mean m.registers (spectra_total m.registers sp) n b s (out_of c);
      }

  agrees : Agrees m c (perform x c)
  agrees =
      let f = follows m g x h c in
      record {
        registers = f.next.registers;
        phase = f.next.phase;
        answer = f.answer;
        out = f.out;
        count = λ sp e. (report sp e).count;
        near = λ sp e n b s. near m.registers n b s (report sp e);
      }

-- ---- whole lists

-- after a list of calls the memory represents the model, whose numbers are good
record Kept (m : Reference) (x : Memory) : Type 0 where
  good : Good m
  represents : Represents m x

kept : (m : Reference) → Good m → (x : Memory) → Represents m x → (cs : List Call) → AllTyped cs → Kept (after m (map input_of cs)) (perform_all x cs)
kept m g x h [] typed = record { good = g; represents = h }
kept m g x h (c ∷ cs) typed =
    kept (entry m (input_of c)).next (keeps m g c typed.0).next (perform x c).memory (follows m g x h c).next cs typed.1

run-kept : (x : Run) → Kept (model_of x) (perform_all x.start x.calls)
run-kept x = kept (begin x.start) (begun-good x.start x.begun) x.start (begun-represents x.start x.begun) x.calls x.typed

run-agrees : (x : Run) → Agrees (model_of x) x.last (performed x)
run-agrees x = let k = run-kept x in agrees (model_of x) k.good _ k.represents x.last x.last-typed

run-report : (x : Run) (sp : List (List ℕ)) → Reports x sp → Report (model_of x).registers sp (performed x).out
run-report x sp e = let k = run-kept x in report (model_of x) k.good _ k.represents x.last x.last-typed sp e

pub demand-3 : Demand3
demand-3 =
    record {
      agrees = run-agrees;
      refusals = λ x n e.
          refused-lt (model_of x).registers (entry (model_of x) (input_of x.last)).reply n
          (keeps (model_of x) (run-kept x).good x.last x.last-typed).reply
          (sym (run-agrees x).answer ∙ e);
      ordered = λ x y sp sp' e e' q h n b s.
          ordered (model_of x).registers n b s (run-report x sp e)
          (subst (λ r. Report r sp' (performed y).out) (sym q) (run-report y sp' e')) h;
    }
