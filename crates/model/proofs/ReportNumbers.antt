-- 02, ticket 13: the state's number is the count of the reference model's reports. Assumes nothing.
use Prim.Native.Nat.{ℕ, min}
use mathlib.Core.Path.{◌≡◌, refl, sym, subst, ◌∙◌}
use mathlib.Core.List.{List, [], ◌∷◌, map}
use native.Mathlib.Omega.{arith}
use Rattle.registers.specs.declared.Registers.{Registers}
use Rattle.model.specs.Reply.{Reply, refused, stores, idle, collected, waiting, reported}
use Rattle.model.specs.Reference.{Reference, entry}
use Rattle.model.specs.Calls.{Memory, Call, perform, perform_all, input_of, begin, answer_of}
use Rattle.model.specs.Demand.{AllTyped, reset_memory}
use Rattle.model.specs.ReportNumbers.{entries, count_reply, count_entries, ReportNumbers}
use Rattle.model.proofs.Numbers.{number-by-answer}
use Rattle.model.proofs.Invariant.{Represents, Good, begun-represents, begun-good, reset-begun}
use Rattle.model.proofs.Keeps.{keeps}
use Rattle.model.proofs.Simulation.{follows}

-- counting on from a number that stays at 65,535, by the board's answer to a reply
count-answer : (r : Registers) (n : ℕ) (a : Reply (List (List ℕ))) →
    min (count_reply (min n 65535) (answer_of r a)) 65535 ≡ min (count_reply n a) 65535
count-answer r n (refused k) = omega arith
count-answer r n (stores v) = refl
count-answer r n idle = omega arith
count-answer r n collected = omega arith
count-answer r n waiting = omega arith
count-answer r n (reported sp) = omega arith

count-call : (m : Reference) → Good m → (x : Memory) → Represents m x → (n : ℕ) → x.state.reports ≡ min n 65535 → (c : Call) →
    (perform x c).memory.state.reports ≡ min (count_reply n (entry m (input_of c)).reply) 65535
count-call m g x h n e c =
    number-by-answer x c (omega (arith, e))
    ∙ subst (λ (k : ℕ). min (count_reply k (perform x c).answer) 65535 ≡ min (count_reply n (entry m (input_of c)).reply) 65535) (sym e)
    (subst (λ (a : Reply ℕ). min (count_reply (min n 65535) a) 65535 ≡ min (count_reply n (entry m (input_of c)).reply) 65535) (sym (follows m g x h c).answer)
    (count-answer m.registers n (entry m (input_of c)).reply))

count-calls : (m : Reference) → Good m → (x : Memory) → Represents m x → (n : ℕ) → x.state.reports ≡ min n 65535 → (cs : List Call) → AllTyped cs →
    (perform_all x cs).state.reports ≡ min (count_entries n (entries m (map input_of cs))) 65535
count-calls m g x h n e [] typed = e
count-calls m g x h n e (c ∷ cs) typed =
    count-calls (entry m (input_of c)).next (keeps m g c typed.0).next (perform x c).memory (follows m g x h c).next
    (count_reply n (entry m (input_of c)).reply) (count-call m g x h n e c) cs typed.1

pub report-numbers : ReportNumbers
report-numbers cs typed =
    count-calls (begin reset_memory) (begun-good reset_memory reset-begun) reset_memory (begun-represents reset_memory reset-begun) 0 refl cs typed
