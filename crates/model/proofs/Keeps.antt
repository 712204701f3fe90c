-- A call keeps the model's numbers good, is refused by 1 or 2 if at all, and reports on N spectra. Assumes nothing.
use Prim.Native.Nat.{ℕ, ◌<◌}
use mathlib.Core.Path.{◌≡◌}
use mathlib.Core.List.{List}
use native.Mathlib.Omega.{arith}
use lib.ListN.{length}
use Rattle.registers.specs.declared.Registers.{Registers}
use Rattle.model.specs.Reply.{Reply, refused, stores, idle, collected, waiting, reported}
use Rattle.model.specs.Reference.{Reference, entry}
use Rattle.model.specs.Calls.{Call, command, tick, Typed, input_of, passed_length, answer_of}
use Rattle.model.proofs.Invariant.{Good}
use Rattle.model.proofs.KeepsTick.{GoodReply, GoodEntry, keeps-command, keeps-tick}

module _ (m : Reference) (g : Good m) where
  pub keeps : (c : Call) → Typed c → GoodEntry m.registers (entry m (input_of c))
  keeps (command id v t) h = keeps-command m g id v (passed_length t)
  keeps (tick ps t out) h = keeps-tick m g ps (passed_length t) (length out) h

-- a refusal among the answers
pub refused-lt : (r : Registers) (a : Reply (List (List ℕ))) (n : ℕ) → GoodReply r a → answer_of r a ≡ refused n → n < 3
refused-lt r (refused k) n g e = let q : k ≡ n = cc in omega arith
refused-lt r (stores v) n g e = let z : ◌≡◌ {A = ℕ} 0 1 = cc in absurd (omega arith)
refused-lt r idle n g e = let z : ◌≡◌ {A = ℕ} 0 1 = cc in absurd (omega arith)
refused-lt r collected n g e = let z : ◌≡◌ {A = ℕ} 0 1 = cc in absurd (omega arith)
refused-lt r waiting n g e = let z : ◌≡◌ {A = ℕ} 0 1 = cc in absurd (omega arith)
refused-lt r (reported sp) n g e = let z : ◌≡◌ {A = ℕ} 0 1 = cc in absurd (omega arith)
