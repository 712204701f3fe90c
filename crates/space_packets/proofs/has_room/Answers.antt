-- `space_packets::has_room` meets its contract: neither product can be too large. Assumes nothing.
use Prim.Native.Nat.{ℕ, ◌+◌, ◌-◌, ◌*◌, ◌/◌, ◌≤◌}
use mathlib.Core.Path.{◌≡◌, sym, ◌∙◌}
use native.Mathlib.Omega.{arith}
use borrow.Author.Tests.{leb-true, leb-false, le-leb, lt-leb}
use lib.Dec.{leb}
use Rattle.lists.proofs.Choices.{by_cases}
use Rattle.space_packets.proofs.has_room.Goals as goal

-- six bytes for each packet fit behind two for each sample
both-fit : (samples packets out : ℕ) → 2 * samples ≤ out → leb packets ((out - 2 * samples) / 6) ≡ leb (6 * packets + 2 * samples) out
both-fit samples packets out h =
    by_cases (leb packets ((out - 2 * samples) / 6))
    (λ t. t ∙ sym (le-leb (6 * packets + 2 * samples) out (omega (arith, leb-true packets ((out - 2 * samples) / 6) t))))
    (λ t. t ∙ sym (lt-leb (6 * packets + 2 * samples) out (omega (arith, leb-false packets ((out - 2 * samples) / 6) t))))

pub returns-then-samples-out : goal.returns-then-samples-out
returns-then-samples-out c =
    let a = c.args in
    both-fit a.samples a.packets a.out (omega arith)

pub returns-else-samples-out : goal.returns-else-samples-out
returns-else-samples-out c =
    let a = c.args in
    lt-leb a.samples (a.out / 2) (omega arith) ∙ sym (lt-leb (6 * a.packets + 2 * a.samples) a.out (omega arith))
