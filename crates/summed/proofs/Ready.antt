-- What a call is given once its tests have passed. Assumes nothing.
use Rattle.std.proofs.Common.{◌≡◌, ℕ, ◌^◌, ◌≤◌, true, ◌&&◌, eqb, leb, List, length, get_or, ℤ, arith, eqb-true, leb-true}
use Rattle.lists.proofs.Choices.{both, cond-at}
use Rattle.summed.specs.declared.SumState.{SumState}
use Rattle.summed.specs.Call.{are_lengths, sound, in_force}
use Rattle.summed.specs.Claims.{RightLengths}
use Rattle.summed.specs.Private.{Ready}
use Rattle.summed.proofs.Laws.{counted-le, by-run}
use Rattle.summed.proofs.Sums.{of-sound}

pub lengths-right : (totals : List ℕ) (pairs : List ℤ) (out : List ℕ) → are_lengths (length totals) (length pairs) (length out) ≡ true → RightLengths totals pairs out
lengths-right totals pairs out t =
    let a = both (eqb (length totals) 2048 && eqb (length pairs) 2048) (leb 4096 (length out)) t in
    let b = both (eqb (length totals) 2048) (eqb (length pairs) 2048) a.0 in
    record { totals-length = eqb-true (length totals) 2048 b.0; pairs-length = eqb-true (length pairs) 2048 b.1; room = leb-true 4096 (length out) a.1 }

pub sound-ready : (s : SumState) (totals : List ℕ) (pairs : List ℤ) → sound s totals ≡ true → length totals ≡ 2048 → length pairs ≡ 2048 → Ready s totals pairs
sound-ready s totals pairs e long wide =
    let f = of-sound s totals e in
    record {
      place = omega (arith, f.place);
      totals-length = long;
      pairs-length = wide;
      small = by-run (λ k. get_or totals k 0 ≤ 2 ^ 34) (λ k h. omega (arith, f.first_run k h, counted-le s.first s.next, f.place))
          (λ k h. omega (arith, f.second_run k h, counted-le s.second s.next, f.place));
    }

pub force-ready : (s : SumState) (totals : List ℕ) (pairs : List ℤ) (n first second : ℕ) → Ready s totals pairs → Ready (in_force s n first second) totals pairs
force-ready s totals pairs n first second r =
    cond-at (λ (t : SumState). Ready t totals pairs) (eqb n 0)
    (λ e. record { place = omega (arith, eqb-true n 0 e); totals-length = r.totals-length; pairs-length = r.pairs-length; small = r.small })
    (λ e. r)
