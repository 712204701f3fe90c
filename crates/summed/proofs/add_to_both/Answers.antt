-- `summed::add_to_both` meets its contract. The loop: in both runs the totals so far have their powers. Assumes nothing.
use Rattle.std.proofs.Common.{◌≡◌, ℕ, ◌+◌, ◌<◌, List, ◌++◌, length, get_or, take, drop, set, ℤ, sym, ap, ◌∙◌, ap₂, arith, length-drop, length-set, take-append-drop, get_or-drop, get_or-set_other, get_or-take, drop-set-lt}
use lib.Seq.{take-set-le, take-set-lt, drop-set-add}
use Rattle.lists.proofs.Overwriting.{table_none, table-next, table_more}
use Rattle.summed.proofs.Laws.{sum_at, added_to, added-all, power-is}
use Rattle.summed.proofs.add_to_both.Goals as goal

-- the first k totals of both runs have their powers
module _ (t l : List ℕ) (pairs : List ℤ) (k : ℕ) (h : k < 1024) (one : take 1024 l ≡ added_to k (take 1024 t) pairs) (two : drop 1024 l ≡ added_to k (drop 1024 t) pairs) where
  -- the next ones are as they were; x stands in the first run when the second's is read
  first_next : get_or l k 0 ≡ get_or (take 1024 t) k 0
  first_next = sym (get_or-take 1024 l k 0 h) ∙ table-next (sum_at (take 1024 t) pairs) (take 1024 t) k (take 1024 l) 0 one

  second-next : (x : ℕ) → get_or (set l k x) (1024 + k) 0 ≡ get_or (drop 1024 t) k 0
  second-next x =
      get_or-set_other l k (1024 + k) x 0 (λ same. absurd (omega (arith, same))) ∙ sym (get_or-drop 1024 l k 0)
      ∙ table-next (sum_at (drop 1024 t) pairs) (drop 1024 t) k (drop 1024 l) 0 two

  -- one power more in each
  first_more : (x y : ℕ) → k < length (take 1024 t) → x ≡ sum_at (take 1024 t) pairs k → take 1024 (set (set l k x) (1024 + k) y) ≡ added_to (k + 1) (take 1024 t) pairs
  first_more x y room is =
      take-set-le 1024 (set l k x) (1024 + k) y (omega arith) ∙ take-set-lt 1024 l k x h
      ∙ table_more (sum_at (take 1024 t) pairs) (take 1024 t) k x 0 (take 1024 l) one room is

  second_more : (x y : ℕ) → k < length (drop 1024 t) → y ≡ sum_at (drop 1024 t) pairs k → drop 1024 (set (set l k x) (1024 + k) y) ≡ added_to (k + 1) (drop 1024 t) pairs
  second_more x y room is =
      drop-set-add 1024 (set l k x) k y ∙ ap (λ (run : List ℕ). set run k y) (drop-set-lt 1024 l k x h)
      ∙ table_more (sum_at (drop 1024 t) pairs) (drop 1024 t) k y 0 (drop 1024 l) two room is

all-length : (totals : List ℕ) → length (drop 1024 totals) ≡ 1024 → length totals ≡ 2048
all-length totals half = omega (arith, length-drop 1024 totals, half)

pub loop-k-init : goal.loop-k-init
loop-k-init c = (omega arith, all-length c.args.totals.now c.requires.added_to_2.run_length, table_none _ _, table_none _ _)

pub overflow_add-totals : goal.overflow_add-totals
overflow_add-totals c =
    let start = c in
    let l = c.loop-k in
    let kept = first_next start.args.totals.now l.totals start.args.pairs.now l.k (omega arith) l.invariant.2 l.invariant.3 in
    omega (arith, kept, start.requires.added_to.small l.k (omega arith), c.power-added.ensures.1)

pub overflow_add-totals-in-loop-k-2 : goal.overflow_add-totals-in-loop-k-2
overflow_add-totals-in-loop-k-2 c =
    let start = c in
    let l = c.loop-k in
    let kept = second-next start.args.totals.now l.totals start.args.pairs.now l.k (omega arith) l.invariant.2 l.invariant.3
    (get_or l.totals l.k 0 + c.power-added.result) in
    omega (arith, kept, start.requires.added_to_2.small l.k (omega arith), c.power-added.ensures.1)

pub loop-k-preserved : goal.loop-k-preserved
loop-k-preserved c =
    let start = c in
    let t = start.args.totals.now in
    let pairs = start.args.pairs.now in
    let l = c.loop-k in
    let h : l.k < 1024 = omega arith in
    let added = power-is pairs l.k c.power-arg-1.given c.power-arg-in-loop-k-1.given c.power-added.ensures.0 in (
      omega arith,
      simp length-set l.invariant.1,
      first_more t l.totals pairs l.k h l.invariant.2 l.invariant.3 _ _ (omega arith) (ap₂ ◌+◌ (first_next t l.totals pairs l.k h l.invariant.2 l.invariant.3) added),
      second_more t l.totals pairs l.k h l.invariant.2 l.invariant.3 _ _ (omega arith) (ap₂ ◌+◌ (second-next t l.totals pairs l.k h l.invariant.2 l.invariant.3 _) added),
    )

pub returns : goal.returns
returns c =
    let start = c in
    let t = start.args.totals.now in
    let pairs = start.args.pairs.now in
    let l = c.loop-k in
    let all : l.k ≡ 1024 = omega arith in
    sym (take-append-drop 1024 l.totals)
    ∙ ap₂ ◌++◌ (l.invariant.2 ∙ added-all l.k (take 1024 t) pairs all start.requires.added_to.run_length)
    (l.invariant.3 ∙ added-all l.k (drop 1024 t) pairs all start.requires.added_to_2.run_length)

pub bounds-totals-k-in-loop-k-2 : goal.bounds-totals-k-in-loop-k-2
bounds-totals-k-in-loop-k-2 c = simp length-set (omega arith)

pub bounds-totals-k-in-loop-k-3 : goal.bounds-totals-k-in-loop-k-3
bounds-totals-k-in-loop-k-3 c = simp length-set (omega arith)

pub shape_of-totals : goal.shape_of-totals
shape_of-totals c = c.loop-k.invariant.1 ∙ sym (all-length c.args.totals.now c.requires.added_to_2.run_length)
