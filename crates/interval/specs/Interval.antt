-- 02, ticket 11 (source document 004, section 3.3): the interval of Burst 1 blocks to send next. Assumes nothing.
use Rattle.std.specs.Prelude.{ℕ, zero, suc, ◌+◌, ◌-◌, Bool, true, false, cond, ◌&&◌, ◌||◌, List, length, get_or, leb, ltb, eqb}
use Rattle.lists.specs.Sums.{all_to}
use Rattle.lists.specs.Lowest.{lowest}
use Rattle.refusal.specs.Outcome.{Outcome, given, refused}
use Rattle.interval.specs.declared.Interval.{Interval}
use Rattle.interval.specs.declared.Growing.{Growing}

abbrev pub criterion : List ℕ → ℕ → ℕ
criterion index i = get_or index i 0

-- the empty index too
abbrev pub all_zero : List ℕ → Bool
all_zero index = all_to (length index) (λ i. eqb (criterion index i) 0)

-- the place of the greatest criterion, the oldest on a tie
abbrev pub is_greatest : List ℕ → ℕ → Bool
is_greatest index i = all_to (length index) (λ j. leb (criterion index j) (criterion index i))

abbrev pub start_of : List ℕ → ℕ
start_of index = lowest (length index) (is_greatest index)

-- ---- growing

-- block i joins: its criterion plus the bonus is at least that of the start
abbrev pub joins : List ℕ → ℕ → ℕ → ℕ → Bool
joins index bonus start i = leb (criterion index start) (criterion index i + bonus)

-- a `Growing` is an interval, and whether its older and its newer side are open
abbrev pub blocks : Growing → ℕ
blocks g = g.last - g.first + 1

-- some side is open, and the interval has less than the limit of blocks
unfoldable pub growing : ℕ → Growing → Bool
growing limit g = (g.older || g.newer) && ltb (blocks g) limit

-- The older neighbour joins, or the side is closed: it fails, or there is none.
unfoldable pub try_older : List ℕ → ℕ → ℕ → ℕ → Growing → Growing
try_older index bonus limit start g =
    cond (g.older && ltb (blocks g) limit)
    (cond (ltb 0 g.first && joins index bonus start (g.first - 1))
    (record { first = g.first - 1; last = g.last; older = true; newer = g.newer })
    (record { first = g.first; last = g.last; older = false; newer = g.newer }))
    g

-- The newer neighbour joins, or the side is closed: it fails, or there is none.
unfoldable pub try_newer : List ℕ → ℕ → ℕ → ℕ → Growing → Growing
try_newer index bonus limit start g =
    cond (g.newer && ltb (blocks g) limit)
    (cond (ltb (g.last + 1) (length index) && joins index bonus start (g.last + 1))
    (record { first = g.first; last = g.last + 1; older = g.older; newer = true })
    (record { first = g.first; last = g.last; older = g.older; newer = false }))
    g

-- the start alone, both sides open
abbrev pub alone : ℕ → Growing
alone start = record { first = start; last = start; older = true; newer = true }

-- after n turns of the older side and then the newer
unfoldable pub grown : List ℕ → ℕ → ℕ → ℕ → ℕ → Growing
grown index bonus limit start zero = alone start
grown index bonus limit start (suc n) = try_newer index bonus limit start (try_older index bonus limit start (grown index bonus limit start n))

-- As many turns as there are blocks are enough: after them the interval grows no more (`GrowthEnds` of Claims.antt).
unfoldable pub interval_of : List ℕ → ℕ → ℕ → Interval
interval_of index bonus limit =
    record {
      first = (grown index bonus limit (start_of index) (length index)).first;
      last = (grown index bonus limit (start_of index) (length index)).last;
    }

-- refused by 2, 29, then 26; else the interval
unfoldable pub interval_outcome : List ℕ → ℕ → ℕ → Outcome Interval
interval_outcome index bonus limit =
    cond (ltb 16000 (length index)) (refused 2)
    (cond (eqb limit 0) (refused 29)
    (cond (all_zero index) (refused 26)
    (given (interval_of index bonus limit))))
