-- 02, ticket 4: the plain book of a list of calls. It keeps the masks and the components as they were handed in since component 0, and has
-- nothing of the program's state, totals or answers. It imports nothing of `Call` and `Totals`.
use Rattle.std.specs.Prelude.{ℕ, ◌+◌, Bool, cond, not, ◌&&◌, List, [], ◌∷◌, ◌++◌, length, ℤ, ◌==◌, nat_le}
use Rattle.summed.specs.Component.{power, has_component}

-- what it holds: the two masks, and the pairs of each component since component 0, in order
pub record Book : Type 0 where
  pub first : ℕ
  pub second : ℕ
  pub components : List (List ℤ)

-- what it takes of a call: the component, the masks and the pairs, and the lengths of the totals and of the output
pub record Input : Type 0 where
  pub component : ℕ
  pub first : ℕ
  pub second : ℕ
  pub pairs : List ℤ
  pub totals_length : ℕ
  pub out_length : ℕ

-- what it says of a call: refused; kept, before the eighth; or all eight components with their masks, whose codes are written
pub data Reply : Type 0 where
  refused : ℕ → Reply
  kept : Reply
  full : Book → Reply

pub record Entry : Type 0 where
  pub reply : Reply
  pub next : Book

-- at the start it has no component
abbrev pub empty_book : Book
empty_book = record { first = 0; second = 0; components = [] }

-- the exact sum of bin k over the components that a mask has, where the first of the list is component n
abbrev pub sum_from : ℕ → ℕ → List (List ℤ) → ℕ → ℕ
sum_from mask n [] k = 0
sum_from mask n (pairs ∷ later) k = cond (has_component mask n) (power pairs k) 0 + sum_from mask (n + 1) later k

abbrev pub exact_sum : ℕ → List (List ℤ) → ℕ → ℕ
exact_sum mask components k = sum_from mask 0 components k

-- ---- a call

-- lists of the stated lengths, and an output of 4,096 bytes or more
abbrev pub right_lengths : Input → Bool
right_lengths i = i.totals_length == 2048 && length i.pairs == 2048 && nat_le 4096 i.out_length

-- with the component kept: the masks come with component 0 and hold for all eight
abbrev pub with_input : Book → Input → Book
with_input b i =
    record {
      first = cond (i.component == 0) i.first b.first;
      second = cond (i.component == 0) i.second b.second;
      components = b.components ++ (i.pairs ∷ []);
    }

-- after the eighth no component is held, and component 0 is next
abbrev pub dropped : Book → Book
dropped b = record { first = b.first; second = b.second; components = [] }

abbrev pub entry_kept : Book → Entry
entry_kept b = cond (length b.components == 8) (record { reply = full b; next = dropped b }) (record { reply = kept; next = b })

-- refused by 2, then by 17 where the component is not the next one; a refused call changes nothing
unfoldable pub entry : Book → Input → Entry
entry b i =
    cond (not (right_lengths i)) (record { reply = refused 2; next = b })
    (cond (not (i.component == length b.components)) (record { reply = refused 17; next = b })
    (entry_kept (with_input b i)))

-- the book after a list of calls
abbrev pub after : Book → List Input → Book
after b [] = b
after b (i ∷ is) = after (entry b i).next is
