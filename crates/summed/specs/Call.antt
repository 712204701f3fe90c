-- 02, ticket 4: one call. The refusals come in the order 2, 3, 17.
use Rattle.std.specs.Prelude.{ℕ, ◌+◌, Bool, cond, not, ◌&&◌, List, ◌++◌, length, take, drop, ℤ, ◌==◌, nat_le, nat_lt}
use Rattle.lists.specs.Tables.{overwrite}
use Rattle.refusal.specs.Outcome.{Outcome, given, refused, answer_outcome}
use Rattle.summed.specs.declared.SumState.{SumState}
use Rattle.summed.specs.declared.Summed.{Summed}
use Rattle.summed.specs.Totals.{no_totals, run_sound, with_component, code_bytes}

-- component 0 is next
abbrev pub start_state : SumState
start_state = record { next = 0; first = 0; second = 0 }

-- what a call leaves: its answer, the state, the totals and the output
pub record SumLeft : Type 0 where
  pub answer : Outcome ℕ
  pub state : SumState
  pub totals : List ℕ
  pub out : List ℕ

abbrev pub sum_left : Summed → List ℕ → List ℕ → SumLeft
sum_left s totals out = record { answer = answer_outcome s.answer; state = s.state; totals = totals; out = out }

-- refused: all is as it was
abbrev pub sum_refused : ℕ → SumState → List ℕ → List ℕ → SumLeft
sum_refused n s totals out = record { answer = refused n; state = s; totals = totals; out = out }

-- ---- what is refused

-- 2,048 totals, 2,048 numbers in 1,024 pairs, and 4,096 bytes or more for the output, at every component
abbrev pub are_lengths : ℕ → ℕ → ℕ → Bool
are_lengths totals pairs out = totals == 2048 && pairs == 2048 && nat_le 4096 out

-- the next component is one of the eight, and the totals of both masks are sound
unfoldable pub sound : SumState → List ℕ → Bool
sound s totals = nat_lt s.next 8 && (run_sound s.first s.next (take 1024 totals) && run_sound s.second s.next (drop 1024 totals))

-- ---- what is accepted

-- the state at component n with the masks that hold for it: those that come with component 0, and later its own
abbrev pub in_force : SumState → ℕ → ℕ → ℕ → SumState
in_force s n first second = cond (n == 0) (record { next = n; first = first; second = second }) s

-- the totals with the next component added where each mask has it
unfoldable pub totals_with : SumState → List ℤ → List ℕ → List ℕ
totals_with s pairs totals =
    with_component s.first s.next pairs (take 1024 totals) ++ with_component s.second s.next pairs (drop 1024 totals)

-- the same masks with another next component
abbrev pub moved_to : ℕ → SumState → SumState
moved_to n s = record { next = n; first = s.first; second = s.second }

-- before the eighth: no byte is written
abbrev pub after_earlier : SumState → List ℕ → List ℕ → SumLeft
after_earlier s sums out = record { answer = given 0; state = moved_to (s.next + 1) s; totals = sums; out = out }

-- after the eighth: the codes of both runs are written, the first mask's first, all totals become 0, and component 0 is next
abbrev pub after_eighth : SumState → List ℕ → List ℕ → SumLeft
after_eighth s sums out = record { answer = given 4096; state = moved_to 0 s; totals = no_totals; out = overwrite (code_bytes sums) out }

abbrev pub accepted : SumState → List ℤ → List ℕ → List ℕ → SumLeft
accepted s pairs totals out = cond (nat_lt s.next 7) (after_earlier s (totals_with s pairs totals) out) (after_eighth s (totals_with s pairs totals) out)

-- ---- the call

unfoldable pub component_summed : SumState → List ℕ → ℕ → ℕ → ℕ → List ℤ → List ℕ → SumLeft
component_summed s totals n first second pairs out =
    cond (not (are_lengths (length totals) (length pairs) (length out))) (sum_refused 2 s totals out)
    (cond (not (sound s totals)) (sum_refused 3 s totals out)
    (cond (not (n == s.next)) (sum_refused 17 s totals out)
    (accepted (in_force s n first second) pairs totals out)))
