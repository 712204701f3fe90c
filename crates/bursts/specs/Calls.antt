-- 02, ticket 9: whole lists of calls on the slots. Assumes nothing.
use Rattle.std.specs.Prelude.{ℕ, List, [], ◌∷◌, map}
use Rattle.bursts.specs.declared.Slots.{Slots}
use Rattle.bursts.specs.Slots.{offer_outcome, choose_outcome, finish_outcome}

pub data Call : Type 0 where
  offer : ℕ → Call
  choose : Call
  finish : Call

-- the slots after a call
abbrev pub perform : Slots → Call → Slots
perform s (offer x) = (offer_outcome s x).slots
perform s choose = (choose_outcome s).slots
perform s finish = (finish_outcome s).slots

-- the slots after a list of calls, each given the slots as the call before left them
unfoldable pub after_calls : Slots → List Call → Slots
after_calls s [] = s
after_calls s (c ∷ cs) = after_calls (perform s c) cs

abbrev pub offers : List ℕ → List Call
offers xs = map offer xs

-- no call of the list is a finish
abbrev pub NoFinish : List Call → Type 0
NoFinish [] = Unit {0}
NoFinish (offer x ∷ cs) = NoFinish cs
NoFinish (choose ∷ cs) = NoFinish cs
NoFinish (finish ∷ cs) = ⊥
