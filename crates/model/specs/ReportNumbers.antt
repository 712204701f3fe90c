-- 02, ticket 13: the numbers of reports. Over demand 3's lists begun from reset, the state's number counts the book's reports since the last
-- accepted command or the start, up to 65,535; that count is taken from the entries of the reference model, and from nothing of the board's.
use Rattle.std.specs.Prelude.{ℕ, ◌+◌, ◌≤◌, min, ◌≡◌, List, [], ◌∷◌, map}
use Rattle.model.specs.Reply.{Reply, refused, stores, idle, collected, waiting, reported}
use Rattle.model.specs.Reference.{Reference, Input, Entry, entry}
use Rattle.model.specs.Calls.{Memory, Call, perform, perform_all, input_of, begin}
use Rattle.model.specs.Demand.{reset_memory, AllTyped}

-- the count after a reply, from the count n before it: an accepted command begins again at 0, a report is one more, all else leaves it
abbrev pub count_reply : {R : Type 0} → ℕ → Reply R → ℕ
count_reply n (stores v) = 0
count_reply n (reported report) = n + 1
count_reply n (refused k) = n
count_reply n idle = n
count_reply n collected = n
count_reply n waiting = n

-- ---- one call

-- the number after a call from any state, sound or not, by the board's answer; it is a 16-bit number before it
abbrev pub NumberByAnswer : Type 0
NumberByAnswer =
    (x : Memory) (c : Call) → x.state.reports ≤ 65535 →
    (perform x c).memory.state.reports ≡ min (count_reply x.state.reports (perform x c).answer) 65535

-- ---- whole lists

-- the entries of the reference model for a list of calls, in order
abbrev pub entries : Reference → List Input → List Entry
entries m [] = []
entries m (i ∷ is) = entry m i ∷ entries (entry m i).next is

-- the count after a list of entries
abbrev pub count_entries : ℕ → List Entry → ℕ
count_entries n [] = n
count_entries n (e ∷ es) = count_entries (count_reply n e.reply) es

-- the book's reports since the last accepted command or the start, for a list of calls from reset
abbrev pub book_reports : List Call → ℕ
book_reports calls = count_entries 0 (entries (begin reset_memory) (map input_of calls))

-- the state's number after each list of calls from reset
abbrev pub ReportNumbers : Type 0
ReportNumbers = (calls : List Call) → AllTyped calls → (perform_all reset_memory calls).state.reports ≡ min (book_reports calls) 65535

-- every count does come, those past 65,535 too
abbrev pub EveryCount : Type 0
EveryCount = (k : ℕ) → (calls : List Call) × AllTyped calls × (book_reports calls ≡ k)
