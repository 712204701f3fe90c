-- For the contract of a private function only. No public contract cites this file.
use Rattle.std.specs.Prelude.{ℕ, ◌≤◌, ◌<◌}
use Rattle.model.specs.Reply.{Reply}
use Rattle.model.specs.Reply as reply

-- each number of an answer fits its place: 16 bits; a report has at most 392 words
abbrev pub Fits : Reply ℕ → ℕ → Type 0
Fits (reply.refused n) reports = n < 0x10000
Fits (reply.stores v) reports = v < 0x10000
Fits reply.idle reports = Unit {0}
Fits reply.collected reports = Unit {0}
Fits reply.waiting reports = Unit {0}
Fits (reply.reported words) reports = (words ≤ 392) × (reports < 0x10000)
