-- Laws of the line of a verdict: what `verdict_line` leaves. Assumes nothing.
use Rattle.std.specs.Prelude.{Result, Ok}
use mathlib.Core.Bool.{true, false, ◌||◌}
use mathlib.Core.List.{List}
use mathlib.Core.Path.{◌≡◌}
use Prim.Native.Nat.{ℕ, ◌≤◌, ◌<◌}
use native.Mathlib.Omega.{arith}
use borrow.Author.Tests.{lt-ltb, le-ltb}
use lib.Dec.{ltb}
use lib.ListN.{length}
use Rattle.refusal.specs.Outcome.{filled, unfilled}
use Rattle.checker.specs.Check.{Checked}
use Rattle.refusal.specs.declared.Refusal.{Refusal}
use Rattle.listing.specs.declared.put.Text.{Text}
use Rattle.listing.specs.Put.{Put}
use Rattle.listing.specs.Text.{verdict_line}
use Rattle.listing.specs.Verdict.{is_long_offset, line_outcome}
use Rattle.listing.proofs.Whole.{put_whole, within-output}

pub line_small : (v : Checked) (out : List ℕ) → length out < 64 → unfilled 2 out ≡ line_outcome v out
unfolding line_outcome
line_small v out h = rw (lt-ltb (length out) 64 h)

pub line-long : (v : Checked) (out : List ℕ) → 64 ≤ length out → is_long_offset v.judged ≡ true → unfilled 2 out ≡ line_outcome v out
unfolding line_outcome
line-long v out h e = rw (le-ltb (length out) 64 h, e)

pub line-written : {m : ℕ} {a b : Text} (v : Checked) (out : List ℕ) → a.at ≡ 0 → a.out.now ≡ out → 64 ≤ length out → is_long_offset v.judged ≡ false → m ≤ 64
    → Put m a (verdict_line v) b → filled (Ok b.at) b.out.now ≡ line_outcome v out
unfolding line_outcome
line-written v out z o h e k p = rw (le-ltb (length out) 64 h, e) (put_whole out (verdict_line v) z o (omega arith) p)

pub line-within : (v : Checked) (out : List ℕ) {later : List ℕ} {r : Result ℕ Refusal} (n : ℕ) → filled r later ≡ line_outcome v out → r ≡ Ok n → n ≤ length later
unfolding line_outcome
line-within v out n s e = within-output (verdict_line v) out (ltb (length out) 64 || is_long_offset v.judged) n s e
