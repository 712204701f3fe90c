-- The claims of specs/Claims.antt. Assumes nothing.
use Prim.Native.Nat.{ℕ, ◌^◌, ◌≤◌, ◌<◌}
use mathlib.Core.Path.{◌≡◌, refl, sym, ap, subst, ◌∙◌}
use mathlib.Core.Bool.{true, false, false≢true}
use mathlib.Core.List.{List}
use native.Mathlib.Omega.{arith}
use borrow.Author.Tests.{le-leb, lt-leb, leb-true, leb-false, ne_eqb}
use lib.Dec.{leb, ltb, eqb}
use lib.ListN.{length, get_or-append}
use Rattle.lists.specs.Tables.{tabulate, overwrite}
use Rattle.lists.proofs.Tables.{length-tabulate, get_d_tabulate}
use Rattle.lists.proofs.Overwriting.{length-overwrite, get_d-overwrite}
use Rattle.lists.proofs.Choices.{cond-at, by_cases}
use Rattle.refusal.specs.Outcome.{Filled, unfilled}
use Rattle.registers.specs.declared.Registers.{Registers}
use Rattle.registers.specs.Access.{register}
use Rattle.checker.specs.Check.{Judged, accepted, refused_at, Checked, commands_checked}
use Rattle.checker.specs.Claims.{refuses_list}
use Rattle.checker.proofs.Theorems.{check-refusals}
use Rattle.dfb_refusals.specs.Numbers.{above63, outcome_number, with_offset, Parts}
use Rattle.dfb_refusals.proofs.Values.{values-fit}
use Rattle.dfb_refusals.proofs.Apart.{Below, given_below, refused-below, told-apart, offset-parts}
use Rattle.dfb_checker.specs.Answer.{judged_answer, check_answer}
use Rattle.dfb_checker.specs.Claims.{CheckCommandsApart, Given, CheckCommandsGiven, CheckCommandsParts}

abbrev Under : Filled ℕ → Type 0
Under f = Below above63 f.answer

judged-below : (j : Judged) (r : Registers) (list : List ℕ) → Under (judged_answer j r list)
judged-below accepted r list =
    cond-at Under (ltb (length list) (length (tabulate 7 (register r)))) (λ e. refused-below above63 2) (λ e. given_below above63 0 (omega arith))
judged-below (refused_at n offset) r list = refused-below above63 (with_offset n offset)

check-below : (log list : List ℕ) → Under (check_answer log list)
unfolding check_answer
check-below log list =
    cond-at Under (leb (2 ^ 55) (length log)) (λ e. refused-below above63 2) (λ e. judged-below (commands_checked log).judged (commands_checked log).registers list)

pub check-commands-apart : CheckCommandsApart
check-commands-apart log list = told-apart above63 _ (check-below log list)

-- a log that is too long is refused, and any other is answered by its verdict
pub too_long : (log list : List ℕ) → 2 ^ 55 ≤ length log → unfilled 2 list ≡ check_answer log list
unfolding check_answer
too_long log list h = simp (le-leb (2 ^ 55) (length log) h)

pub verdict-answered : (log list : List ℕ) (j : Judged) → length log < 2 ^ 55 → (commands_checked log).judged ≡ j
    → check_answer log list ≡ judged_answer j (commands_checked log).registers list
unfolding check_answer
verdict-answered log list j short e =
    simp (lt-leb (2 ^ 55) (length log) short) (ap (λ (x : Judged). judged_answer x (commands_checked log).registers list) e)

-- the numbers of the check's refusals are below 256
listed-most : (n : ℕ) → refuses_list n ≡ true → n ≤ 21
listed-most n e =
    by_cases (leb n 21) (λ t. leb-true n 21 t)
    (λ t.
    let h : 21 < n = leb-false n 21 t in
    let other : (k : ℕ) → k ≤ 21 → eqb n k ≡ false = λ k l. ne_eqb n k (λ q. absurd (omega (arith, q))) in
    absurd (false≢true (rw (other 9 (omega arith), other 10 (omega arith), other 18 (omega arith), other 1 (omega arith), other 20 (omega arith), other 19 (omega arith), other 21 (omega arith)) at e)))

pub check-commands-parts : CheckCommandsParts
check-commands-parts log list n offset short e =
    let w = check-refusals log n offset e in
    subst (λ (f : Filled ℕ). Parts (outcome_number above63 f.answer) n offset) (sym (verdict-answered log list (refused_at n offset) short e))
    (offset-parts n offset (omega (arith, listed-most n w.listed)) (omega (arith, w.inside)))

module _ (r : Registers) (list : List ℕ) (room : 7 ≤ length list) where
  long : length (tabulate 7 (register r)) ≡ 7
  long = length-tabulate 7 (register r)

  given-seven : Given r list (overwrite (tabulate 7 (register r)) list) 0
  given-seven =
      record {
        zero = refl;
        same = length-overwrite (tabulate 7 (register r)) list (omega (arith, long));
        front = λ n l. get_or-append (tabulate 7 (register r)) _ 0 n (omega (arith, long)) ∙ get_d_tabulate 7 (register r) 0 n l;
        rest = λ n l. get_d-overwrite (tabulate 7 (register r)) list n 0 (omega (arith, long));
      }

pub check-commands-given : CheckCommandsGiven
check-commands-given log list r short e room =
    let put = verdict-answered log list accepted short (ap (λ (v : Checked). v.judged) e)
    ∙ ap (λ (x : Registers). judged_answer accepted x list) (ap (λ (v : Checked). v.registers) e)
    ∙ sym (values-fit (record { number = 0; values = tabulate 7 (register r) }) list (omega (arith, long r list room))) in
    subst (λ (f : Filled ℕ). Given r list f.buffer (outcome_number above63 f.answer)) (sym put) (given-seven r list room)
