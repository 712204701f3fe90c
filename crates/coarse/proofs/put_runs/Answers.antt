use Rattle.std.proofs.Common.{arith, ◌≡◌, ◌+◌, ◌*◌, ◌≤◌, ◌<◌, ℕ, List, ap, ◌∙◌, length, get_or}
use Rattle.lists.specs.Sums.{sum_to}
use Rattle.lists.specs.Tables.{tabulate, overwrite}
use Rattle.lists.proofs.Sums.{sum_to-ext}
use Rattle.lists.proofs.Tables.{length-tabulate}
use Rattle.lists.proofs.Overwriting.{part, length_part, get_d_part, table_none, table_more, overwrite-all}
use Rattle.coarse.specs.Coarse.{fine_total}
use Rattle.coarse.specs.Private.{run_sums, RunsOfLength}
use Rattle.coarse.proofs.Taken.{taken-part}
use Rattle.coarse.proofs.Segments.{run_end}
use Rattle.coarse.proofs.put_runs.Goals as goal

-- the sum of run i
abbrev sum_of : ℕ → List ℕ → ℕ → ℕ
sum_of len fine i = sum_to len (λ j. fine_total fine (i * len + j))

-- run i ends within the totals
within : (len : ℕ) (fine out : List ℕ) (i : ℕ) → RunsOfLength len fine out → i < length out → i * len + len ≤ length fine
within len fine out i r l = omega (arith, run_end len (length out) i l, r.whole)

pub loop-i-init : goal.loop-i-init
loop-i-init c = table_none _ _

pub run_sum-requires-clause-run_value : goal.run_sum-requires-clause-run_value
run_sum-requires-clause-run_value c =
    let a = c.args in
    let room = within a.len a.fine.now a.out.now c.loop-i.i c.requires c.loop-i-test.true in
    taken-part a.fine.now (c.loop-i.i * a.len) a.len room c.requires.taken

pub loop-i-preserved : goal.loop-i-preserved
loop-i-preserved c =
    let a = c.args in
    let fine = a.fine.now in
    let l = c.loop-i in
    let k = l.i * a.len in
    let room = within a.len fine a.out.now l.i c.requires c.loop-i-test.true in
    let sum : c.run_sum.result ≡ sum_of a.len fine l.i =
    c.run_sum.ensures
    ∙ ap (λ (n : ℕ). sum_to n (λ j. get_or (part fine k a.len) j 0)) (length_part fine k a.len room)
    ∙ sum_to-ext a.len _ _ (λ j h. get_d_part fine k a.len j 0 h)
    in
    table_more _ a.out.now l.i c.run_sum.result 0 l.out l.invariant c.loop-i-test.true sum

pub returns : goal.returns
unfolding run_sums
returns c =
    let a = c.args in
    let l = c.loop-i in
    let e : l.i ≡ length a.out.now = omega arith in
    let sums = tabulate (length a.out.now) (sum_of a.len a.fine.now) in
    l.invariant ∙ ap (λ (n : ℕ). overwrite (tabulate n (sum_of a.len a.fine.now)) a.out.now) e
    ∙ overwrite-all sums a.out.now (length-tabulate (length a.out.now) (sum_of a.len a.fine.now))
