-- `dfb_snapshot::is_header` meets its contract: ten numbers, and the test of each pair. Assumes nothing.
use Prim.Native.Nat.{ℕ}
use mathlib.Core.Path.{◌≡◌, refl, ap, ◌∙◌}
use mathlib.Core.Bool.{false, and-true, and_assoc}
use mathlib.Core.List.{List}
use native.Mathlib.Omega.{arith}
use borrow.Author.Rules.{rules}
use borrow.Author.Tests.{eq-eqb, ne_eqb, tests}
use lib.Dec.{leb, eqb}
use lib.ListN.{length, get_or}
use Rattle.std.specs.List.{list_all, zip}
use Rattle.std.proofs.lemmas.Iterator.Search.{all_from_yields_List}
use Rattle.std.proofs.lemmas.Iterator.{YieldsList-from_slice, YieldsList-from_zip}
use Rattle.lists.specs.Tables.{tabulate}
use Rattle.lists.proofs.Tables.{tabulate-of}
use Rattle.lists.specs.Sums.{all_to}
use Rattle.dfb_snapshot.specs.Header.{limits, header_taken}
use Rattle.dfb_snapshot.proofs.Headers.{fits_at}
use Rattle.dfb_snapshot.proofs.is_header.Goals as goal

pub returns-else-header-eq-HEADER : goal.returns-else-header-eq-HEADER
unfolding header_taken
returns-else-header-eq-HEADER c =
    let other : eqb (length c.args.header.now) 10 ≡ false = ne_eqb (length c.args.header.now) 10 (λ e. omega (arith, e)) in
    rw other refl

-- the test of ten pairs, one by one
ten : (numbers : List ℕ) → length numbers ≡ 10 → list_all (λ (p : ℕ × ℕ). leb p.0 p.1) (zip numbers limits) ≡ all_to 10 (fits_at numbers)
unfolding all_to tabulate
ten numbers e =
    ap (λ (l : List ℕ). list_all (λ (p : ℕ × ℕ). leb p.0 p.1) (zip l limits)) (tabulate-of 10 (λ i. get_or numbers i 0) 0 numbers e (λ i h. refl))
    ∙ simp (and_assoc, and-true) refl

pub returns-then-header-eq-HEADER : goal.returns-then-header-eq-HEADER
unfolding header_taken
returns-then-header-eq-HEADER c =
    let header = c.args.header.now in
    let long : length header ≡ 10 = omega arith in
    let all : c.all.result ≡ list_all (λ (p : ℕ × ℕ). leb p.0 p.1) (zip header limits) =
    all_from_yields_List (λ (p : ℕ × ℕ). leb p.0 p.1) c.all.new.self _ c.all.result c.all.ensures.ran (YieldsList-from_zip (YieldsList-from_slice header cc) (YieldsList-from_slice limits cc)) (λ x b q k. search (rules, tests)) in
    simp (eq-eqb (length header) 10 long) (all ∙ ten header long)
