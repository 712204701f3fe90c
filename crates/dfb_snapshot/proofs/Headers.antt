-- Headers as ten numbers: those that are taken, and the header that they are. Assumes nothing.
use Prim.Native.Nat.{ℕ, ◌≤◌, ◌<◌}
use mathlib.Core.Path.{◌≡◌, refl, sym}
use mathlib.Core.Bool.{Bool, true}
use mathlib.Core.List.{List}
use native.Mathlib.Omega.{arith}
use borrow.Author.Tests.{leb-true, eqb-true, le-leb}
use lib.Dec.{leb, eqb, lit<}
use lib.ListN.{length, get_or}
use Rattle.lists.specs.Sums.{all_to}
use Rattle.lists.specs.Tables.{tabulate}
use Rattle.lists.proofs.Choices.{both}
use Rattle.lists.proofs.Sums.{all_to-at}
use Rattle.lists.proofs.Tables.{tabulate-of}
use Rattle.snapshot.specs.declared.Header.{Header}
use Rattle.snapshot.specs.Claims.{HeaderFits}
use Rattle.dfb_snapshot.specs.Header.{header_numbers, header_of, limits, header_taken}

-- the test of one number
abbrev pub fits_at : List ℕ → ℕ → Bool
fits_at numbers i = leb (get_or numbers i 0) (get_or limits i 0)

-- what ten numbers that are taken have
pub record Taken (numbers : List ℕ) : Type 0 where
  pub long : length numbers ≡ 10
  pub coarse : get_or numbers 0 0 ≤ 65535
  pub fine : get_or numbers 1 0 ≤ 65535
  pub sequence : get_or numbers 2 0 ≤ 65535
  pub switches8 : get_or numbers 3 0 ≤ 4294967295
  pub switches12 : get_or numbers 4 0 ≤ 255
  pub mask : get_or numbers 5 0 ≤ 255
  pub total : get_or numbers 6 0 ≤ 65535
  pub artefacts : get_or numbers 7 0 ≤ 255
  pub snapshot : get_or numbers 8 0 ≤ 255
  pub number : get_or numbers 9 0 ≤ 65535

pub taken : (numbers : List ℕ) → header_taken numbers ≡ true → Taken numbers
unfolding header_taken
taken numbers e =
    let t = both (eqb (length numbers) 10) (all_to 10 (fits_at numbers)) e in
    record {
      long = eqb-true _ _ t.0;
      coarse = at t.1 0 (lit< tt);
      fine = at t.1 1 (lit< tt);
      sequence = at t.1 2 (lit< tt);
      switches8 = at t.1 3 (lit< tt);
      switches12 = at t.1 4 (lit< tt);
      mask = at t.1 5 (lit< tt);
      total = at t.1 6 (lit< tt);
      artefacts = at t.1 7 (lit< tt);
      snapshot = at t.1 8 (lit< tt);
      number = at t.1 9 (lit< tt);
    }
  where
    at : all_to 10 (fits_at numbers) ≡ true → (i : ℕ) → i < 10 → get_or numbers i 0 ≤ get_or limits i 0
    at all i h = leb-true (get_or numbers i 0) (get_or limits i 0) (all_to-at 10 (fits_at numbers) all i h)

-- they fit the fields of the packet
pub taken-fits : (numbers : List ℕ) → Taken numbers → HeaderFits (header_of numbers)
taken-fits numbers t = (
  lit< tt,
  (
    omega (arith, t.coarse),
    (
      omega (arith, t.fine),
      (
        omega (arith, t.sequence),
        (
          lit< tt,
          (
            omega (arith, t.switches8),
            (
              omega (arith, t.switches12),
              (
                omega (arith, t.mask),
                (
                  omega (arith, t.total),
                  (
                    omega (arith, t.artefacts),
                    (
                      omega (arith, t.snapshot),
                      (omega (arith, t.number), refl),
                    ),
                  ),
                ),
              ),
            ),
          ),
        ),
      ),
    ),
  ),
)

-- and numbers that fit them are taken
pub fits-taken : (h : Header) → HeaderFits h → header_taken (header_numbers h) ≡ true
unfolding header_taken all_to
fits-taken h f =
    simp (
      le-leb h.coarse 65535 (omega (arith, f.1.0)),
      le-leb h.fine 65535 (omega (arith, f.1.1.0)),
      le-leb h.sequence 65535 (omega (arith, f.1.1.1.0)),
      le-leb h.switches8 4294967295 (omega (arith, f.1.1.1.1.1.0)),
      le-leb h.switches12 255 (omega (arith, f.1.1.1.1.1.1.0)),
      le-leb h.mask 255 (omega (arith, f.1.1.1.1.1.1.1.0)),
      le-leb h.total 65535 (omega (arith, f.1.1.1.1.1.1.1.1.0)),
      le-leb h.artefacts 255 (omega (arith, f.1.1.1.1.1.1.1.1.1.0)),
      le-leb h.snapshot 255 (omega (arith, f.1.1.1.1.1.1.1.1.1.1.0)),
      le-leb h.number 65535 (omega (arith, f.1.1.1.1.1.1.1.1.1.1.1.0)),
    )

-- the numbers of the header that ten numbers are
pub numbers-return : (numbers : List ℕ) → length numbers ≡ 10 → header_numbers (header_of numbers) ≡ numbers
unfolding tabulate
numbers-return numbers long = sym (tabulate-of 10 (λ i. get_or numbers i 0) 0 numbers long (λ i h. refl))
