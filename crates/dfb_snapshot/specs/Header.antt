-- A header as a C program holds it: ten numbers.
use Rattle.std.specs.Prelude.{ℕ, Bool, ◌&&◌, List, [], ◌∷◌, leb, eqb, length, get_or}
use Rattle.lists.specs.Sums.{all_to}
use Rattle.snapshot.specs.declared.Header.{Header}

abbrev pub header_numbers : Header → List ℕ
header_numbers h =
    h.coarse ∷ h.fine ∷ h.sequence ∷ h.switches8 ∷ h.switches12 ∷ h.mask ∷ h.total ∷ h.artefacts
    ∷ h.snapshot ∷ h.number ∷ []

abbrev pub header_of : List ℕ → Header
header_of numbers =
    record {
      coarse = get_or numbers 0 0;
      fine = get_or numbers 1 0;
      sequence = get_or numbers 2 0;
      switches8 = get_or numbers 3 0;
      switches12 = get_or numbers 4 0;
      mask = get_or numbers 5 0;
      total = get_or numbers 6 0;
      artefacts = get_or numbers 7 0;
      snapshot = get_or numbers 8 0;
      number = get_or numbers 9 0;
    }

-- the greatest number that the bits at each place hold: 16, 16, 16, 32, 8, 8, 16, 8, 8 and 16
abbrev pub limits : List ℕ
limits = 65535 ∷ 65535 ∷ 65535 ∷ 4294967295 ∷ 255 ∷ 255 ∷ 65535 ∷ 255 ∷ 255 ∷ 65535 ∷ []

-- ten numbers, each of which fits its bits
unfoldable pub header_taken : List ℕ → Bool
header_taken numbers = eqb (length numbers) 10 && all_to 10 (λ i. leb (get_or numbers i 0) (get_or limits i 0))
