-- Laws of a packet's bytes: the header that they have, and the bytes that a header has. Assumes nothing.
use Prim.Native.Nat.{ℕ, ◌+◌, ◌*◌, ◌≤◌, ◌<◌}
use mathlib.Core.Path.{◌≡◌, refl, sym, ap, ap₂, subst, ◌∙◌}
use mathlib.Core.Bool.{true}
use mathlib.Core.List.{List, [], ◌∷◌, ◌++◌}
use native.Mathlib.Omega.{arith}
use borrow.Author.Tests.{ltb-false, eqb-true, le-ltb, eq-eqb}
use lib.Count.{ones}
use lib.Dec.{ltb, eqb}
use lib.IntN.{ℤ}
use lib.ListN.{length, get_or, take, drop, length-append}
use Rattle.lists.specs.Bits.{bit}
use Rattle.lists.proofs.Sums.{sum_to-bound}
use Rattle.lists.proofs.Bits.{ones-are-bits}
use Rattle.lists.proofs.Choices.{by_cases, both}
use Rattle.refusal.specs.Outcome.{given}
use Rattle.refusal.proofs.Outcomes.{refused-given, given-same}
use Rattle.words.specs.Words.{AreBytes}
use Rattle.fields.specs.Fields.{number_in, numbers_in, field_bytes, FitFields}
use Rattle.fields.proofs.Samples.{bytes-length}
use Rattle.fields.proofs.Theorems.{numbers-return, bytes-return, numbers_fit}
use Rattle.snapshot.specs.declared.Header.{Header}
use Rattle.snapshot.specs.Packet.{sid, auxiliary_length, fields, field_numbers, header_bytes, packet_bytes, header_in, components, packet_length, is_snapshot, in_range}
use Rattle.snapshot.specs.Calls.{header_found}
use Rattle.snapshot.specs.Claims.{Places, HeaderFits}

pub places : Places
places = record { follow = (refl, (refl, (refl, (refl, (refl, (refl, (refl, (refl, (refl, (refl, (refl, (refl, tt)))))))))))); end = refl }

-- ---- the mask

pub components-ones : (mask : ℕ) → mask < 256 → ones mask ≡ components mask
unfolding components
components-ones mask h = ones-are-bits 8 mask h

pub components-le : (mask : ℕ) → components mask ≤ 8
unfolding components
components-le mask = sum_to-bound 8 (bit mask) 1 (λ n h. omega arith)

-- ---- lengths

pub header-length : (h : Header) → length (header_bytes h) ≡ 20
unfolding header_bytes
header-length h = refl

pub packet-length : (h : Header) (samples : List ℤ) → length (packet_bytes h samples) ≡ 20 + 2 * length samples
unfolding packet_bytes
packet-length h samples = length-append (header_bytes h) _ ∙ ap₂ ◌+◌ (header-length h) (bytes-length samples)

-- ---- the header of bytes and the bytes of a header

-- the header of the twelve numbers: that of the numbers in the fields
abbrev pub header_of : List ℕ → Header
header_of xs =
    record {
      coarse = get_or xs 1 0;
      fine = get_or xs 2 0;
      sequence = get_or xs 3 0;
      switches8 = get_or xs 5 0;
      switches12 = get_or xs 6 0;
      mask = get_or xs 7 0;
      total = get_or xs 8 0;
      artefacts = get_or xs 9 0;
      snapshot = get_or xs 10 0;
      number = get_or xs 11 0;
    }

pub header_of-numbers : (bytes xs : List ℕ) → xs ≡ numbers_in fields bytes → header_of xs ≡ header_in bytes
unfolding header_in
header_of-numbers bytes xs e = ap header_of e

module _ (h : Header) (rest : List ℕ) (fits : HeaderFits h) where
  numbers : numbers_in fields (header_bytes h ++ rest) ≡ field_numbers h
  unfolding header_bytes
  numbers = numbers-return fields (field_numbers h) [] rest places.follow fits

  pub header-returns : header_in (header_bytes h ++ rest) ≡ h
  unfolding header_in
  header-returns = ap header_of numbers

  pub sid-returns : number_in sid (header_bytes h ++ rest) ≡ 33
  sid-returns = ap (λ (l : List ℕ). get_or l 0 0) numbers

  pub auxiliary-returns : number_in auxiliary_length (header_bytes h ++ rest) ≡ 8
  auxiliary-returns = ap (λ (l : List ℕ). get_or l 4 0) numbers

module _ (packet : List ℕ) (are : AreBytes packet) (s : number_in sid packet ≡ 33) (a : number_in auxiliary_length packet ≡ 8) where
  -- the numbers of the header that a packet has are the packet's
  same_numbers : field_numbers (header_in packet) ≡ numbers_in fields packet
  unfolding header_in
  same_numbers =
      ap₂
      (λ (x y : ℕ). x ∷ get_or (numbers_in fields packet) 1 0 ∷ get_or (numbers_in fields packet) 2 0 ∷ get_or (numbers_in fields packet) 3 0 ∷ y ∷ drop 5 (numbers_in fields packet))
      (sym s) (sym a)

  pub header-fits : HeaderFits (header_in packet)
  header-fits = subst (FitFields fields) (sym same_numbers) (numbers_fit fields packet are)

  pub header-bytes-return : 20 ≤ length packet → header_bytes (header_in packet) ≡ take 20 packet
  unfolding header_bytes
  header-bytes-return long = ap (field_bytes fields) same_numbers ∙ bytes-return fields packet 0 are places.follow long

-- ---- packets that are accepted

-- what a packet whose header is found has
pub record Accepted (packet : List ℕ) (h : Header) : Type 0 where
  pub header : header_in packet ≡ h
  pub long : 20 ≤ length packet
  pub is-sid : number_in sid packet ≡ 33
  pub is-auxiliary : number_in auxiliary_length packet ≡ 8
  pub range : in_range h ≡ true
  pub whole : length packet ≡ packet_length h.mask

pub accepted : (packet : List ℕ) (h : Header) → header_found packet ≡ given h → Accepted packet h
unfolding header_found
accepted packet h e =
    by_cases (ltb (length packet) 20) (λ p. absurd (refused-given 16 h (rw p at e)))
    (λ p. by_cases (is_snapshot packet)
    (λ q. by_cases (in_range (header_in packet))
    (λ r. by_cases (eqb (length packet) (packet_length (header_in packet).mask))
    (λ t. let same : header_in packet ≡ h = given-same (header_in packet) h (rw (p, q, r, t) at e) in
    let is = both (eqb (number_in sid packet) 33) (eqb (number_in auxiliary_length packet) 8) q in
    record {
      header = same;
      long = ltb-false (length packet) 20 p;
      is-sid = eqb-true _ _ is.0;
      is-auxiliary = eqb-true _ _ is.1;
      range = ap in_range (sym same) ∙ r;
      whole = eqb-true _ _ t ∙ ap (λ (g : Header). packet_length g.mask) same;
    })
    (λ t. absurd (refused-given 16 h (rw (p, q, r, t) at e))))
    (λ r. absurd (refused-given 15 h (rw (p, q, r) at e))))
    (λ q. absurd (refused-given 14 h (rw (p, q) at e))))

pub accepts : (packet : List ℕ) (h : Header) → Accepted packet h → header_found packet ≡ given h
unfolding header_found
accepts packet h a =
    rw (le-ltb (length packet) 20 a.long, eq-eqb (number_in sid packet) 33 a.is-sid, eq-eqb (number_in auxiliary_length packet) 8 a.is-auxiliary, a.header, a.range, eq-eqb (length packet) (packet_length h.mask) a.whole)
