-- Numbers of one or more bytes, high byte first, in the fields of a packet. Assumes nothing.
use Rattle.std.specs.Prelude.{ℕ, zero, suc, ◌+◌, ◌*◌, ◌/◌, ◌%◌, ◌^◌, ◌<◌, ◌≡◌, List, [], ◌∷◌, ◌++◌, get_or}

-- the number that n bytes from a place on are, high byte first
abbrev pub number_at : ℕ → List ℕ → ℕ → ℕ
number_at zero bytes at = 0
number_at (suc n) bytes at = number_at n bytes at * 256 + get_or bytes (at + n) 0

-- the n bytes of a number, high byte first
abbrev pub number_bytes : ℕ → ℕ → List ℕ
number_bytes zero x = []
number_bytes (suc n) x = number_bytes n (x / 256) ++ (x % 256 ∷ [])

-- a field: the place of its first byte, and its number of bytes
pub record Field : Type 0 where
  pub at : ℕ
  pub size : ℕ

-- the number in a field, and in each of several
abbrev pub number_in : Field → List ℕ → ℕ
number_in f bytes = number_at f.size bytes f.at

abbrev pub numbers_in : List Field → List ℕ → List ℕ
numbers_in [] bytes = []
numbers_in (f ∷ fs) bytes = number_in f bytes ∷ numbers_in fs bytes

-- the bytes of fields that follow one another, by their numbers
abbrev pub field_bytes : List Field → List ℕ → List ℕ
field_bytes [] xs = []
field_bytes (f ∷ fs) [] = []
field_bytes (f ∷ fs) (x ∷ xs) = number_bytes f.size x ++ field_bytes fs xs

-- the bytes of all fields
abbrev pub size_of : List Field → ℕ
size_of [] = 0
size_of (f ∷ fs) = f.size + size_of fs

-- the first field begins at the place, and each other one where the one before it ends
abbrev pub FollowFrom : ℕ → List Field → Type 0
FollowFrom at [] = Unit {0}
FollowFrom at (f ∷ fs) = (f.at ≡ at) × FollowFrom (at + f.size) fs

-- a number for each field, which its bytes hold
abbrev pub FitFields : List Field → List ℕ → Type 0
FitFields [] xs = xs ≡ []
FitFields (f ∷ fs) [] = ⊥
FitFields (f ∷ fs) (x ∷ xs) = (x < 256 ^ f.size) × FitFields fs xs
