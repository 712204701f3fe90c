-- `snapshot::header_bytes` meets its contract: the bytes of each field. Assumes nothing.
use Prim.Native.Nat.{ℕ, ◌/◌, ◌%◌}
use mathlib.Core.Path.{◌≡◌, refl, ap₂}
use mathlib.Core.List.{List, [], ◌∷◌, ◌++◌}
use native.Mathlib.Omega.{arith}
use lib.Dec.{lit<}
use Rattle.std.specs.Int.{to_be_bytes}
use Rattle.std.proofs.Common.{w16, w32, rules}
use lib.ListN.{get_or}
use Rattle.fields.specs.Fields.{number_bytes}
use Rattle.fields.proofs.Numbers.{byte-bytes}
use Rattle.snapshot.specs.Packet.{header_bytes}
use Rattle.snapshot.proofs.header_bytes.Goals as goal

-- the bytes of no field, and of one more
none : ◌≡◌ {A = List ℕ} [] []
none = refl

more : {a b x y : List ℕ} → a ≡ b → x ≡ y → a ++ x ≡ b ++ y
more e f = ap₂ (λ (a x : List ℕ). a ++ x) e f

-- the bytes of 16 and of 32 bits, one by one
pair : {l : List ℕ} (n : ℕ) → l ≡ to_be_bytes w16 n → get_or l 0 0 ∷ get_or l 1 0 ∷ [] ≡ number_bytes 2 n
pair n e = rw e refl

quad : {l : List ℕ} (n : ℕ) → l ≡ to_be_bytes w32 n → get_or l 0 0 ∷ get_or l 1 0 ∷ get_or l 2 0 ∷ get_or l 3 0 ∷ [] ≡ number_bytes 4 n
quad n e =
    let first : n / 16777216 % 256 ≡ n / 256 / 256 / 256 % 256 = omega arith in
    let second : n / 65536 % 256 ≡ n / 256 / 256 % 256 = omega arith in
    rw e (ap₂ (λ (a b : ℕ). a ∷ b ∷ n / 256 % 256 ∷ n % 256 ∷ []) first second)

pub returns : goal.returns
unfolding header_bytes
returns c =
    let h = c.args.header in
    more (byte-bytes 33 (lit< tt))
    (more (pair h.coarse c.to_be_bytes.ensures)
    (more (pair h.fine c.to_be_bytes-2.ensures)
    (more (pair h.sequence c.to_be_bytes-3.ensures)
    (more (byte-bytes 8 (lit< tt))
    (more (quad h.switches8 c.to_be_bytes-4.ensures)
    (more (byte-bytes h.switches12 (search rules))
    (more (byte-bytes h.mask (search rules))
    (more (pair h.total c.to_be_bytes-5.ensures)
    (more (byte-bytes h.artefacts (search rules))
    (more (byte-bytes h.snapshot (search rules))
    (more (pair h.number c.to_be_bytes-6.ensures) none)))))))))))
