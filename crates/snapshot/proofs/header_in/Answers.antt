-- `snapshot::header_in` meets its contract: each field has its number. Assumes nothing.
use Prim.Native.Nat.{ℕ}
use mathlib.Core.Path.{◌≡◌, refl, sym, ap₂}
use mathlib.Core.List.{List, ◌∷◌}
use Rattle.fields.proofs.Numbers.{byte-number}
use Rattle.snapshot.proofs.Packets.{header_of-numbers}
use Rattle.snapshot.proofs.header_in.Goals as goal

-- a list with one number more
more : {x y : ℕ} {l m : List ℕ} → x ≡ y → l ≡ m → x ∷ l ≡ y ∷ m
more e f = ap₂ (λ (x : ℕ) (l : List ℕ). x ∷ l) e f

pub returns : goal.returns
returns c =
    let packet = c.args.packet.now in
    header_of-numbers packet _
    (more refl
    (more c.pair_at.ensures
    (more c.pair_at-2.ensures
    (more c.pair_at-3.ensures
    (more refl
    (more c.quad_at.ensures
    (more (sym (byte-number packet 12))
    (more (sym (byte-number packet 13))
    (more c.pair_at-4.ensures
    (more (sym (byte-number packet 16))
    (more (sym (byte-number packet 17))
    (more c.pair_at-5.ensures refl))))))))))))
