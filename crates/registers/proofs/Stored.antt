-- The fields of a stored value; storing what is stored changes nothing; and a register can store a value exactly if each field of the
-- value is within its limit. Assumes nothing.
use Prim.Native.Nat.{ℕ, ◌+◌, ◌*◌, ◌/◌, ◌<◌, ◌≤◌}
use mathlib.Core.Path.{◌≡◌, refl, ap, sym, ◌∙◌}
use mathlib.Core.Bool.{Bool, true, false, cond, ◌&&◌, false≢true}
use native.Mathlib.Nat.{le_trans, le_of_eq}
use native.Mathlib.Omega.{arith}
use borrow.Author.Tests.{eq-eqb, ne_eqb, eqb-true, le-leb, lt-ltb, ltb-true}
use lib.Dec.{eqb, leb, ltb, lit≤}
use Rattle.lists.proofs.Choices.{both}
use Rattle.registers.specs.Store.{limited, source_of, enable_of, bins_of, navg_of, ncad_of, high_stored, low_stored, stored_at, can_store}
use Rattle.registers.proofs.Laws.{limited-le, limited-again, high_le, low-lt}

-- the fields of a value that is put together from a high part of three fields and a low part of two
module _ (ncad navg bins enable source : ℕ) (hn : navg < 16) (hb : bins < 4) (he : enable < 2) (hs : source < 32) where
  abbrev whole : ℕ
  whole = ncad * 4096 + navg * 256 + bins * 64 + (enable * 32 + source)

  fields-of : (ncad_of whole ≡ ncad) × (navg_of whole ≡ navg) × (bins_of whole ≡ bins) × (enable_of whole ≡ enable) × (source_of whole ≡ source)
  fields-of = omega arith

-- the fields of the low part alone
low-fields : (enable source : ℕ) → enable < 2 → source < 32 → (enable_of (enable * 32 + source) ≡ enable) × (source_of (enable * 32 + source) ≡ source)
low-fields enable source he hs = omega arith

-- the fields of the value that 0x30 stores
module _ (v : ℕ) where
  abbrev first : ℕ
  first = high_stored v + low_stored 0x03 v

  pub first-fields : (ncad_of first ≡ limited 0xA 6 (ncad_of v)) × (navg_of first ≡ limited 0xA 3 (navg_of v)) × (bins_of first ≡ limited 2 1 (bins_of v))
      × (enable_of first ≡ enable_of v) × (source_of first ≡ limited 0x16 0x03 (source_of v))
  unfolding high_stored low_stored
  first-fields =
      let a : limited 0xA 3 (navg_of v) ≤ 10 = limited-le 10 3 (navg_of v) (lit≤ tt) in
      let b : limited 2 1 (bins_of v) ≤ 2 = limited-le 2 1 (bins_of v) (lit≤ tt) in
      let s : limited 0x16 0x03 (source_of v) ≤ 22 = limited-le 22 3 (source_of v) (lit≤ tt) in
      fields-of (limited 0xA 6 (ncad_of v)) (limited 0xA 3 (navg_of v)) (limited 2 1 (bins_of v)) (enable_of v) (limited 0x16 0x03 (source_of v)) (omega arith) (omega arith) (omega arith) (omega arith)

  first-again : high_stored first + low_stored 0x03 first ≡ first
  unfolding high_stored low_stored
  first-again =
      simp (
        first-fields.0,
        first-fields.1,
        first-fields.2,
        first-fields.3,
        first-fields.4,
        limited-again 0xA 6 (ncad_of v) (lit≤ tt),
        limited-again 0xA 3 (navg_of v) (lit≤ tt),
        limited-again 2 1 (bins_of v) (lit≤ tt),
        limited-again 0x16 0x03 (source_of v) (lit≤ tt),
      )

low-source : (v : ℕ) → source_of (low_stored 0x12 v) ≡ limited 0x16 0x12 (source_of v)
unfolding low_stored
low-source v =
    let s : limited 0x16 0x12 (source_of v) ≤ 22 = limited-le 22 18 (source_of v) (lit≤ tt) in
    (low-fields (enable_of v) (limited 0x16 0x12 (source_of v)) (omega arith) (omega arith)).1

low_again : (v : ℕ) → low_stored 0x12 (low_stored 0x12 v) ≡ low_stored 0x12 v
unfolding low_stored
low_again v =
    let s : limited 0x16 0x12 (source_of v) ≤ 22 = limited-le 22 18 (source_of v) (lit≤ tt) in
    let f = low-fields (enable_of v) (limited 0x16 0x12 (source_of v)) (omega arith) (omega arith) in
    simp (f.0, f.1, limited-again 0x16 0x12 (source_of v) (lit≤ tt))

-- storing what is stored changes nothing
pub stored-again : (n v : ℕ) → stored_at n (stored_at n v) ≡ stored_at n v
unfolding stored_at
stored-again n v = by (eqb n 0)
  where
    by : (b : Bool)
        → cond b (high_stored (cond b (first v) (low_stored 0x12 v)) + low_stored 0x03 (cond b (first v) (low_stored 0x12 v))) (low_stored 0x12 (cond b (first v) (low_stored 0x12 v)))
        ≡ cond b (first v) (low_stored 0x12 v)
    by true = first-again v
    by false = low_again v

-- a stored value is 16 bits wide
pub stored-lt : (n v : ℕ) → stored_at n v < 65536
unfolding stored_at
stored-lt n v = by (eqb n 0)
  where
    by : (b : Bool) → cond b (first v) (low_stored 0x12 v) < 65536
    by true = omega (arith, high_le v, low-lt 3 v (lit≤ tt))
    by false = omega (arith, low-lt 18 v (lit≤ tt))

-- the fields of the value that 0x30 stores are within their limits
pub record Within (v : ℕ) : Type 0 where
  pub bins : bins_of v ≤ 2
  pub navg : navg_of v ≤ 0xA
  pub ncad : ncad_of v ≤ 0xA

pub first-stored : (v : ℕ) → Within (stored_at 0 v)
unfolding stored_at
first-stored v =
    let f = first-fields v in
    record {
      bins = le_trans (le_of_eq f.2) (limited-le 2 1 (bins_of v) (lit≤ tt));
      navg = le_trans (le_of_eq f.1) (limited-le 0xA 3 (navg_of v) (lit≤ tt));
      ncad = le_trans (le_of_eq f.0) (limited-le 0xA 6 (ncad_of v) (lit≤ tt));
    }

-- two tests that hold together are equal
same_test : (a b : Bool) → (a ≡ true → b ≡ true) → (b ≡ true → a ≡ true) → a ≡ b
same_test true true h k = refl
same_test true false h k = absurd (false≢true (h refl))
same_test false true h k = absurd (false≢true (k refl))
same_test false false h k = refl

-- no register can store a source over the limit
pub source-over : (n v : ℕ) → 0x16 < source_of v → can_store n v ≡ false
unfolding stored_at
source-over n v over = by (eqb n 0)
  where
    by : (b : Bool) → eqb (cond b (first v) (low_stored 0x12 v)) v ≡ false
    by true = ne_eqb (first v) v (λ e. omega (arith, sym (ap source_of e) ∙ (first-fields v).4, limited-le 0x16 0x03 (source_of v) (lit≤ tt)))
    by false = ne_eqb (low_stored 0x12 v) v (λ e. omega (arith, sym (ap source_of e) ∙ low-source v, limited-le 0x16 0x12 (source_of v) (lit≤ tt)))

-- a value is put together from its fields
whole_of : (v : ℕ) → ncad_of v * 4096 + navg_of v * 256 + bins_of v * 64 + (enable_of v * 32 + source_of v) ≡ v
whole_of v =
    let a : v / 32 / 2 ≡ v / 64 = omega arith in
    let b : v / 64 / 4 ≡ v / 256 = omega arith in
    let d : v / 256 / 16 ≡ v / 4096 = omega arith in
    omega arith

-- with a source within the limit, 0x30 can store a value exactly if the other fields are within theirs
pub first-can : (v : ℕ) → source_of v ≤ 0x16 → can_store 0 v ≡ (leb (ncad_of v) 0xA && (leb (navg_of v) 0xA && leb (bins_of v) 2))
unfolding stored_at high_stored low_stored
first-can v h = same_test (can_store 0 v) within only if-so
  where
    within : Bool
    within = leb (ncad_of v) 0xA && (leb (navg_of v) 0xA && leb (bins_of v) 2)

    only : can_store 0 v ≡ true → within ≡ true
    only t =
        let e : first v ≡ v = eqb-true _ _ t in
        simp (
          le-leb (ncad_of v) 0xA (omega (arith, sym (ap ncad_of e) ∙ (first-fields v).0, limited-le 0xA 6 (ncad_of v) (lit≤ tt))),
          le-leb (navg_of v) 0xA (omega (arith, sym (ap navg_of e) ∙ (first-fields v).1, limited-le 0xA 3 (navg_of v) (lit≤ tt))),
          le-leb (bins_of v) 2 (omega (arith, sym (ap bins_of e) ∙ (first-fields v).2, limited-le 2 1 (bins_of v) (lit≤ tt))),
        )

    if-so : within ≡ true → can_store 0 v ≡ true
    if-so t =
        let p = both (leb (ncad_of v) 0xA) (leb (navg_of v) 0xA && leb (bins_of v) 2) t in
        let q = both (leb (navg_of v) 0xA) (leb (bins_of v) 2) p.1 in
        eq-eqb (first v) v (rw (p.0, q.0, q.1, le-leb (source_of v) 0x16 h) (whole_of v))

-- any other register can then store it exactly if bits 15:6 are 0
pub other-can : (n v : ℕ) → (n ≡ 0 → ⊥) → source_of v ≤ 0x16 → can_store n v ≡ ltb v 64
unfolding stored_at low_stored
other-can n v other h = rw (ne_eqb n 0 other) (same_test (eqb (low_stored 0x12 v) v) (ltb v 64) only if-so)
  where
    only : eqb (low_stored 0x12 v) v ≡ true → ltb v 64 ≡ true
    only t = let e : low_stored 0x12 v ≡ v = eqb-true _ _ t in lt-ltb v 64 (omega (arith, low-lt 0x12 v (lit≤ tt)))

    if-so : ltb v 64 ≡ true → eqb (low_stored 0x12 v) v ≡ true
    if-so t = let l : v < 64 = ltb-true v 64 t in eq-eqb (low_stored 0x12 v) v (rw (le-leb (source_of v) 0x16 h) (omega arith))
