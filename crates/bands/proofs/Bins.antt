-- The bins of each band, once over s: which bins are in a band, that the bands follow one another, and where they end. Assumes nothing.
use mathlib.Core.Path.{◌≡◌, sym, ap, ◌∙◌, subst}
use mathlib.Core.Logic.{◌⊎◌, inl, inr}
use Prim.Native.Nat.{ℕ, suc, ◌+◌, ◌-◌, ◌*◌, ◌/◌, ◌^◌, ◌≤◌, ◌<◌, zero-le}
use native.Mathlib.Nat.{lt_irrefl, le_refl, le-suc, lt_of_not-le, le_trans, le_of_eq, eq-or-lt_of_le, mul-zero, suc-mul, mul-suc, mul_comm, add-mul, mul-le-mul_left, add-sub_cancel_left, sub-le, div-lt_iff_lt-mul, div-eq_of_lt-le, div-mul-le_self, mul-div-le, lt-mul-div-succ, lt-div-mul-add, pow-suc}
use native.Mathlib.Decide.{dec_lt, le_ind}
use native.Mathlib.Omega.{arith}
use lib.Pow.{pow_pos, pow-lt, pow-add}
use Rattle.codes.specs.Code.{exponent}
use Rattle.codes.proofs.LeastExponent.{Least, exponent-least, least-full, full-least}
use Rattle.bands.specs.Band.{band_of, width_exponent, band_start, band_width}
use Rattle.bands.specs.Claims.{InBand, BinsOfBand}
use Rattle.bands.proofs.Rule.{band-at, band-exponent}

-- ---- a band b is S · e + m in one way, with m below 2 · S, and at least S unless e is 0

pub record Parts (s e m : ℕ) : Type 0 where
  pub low : m < 2 ^ suc s
  pub full : 0 < e → 2 ^ s ≤ m

module _ (s e m : ℕ) (p : Parts s e m) where
  pub exponent-at : width_exponent s (2 ^ s * e + m) ≡ e
  unfolding width_exponent
  exponent-at = go (eq-or-lt_of_le zero-le)
    where
      go : (0 ≡ e) ⊎ (0 < e) → (2 ^ s * e + m) / 2 ^ s - 1 ≡ e
      go (inl z) =
          let none : 2 ^ s * e ≡ 0 = ap (λ (x : ℕ). 2 ^ s * x) (sym z) ∙ mul-zero (2 ^ s) in
          omega (arith, (div-lt_iff_lt-mul {k = 2 ^ s} {x = 2 ^ s * e + m} {y = 2} (pow_pos s)).1 (omega (arith, p.low, pow-suc 2 s)))
      go (inr h) =
          let is : (2 ^ s * e + m) / 2 ^ s ≡ suc e =
          div-eq_of_lt-le (2 ^ s) (omega (arith, suc-mul e (2 ^ s), mul_comm e (2 ^ s), p.full h))
          (omega (arith, add-mul (suc e) 1 (2 ^ s), suc-mul e (2 ^ s), mul_comm e (2 ^ s), p.low, pow-suc 2 s))
          in
          omega arith

  pub start-at : band_start s (2 ^ s * e + m) ≡ m * 2 ^ e
  unfolding band_start
  start-at = ap (λ (x : ℕ). (2 ^ s * e + m - 2 ^ s * x) * 2 ^ x) exponent-at ∙ ap (λ (x : ℕ). x * 2 ^ e) (add-sub_cancel_left (2 ^ s * e) m)

  pub width-at : band_width s (2 ^ s * e + m) ≡ 2 ^ e
  unfolding band_width
  width-at = ap (λ (x : ℕ). 2 ^ x) exponent-at

-- the m of a band
abbrev rest : ℕ → ℕ → ℕ
rest s b = b - 2 ^ s * width_exponent s b

pub split : (s b : ℕ) → 2 ^ s * width_exponent s b + rest s b ≡ b
unfolding width_exponent
split s b = omega (arith, mul-le-mul_left (2 ^ s) (sub-le (b / 2 ^ s) 1), mul-div-le b (2 ^ s))

parts : (s b : ℕ) → Parts s (width_exponent s b) (rest s b)
unfolding width_exponent
parts s b =
    let e : ℕ = b / 2 ^ s - 1 in
    record {
      low = omega (arith, split s b, pow-suc 2 s, lt-mul-div-succ b (pow_pos s), mul-suc (2 ^ s) e, mul-suc (2 ^ s) (suc e), mul-le-mul_left {m = b / 2 ^ s + 1} {n = suc (suc e)} (2 ^ s) (omega arith));
      full = λ h. omega (arith, mul-suc (2 ^ s) e, mul-div-le b (2 ^ s), mul-le-mul_left {m = suc e} {n = b / 2 ^ s} (2 ^ s) (omega arith));
    }

-- ---- a bin is in a band exactly where the rule says so

pub in-its-band : (s k : ℕ) → InBand s k (band_of s k)
in-its-band s k =
    let e : ℕ = exponent (suc s) k in
    let m : ℕ = k / 2 ^ e in
    let p : Parts s e m = record { low = (exponent-least (suc s) k).fitting; full = least-full s k e (exponent-least (suc s) k) } in
    subst (λ (b : ℕ). InBand s k b) (sym (band-exponent s k))
    (record {
      from = le_trans (le_of_eq (start-at s e m p)) (div-mul-le_self k (2 ^ e));
      before = omega (arith, start-at s e m p, width-at s e m p, lt-div-mul-add {a = k} {b = 2 ^ e} (pow_pos e));
    })

pub band-of-bin : (s k b : ℕ) → InBand s k b → band_of s k ≡ b
unfolding band_start band_width
band-of-bin s k b i =
    let e : ℕ = width_exponent s b in
    let m : ℕ = rest s b in
    let is : k / 2 ^ e ≡ m = div-eq_of_lt-le (2 ^ e) i.from (omega (arith, i.before, add-mul m 1 (2 ^ e))) in
    let least : Least (suc s) k e =
    full-least s k e (subst (λ (x : ℕ). x < 2 ^ suc s) (sym is) (parts s b).low) (λ h. subst (λ (x : ℕ). 2 ^ s ≤ x) (sym is) ((parts s b).full h))
    in
    band-at s k e least ∙ ap (λ (x : ℕ). 2 ^ s * e + x) is ∙ split s b

pub in-band : BinsOfBand
in-band s k b = (λ p. subst (λ (x : ℕ). InBand s k x) p (in-its-band s k), band-of-bin s k b)

-- ---- the bands follow one another from bin 0 on

pub first-start : (s : ℕ) → band_start s 0 ≡ 0
first-start s =
    ap (band_start s) (omega (arith, mul-zero (2 ^ s))) ∙ start-at s 0 0 (record { low = pow_pos (suc s); full = λ h. absurd (lt_irrefl 0 h) })

pub next_start : (s b : ℕ) → band_start s (suc b) ≡ band_start s b + band_width s b
unfolding band_start band_width
next_start s b = go (dec_lt (suc (rest s b)) (2 ^ suc s))
  where
    e : ℕ
    e = width_exponent s b

    m : ℕ
    m = rest s b

    go : Dec (suc m < 2 ^ suc s) → band_start s (suc b) ≡ m * 2 ^ e + 2 ^ e
    go (yes h) =
        ap (band_start s) (omega (arith, split s b))
        ∙ start-at s e (suc m) (record { low = h; full = λ q. le_trans ((parts s b).full q) (le-suc m) })
        ∙ suc-mul m (2 ^ e)
    go (no h) =
        let full : suc m ≡ 2 ^ suc s = omega (arith, (parts s b).low) in
        ap (band_start s) (omega (arith, split s b, mul-suc (2 ^ s) e, pow-suc 2 s))
        ∙ start-at s (suc e) (2 ^ s) (record { low = pow-lt (le_refl (suc s)); full = λ q. le_refl (2 ^ s) })
        ∙ sym (pow-add 2 s (suc e))
        ∙ ap (λ (x : ℕ). 2 ^ x) (omega arith)
        ∙ pow-add 2 (suc s) e
        ∙ ap (λ (x : ℕ). x * 2 ^ e) (sym full)
        ∙ suc-mul m (2 ^ e)

pub start-mono : (s b b' : ℕ) → b ≤ b' → band_start s b ≤ band_start s b'
start-mono s b b' h =
    le_ind (λ (n : ℕ). band_start s b ≤ band_start s n) (le_refl (band_start s b)) (λ n k ih. omega (arith, next_start s n)) b' h

-- a bin before the start of band n is in a band before n
pub band-below : (s k n : ℕ) → k < band_start s n → band_of s k < n
band-below s k n h = lt_of_not-le (λ g. omega (arith, start-mono s n (band_of s k) g, (in-its-band s k).from))
