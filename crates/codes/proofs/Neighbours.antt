-- Legal band codes, and the two neighbours of a value. Assumes nothing.
use mathlib.Core.Path.{◌≡◌, refl, sym, ap, ap₂, ◌∙◌, subst}
use mathlib.Core.Bool.{Bool, true, false, ◌&&◌, ◌||◌, cond, or-true, false≢true}
use mathlib.Core.Logic.{◌⊎◌, inl, inr}
use Prim.Native.Nat.{ℕ, suc, ◌+◌, ◌-◌, ◌*◌, ◌/◌, ◌%◌, ◌^◌, ◌≤◌, ◌<◌, zero-le}
use native.Mathlib.Nat.{le_trans, le_of_eq, eq-or-lt_of_le, suc-mul, mul_assoc, mul-le-mul_left, mul-le-mul_right, div-lt_iff_lt-mul, pow-suc}
use native.Mathlib.Decide.{dec_lt}
use native.Mathlib.Omega.{arith}
use lib.Pow.{pow_pos, pow_mono, pow-add}
use lib.Dec.{leb, eqb}
use borrow.Author.Tests.{le-leb, leb-true, eqb-true, eqb-false, eq-eqb}
use Rattle.refusal.specs.Outcome.{given}
use Rattle.refusal.proofs.Outcomes.{given-of}
use Rattle.codes.specs.Code.{exponent, value_of, code_after, code_below, code_above, band_value, band_legal}
use Rattle.codes.specs.Expanded.{band_expanded}
use Rattle.codes.specs.Claims.{BandNeighbours, LegalCodes}
use Rattle.codes.proofs.Laws.{code-exponent, code-mantissa, coded, coded-is, coded-le, full, step-lt, coded-mono, code-of-value}
use Rattle.codes.proofs.LeastExponent.{exponent-le}

-- ---- legal band codes

pub legal-codes : LegalCodes
unfolding band_legal
legal-codes = (refl, refl, refl)

-- a code whose mantissa has its highest bit where the exponent is not 0
abbrev pub Reduced : ℕ → Type 0
Reduced c = 0 < c / 8 → 4 ≤ c % 8

pub legal-if : (c : ℕ) → c ≤ 0xF4 → Reduced c → band_legal c ≡ true
unfolding band_legal
legal-if c small reduced = go (eq-or-lt_of_le zero-le) (dec_lt 29 (c / 8))
  where
    go : (0 ≡ c / 8) ⊎ (0 < c / 8) → Dec (29 < c / 8) → band_legal c ≡ true
    go (inl h) k = simp (← h)
    go (inr h) (no k) = simp (le-leb (c / 8) 29 (omega arith), le-leb 4 (c % 8) (reduced h), or-true)
    go (inr h) (yes k) = simp (eq-eqb c 0xF4 (omega (arith, reduced h)), or-true)

-- what makes a code legal, and nothing else
pub record Legal (c : ℕ) : Type 0 where
  pub small : c ≤ 0xF4
  pub reduced : Reduced c

pub legal-of : (c : ℕ) → band_legal c ≡ true → Legal c
unfolding band_legal
legal-of c h = go (eqb (c / 8) 0) refl (leb (c / 8) 29) refl (leb 4 (c % 8)) refl (eqb c 0xF4) refl h
  where
    go : (x : Bool) → eqb (c / 8) 0 ≡ x → (y : Bool) → leb (c / 8) 29 ≡ y → (z : Bool) → leb 4 (c % 8) ≡ z → (u : Bool) → eqb c 0xF4 ≡ u
        → x || (y && z) || u ≡ true → Legal c
    go true p y q z r u o h = let none : c / 8 ≡ 0 = eqb-true (c / 8) 0 p in record { small = omega arith; reduced = λ l. omega arith }
    go false p true q true r u o h = record { small = omega (arith, leb-true (c / 8) 29 q); reduced = λ l. leb-true 4 (c % 8) r }
    go false p true q false r true o h = let is : c ≡ 0xF4 = eqb-true c 0xF4 o in record { small = omega arith; reduced = λ l. omega arith }
    go false p false q z r true o h = let is : c ≡ 0xF4 = eqb-true c 0xF4 o in record { small = omega arith; reduced = λ l. omega arith }
    go false p true q false r false o h = absurd (false≢true h)
    go false p false q z r false o h = absurd (false≢true h)

-- a legal code stands for 2 ^ 32 at most
pub band-value-le : (c : ℕ) → band_legal c ≡ true → band_value c ≤ 2 ^ 32
unfolding band_value value_of
band-value-le c h = go (dec_lt 29 (c / 8))
  where
    go : Dec (29 < c / 8) → c % 8 * 2 ^ (c / 8) ≤ 2 ^ 32
    go (yes k) = le_of_eq (ap (λ (x : ℕ). x % 8 * 2 ^ (x / 8)) {x = c} {y = 0xF4} (omega (arith, (legal-of c h).small, (legal-of c h).reduced (omega arith))))
    go (no k) = le_trans (mul-le-mul_left (c % 8) (pow_mono {i = c / 8} {j = 29} (omega arith))) (omega arith)

pub expanded-le : (c v : ℕ) → given v ≡ band_expanded c → v ≤ 2 ^ 32
expanded-le c v is =
    let g = given-of (band_legal c) (band_value c) v 7 is in
    subst (λ (x : ℕ). x ≤ 2 ^ 32) (sym g.1) (band-value-le c g.0)

-- ---- the two neighbours of a value

-- the code after c: it is reduced too, and stands for one step of the mantissa more
pub record After (c c' : ℕ) : Type 0 where
  pub reduced : Reduced c → Reduced c'
  pub small : c ≤ 0xEF → c' ≤ 0xF4
  pub value : band_value c' ≡ band_value c + 2 ^ (c / 8)

pub value-at : (c m e : ℕ) → c % 8 ≡ m → c / 8 ≡ e → band_value c ≡ m * 2 ^ e
unfolding band_value value_of
value-at c m e p q = ap₂ (λ (x y : ℕ). x * 2 ^ y) p q

pub after : (c : ℕ) → After c (code_after c)
after c = go (eqb (c % 8) 7) refl
  where
    here : band_value c ≡ c % 8 * 2 ^ (c / 8)
    here = value-at c (c % 8) (c / 8) refl refl

    go : (x : Bool) → eqb (c % 8) 7 ≡ x → After c (cond x (c + 5) (c + 1))
    go true p =
        let last : c % 8 ≡ 7 = eqb-true (c % 8) 7 p in
        record {
          reduced = λ r h. omega arith;
          small = λ h. omega arith;
          value =
              value-at (c + 5) 4 (suc (c / 8)) (omega arith) (omega arith)
              ∙ omega (arith, pow-suc 2 (c / 8), here, ap (λ (m : ℕ). m * 2 ^ (c / 8)) last);
        }
    go false p =
        let less : ¬ (c % 8 ≡ 7) = eqb-false (c % 8) 7 p in
        record {
          reduced = λ r h. omega (arith, r (omega arith));
          small = λ h. omega arith;
          value =
              value-at (c + 1) (suc (c % 8)) (c / 8) (omega arith) (omega arith)
              ∙ omega (arith, here, suc-mul (c % 8) (2 ^ (c / 8)));
        }

-- the lower neighbour stands for v without the digits below the mantissa, the upper one for one step more
pub below-is : (v : ℕ) → band_value (code_below v) ≡ coded 3 v
unfolding band_value coded
below-is v = refl

pub above-is : (v : ℕ) → band_value (code_above v) ≡ coded 3 v + 2 ^ exponent 3 v
above-is v = (after (code_below v)).value ∙ ap₂ (λ (x e : ℕ). x + 2 ^ e) (below-is v) (code-exponent 2 v)

pub below-reduced : (v : ℕ) → Reduced (code_below v)
below-reduced v h = omega (arith, code-mantissa 2 v, full 2 v (omega (arith, code-exponent 2 v)))

pub not-over : (v : ℕ) → band_value (code_below v) ≤ v
not-over v = le_trans (le_of_eq (below-is v)) (coded-le 2 v)

pub over : (v : ℕ) → v < band_value (code_above v)
over v = omega (arith, step-lt 2 v, above-is v)

-- the value of a code above v is a whole number of v's steps
pub beyond : (v c : ℕ) → v < band_value c → coded 3 v + 2 ^ exponent 3 v ≤ band_value c
beyond v c h =
    let e : ℕ = exponent 3 v in
    let f : ℕ = c / 8 in
    let is : band_value c ≡ c % 8 * 2 ^ f = value-at c (c % 8) f refl refl in
    let least : e ≤ f = omega (arith, exponent-le 3 (3 + f) v (omega (arith, is, pow-add 2 3 f, mul-le-mul_right {m = c % 8} {n = 8} (2 ^ f) (omega arith)))) in
    let steps : ℕ = c % 8 * 2 ^ (f - e) in
    let whole : c % 8 * 2 ^ f ≡ steps * 2 ^ e =
    ap (λ (x : ℕ). c % 8 * 2 ^ x) (omega arith) ∙ ap (λ (x : ℕ). c % 8 * x) (pow-add 2 (f - e) e) ∙ sym (mul_assoc (c % 8) (2 ^ (f - e)) (2 ^ e)) in
    let more : v / 2 ^ e < steps = (div-lt_iff_lt-mul (pow_pos e)).1 (omega (arith, is, whole)) in
    omega (arith, coded-is 2 v, is, whole, mul-le-mul_right (2 ^ e) more, suc-mul (v / 2 ^ e) (2 ^ e))

-- a reduced code is the code of what it stands for
pub code_below-returns : (c : ℕ) → Reduced c → code_below (band_value c) ≡ c
unfolding band_value
code_below-returns c r = code-of-value 2 c r

pub none_between : (v c : ℕ) → Reduced c → (band_value c ≤ band_value (code_below v)) ⊎ (band_value (code_above v) ≤ band_value c)
none_between v c r = go (dec_lt v (band_value c))
  where
    go : Dec (v < band_value c) → (band_value c ≤ band_value (code_below v)) ⊎ (band_value (code_above v) ≤ band_value c)
    go (yes h) = inr (le_trans (le_of_eq (above-is v)) (beyond v c h))
    go (no h) =
        let same : coded 3 (band_value c) ≡ band_value c = sym (below-is (band_value c)) ∙ ap band_value (code_below-returns c r) in
        inl (omega (arith, same, below-is v, coded-mono 2 (band_value c) v (omega arith)))

module _ (v : ℕ) (h : v < 2 ^ 32) where
  pub below-small : code_below v ≤ 0xEF
  below-small = omega (arith, code-exponent 2 v, exponent-le 3 32 v h)

  pub below-legal : band_legal (code_below v) ≡ true
  below-legal = legal-if (code_below v) (omega (arith, below-small)) (below-reduced v)

  pub above-legal : band_legal (code_above v) ≡ true
  above-legal = legal-if (code_above v) ((after (code_below v)).small below-small) ((after (code_below v)).reduced (below-reduced v))

pub band-neighbours : BandNeighbours
band-neighbours v h =
    record {
      below-legal = below-legal v h;
      above-legal = above-legal v h;
      not-over = not-over v;
      over = over v;
      none_between = λ c l. none_between v c (legal-of c l).reduced;
    }
