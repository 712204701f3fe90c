-- Numbers in fields of some bits each, once over the table of widths: the number of fields has them, and they have the number. Assumes nothing.
use Prim.Native.Nat.{ℕ, ◌+◌, ◌*◌, ◌/◌, ◌%◌, ◌^◌, ◌<◌}
use mathlib.Core.Path.{◌≡◌, refl, sym, ap, ap₂, subst, ◌∙◌}
use mathlib.Core.List.{List, [], ◌∷◌}
use native.Mathlib.Nat.{zero-lt-suc, mul_assoc, mul-add-div_right, mul-add-mod_self_right, mod-lt, mod-eq_of_lt, mod-one}
use lib.Arith.{digits_lt, digits_div}
use lib.Pow.{pow-add, mod-pow-add, pow_pos}
use Rattle.fields.specs.BitFields.{width_of, joined, separated, FitWidths}
use Rattle.fields.specs.Claims.{SeparatedReturn, JoinedReturn, WorkedBits}

-- the joined number fits the bits of all fields
pub joined-lt : (ws xs : List ℕ) → FitWidths ws xs → joined ws xs < 2 ^ width_of ws
joined-lt [] xs fit = zero-lt-suc 0
joined-lt (w ∷ ws) [] fit = absurd fit
joined-lt (w ∷ ws) (x ∷ xs) fit =
    subst (λ (p : ℕ). x * 2 ^ width_of ws + joined ws xs < p) (sym (pow-add 2 w (width_of ws))) (digits_lt fit.0 (joined-lt ws xs fit.1))

-- higher bits than those of the fields do not matter
separated-below : (ws : List ℕ) (q r : ℕ) → separated ws (q * 2 ^ width_of ws + r) ≡ separated ws r
separated-below [] q r = refl
separated-below (w ∷ ws) q r =
    let t = 2 ^ width_of ws in
    let same : q * 2 ^ (w + width_of ws) + r ≡ q * 2 ^ w * t + r =
    ap (λ (p : ℕ). p + r) (ap (λ (p : ℕ). q * p) (pow-add 2 w (width_of ws)) ∙ sym (mul_assoc q (2 ^ w) t)) in
    ap (separated (w ∷ ws)) same
    ∙ ap₂ (λ (n : ℕ) (l : List ℕ). n ∷ l)
    (ap (λ (n : ℕ). n % 2 ^ w) (mul-add-div_right (pow_pos (width_of ws)) (q * 2 ^ w) r) ∙ mul-add-mod_self_right q (2 ^ w) (r / t))
    (separated-below ws (q * 2 ^ w) r)

pub separated-return : SeparatedReturn
separated-return [] xs fit = sym fit
separated-return (w ∷ ws) [] fit = absurd fit
separated-return (w ∷ ws) (x ∷ xs) fit =
    ap₂ (λ (n : ℕ) (l : List ℕ). n ∷ l)
    (ap (λ (n : ℕ). n % 2 ^ w) (digits_div x (joined-lt ws xs fit.1)) ∙ mod-eq_of_lt fit.0)
    (separated-below ws x (joined ws xs) ∙ separated-return ws xs fit.1)

-- the fields of a number have its lower bits
joined-mod : (ws : List ℕ) (n : ℕ) → joined ws (separated ws n) ≡ n % 2 ^ width_of ws
joined-mod [] n = sym (mod-one n)
joined-mod (w ∷ ws) n =
    ap (λ (r : ℕ). n / 2 ^ width_of ws % 2 ^ w * 2 ^ width_of ws + r) (joined-mod ws n) ∙ sym (mod-pow-add n w (width_of ws))

pub joined-return : JoinedReturn
joined-return ws n h = joined-mod ws n ∙ mod-eq_of_lt h

-- numbers that were separated fit their fields
pub separated-fit : (ws : List ℕ) (n : ℕ) → FitWidths ws (separated ws n)
separated-fit [] n = refl
separated-fit (w ∷ ws) n = (mod-lt (n / 2 ^ width_of ws) (pow_pos w), separated-fit ws n)

pub worked-bits : WorkedBits
worked-bits = refl
