-- The floats of the answers are exact: `HasValue x false a c` says that x is the positive number a / c, with nothing rounded. Assumes nothing.
use Rattle.refusal.specs.declared.Refusal.{Refusal}
use Rattle.std.specs.Prelude.{Result}
use mathlib.Core.Path.{◌≡◌, refl, sym, ap, ◌∙◌, subst}
use mathlib.Core.Bool.{Bool, true, false, cond}
use Prim.Native.Nat.{ℕ, ◌+◌, ◌-◌, ◌*◌, ◌/◌, ◌^◌, ◌≤◌, ◌<◌}
use native.Mathlib.Nat.{le_trans, lt_of_not-le, div-le_self, mul_right_comm, mul-one}
use native.Mathlib.Omega.{arith}
use lib.Dec.{leb, lit≤}
use lib.Pow.{pow_mono, pow-add}
use lib.Ieee.{Float, nan, inf, fin, binary32, up, down, of_int}
use lib.Ieee.Exact.{HasValue}
use lib.Ieee.Back.{round_whole}
use borrow.Author.Tests.{leb-true, leb-false}
use Rattle.lists.specs.Tables.{tabulate}
use Rattle.lists.proofs.Tables.{tabulate-agree}
use Rattle.refusal.specs.Outcome.{given, refused, answer_outcome}
use Rattle.refusal.proofs.Outcomes.{given-of}
use Rattle.bands.specs.declared.Description.{Description}
use Rattle.bands.specs.declared.Cadence.{Cadence}
use Rattle.bands.specs.declared.Cadence.TheVariants.{Rate, Period}
use Rattle.bands.specs.Band.{size_exponent, band_start, band_width, has_band}
use Rattle.registers.specs.Store.{band_count}
use Rattle.bands.specs.Answer.{whole, described, band_described, cadence_of}
use Rattle.bands.specs.Exact.{ExactHertz, ExactDescription, ExactCadence}
use Rattle.bands.proofs.Settings.{range, known_of}

pub whole-exact : (n : ℕ) → n ≤ 2 ^ 24 → HasValue (whole n) false n 1
unfolding whole of_int
whole-exact n h = round_whole binary32 false n h

-- the same number as a fraction with the denominator c
scaled : (x : Float) (n c : ℕ) → HasValue x false n 1 → HasValue x false (n * c) c
scaled nan n c v = v
scaled (inf t) n c v = v
scaled (fin t m e) n c v =
    (v.0, ap (λ (y : ℕ). y * c) (sym (mul-one (m * up e)) ∙ v.1) ∙ mul_right_comm n (down e) c)

fraction : (n a c : ℕ) → n ≤ 2 ^ 24 → n * c ≡ a → HasValue (whole n) false a c
fraction n a c h is = subst (λ (y : ℕ). HasValue (whole n) false y c) is (scaled (whole n) n c (whole-exact n h))

-- ---- the three numbers of a band's description

described-exact : (setting b : ℕ) → b < band_count setting →
    ExactHertz (band_start (size_exponent setting) b) (band_width (size_exponent setting) b) (described setting b)
described-exact setting b h =
    let start : ℕ = band_start (size_exponent setting) b in
    let bins : ℕ = band_width (size_exponent setting) b in
    let within = (range setting b h).within in
    record {
      low = whole-exact (8 * start) (omega (arith, within));
      centre = fraction (8 * start + 8 * bins / 2) (4 * (2 * start + bins)) 1 (omega (arith, within)) (omega arith);
      width = whole-exact (8 * bins) (omega (arith, within));
    }

-- an answer that meets the rule is exact
pub exact-description : (setting b : ℕ) (r : Result Description Refusal) → answer_outcome r ≡ band_described setting b → ExactDescription setting b r
exact-description setting b r is =
    record {
      described =
          λ d e.
          let known = given-of (has_band setting b) (described setting b) d 12 (sym (ap answer_outcome e) ∙ is) in
          subst (λ (x : Description). ExactHertz (band_start (size_exponent setting) b) (band_width (size_exponent setting) b) x) (sym known.1)
          (described-exact setting b (known_of setting b known.0));
    }

-- ---- the rate and the period

-- the rate is 8 / C per second, and the period C / 8 seconds
rate-exact : (choice : ℕ) → choice < 4 → HasValue (whole (8 / 2 ^ choice)) false 8 (2 ^ choice)
unfolding tabulate
rate-exact choice h =
    fraction (8 / 2 ^ choice) 8 (2 ^ choice) (le_trans (div-le_self 8 (2 ^ choice)) (lit≤ tt))
    (tabulate-agree 4 (λ k. 8 / 2 ^ k * 2 ^ k) (λ k. 8) refl choice h)

period-exact : (choice : ℕ) → 3 < choice → choice ≤ 10 → HasValue (whole (2 ^ choice / 8)) false (2 ^ choice) 8
period-exact choice l h =
    let eighths : 2 ^ choice ≡ 2 ^ (choice - 3) * 8 = ap (λ (x : ℕ). 2 ^ x) (omega arith) ∙ pow-add 2 (choice - 3) 3 in
    fraction (2 ^ choice / 8) (2 ^ choice) 8 (omega (arith, pow_mono {i = choice} {j = 10} h)) (omega arith)

-- what the rule gives as a rate, and what as a period
rate-of : (choice : ℕ) (f : Float) → given (Rate f) ≡ cadence_of choice → HasValue f false 8 (2 ^ choice)
rate-of choice f is = go (leb choice 10) (leb (2 ^ choice) 8) refl is
  where
    go : (a b : Bool) → leb (2 ^ choice) 8 ≡ b → given (Rate f) ≡ cond a (cond b (given (Rate (whole (8 / 2 ^ choice)))) (given (Period (whole (2 ^ choice / 8))))) (refused 12) →
        HasValue f false 8 (2 ^ choice)
    go true true q e =
        let same : whole (8 / 2 ^ choice) ≡ f = cc in
        let few : 2 ^ choice ≤ 8 = leb-true (2 ^ choice) 8 q in
        subst (λ (x : Float). HasValue x false 8 (2 ^ choice)) same
        (rate-exact choice (lt_of_not-le (λ g. omega (arith, pow_mono {i = 4} {j = choice} g))))
    go true false q e = let z : ◌≡◌ {A = ℕ} 0 1 = cc in absurd (omega arith)
    go false b q e = let z : ◌≡◌ {A = ℕ} 0 1 = cc in absurd (omega arith)

period-of : (choice : ℕ) (f : Float) → given (Period f) ≡ cadence_of choice → HasValue f false (2 ^ choice) 8
period-of choice f is = go (leb choice 10) refl (leb (2 ^ choice) 8) refl is
  where
    go : (a : Bool) → leb choice 10 ≡ a → (b : Bool) → leb (2 ^ choice) 8 ≡ b → given (Period f) ≡ cond a (cond b (given (Rate (whole (8 / 2 ^ choice)))) (given (Period (whole (2 ^ choice / 8))))) (refused 12) →
        HasValue f false (2 ^ choice) 8
    go true p false q e =
        let same : whole (2 ^ choice / 8) ≡ f = cc in
        let many : 8 < 2 ^ choice = leb-false (2 ^ choice) 8 q in
        subst (λ (x : Float). HasValue x false (2 ^ choice) 8) same
        (period-exact choice (lt_of_not-le (λ g. omega (arith, pow_mono {i = choice} {j = 3} g))) (leb-true choice 10 p))
    go true p true q e = let z : ◌≡◌ {A = ℕ} 0 1 = cc in absurd (omega arith)
    go false p b q e = let z : ◌≡◌ {A = ℕ} 0 1 = cc in absurd (omega arith)

-- an answer that meets the rule is exact
pub exact-cadence : (choice : ℕ) (r : Result Cadence Refusal) → answer_outcome r ≡ cadence_of choice → ExactCadence choice r
exact-cadence choice r is =
    record {
      rate = λ f e. rate-of choice f (sym (ap answer_outcome e) ∙ is);
      period = λ f e. period-of choice f (sym (ap answer_outcome e) ∙ is);
    }
