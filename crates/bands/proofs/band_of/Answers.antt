-- `bands::band_of` meets its contract: the code computes the right side of `band-exponent`, and a band is below the count, so that nothing is cut off. Assumes nothing.
use mathlib.Core.Path.{◌≡◌, sym, ap, ◌∙◌}
use Prim.Native.Nat.{ℕ, suc, ◌+◌, ◌*◌, ◌/◌, ◌%◌, ◌^◌, ◌≤◌, ◌<◌}
use native.Mathlib.Nat.{mul_comm}
use native.Mathlib.Omega.{arith}
use borrow.Author.Tests.{le-leb, lt-leb}
use Rattle.refusal.specs.Outcome.{given}
use Rattle.codes.specs.Code.{exponent}
use Rattle.codes.proofs.LeastExponent.{exponent-le}
use Rattle.registers.proofs.Counts.{bands-count}
use Rattle.bands.specs.Band.{size_exponent, band_of}
use Rattle.bands.proofs.Rule.{band-exponent}
use Rattle.bands.proofs.Settings.{band-lt}
use Rattle.bands.proofs.band_of.Goals as goal

-- what the code computes from the exponent e: the band, which a byte holds
record Computed (setting k e : ℕ) : Type 0 where
  is : e * 2 ^ size_exponent setting % 2 ^ 32 + k / 2 ^ e ≡ band_of (size_exponent setting) k
  small : band_of (size_exponent setting) k < 112
  shift_le : e ≤ 10

computed : (setting k w e : ℕ) → setting ≤ 2 → k < 1024 → e ≡ exponent w k → w ≡ suc (size_exponent setting) → Computed setting k e
computed setting k w e a b is width =
    let s : ℕ = size_exponent setting in
    let band : band_of s k ≡ 2 ^ s * e + k / 2 ^ e =
    band-exponent s k ∙ ap (λ (x : ℕ). 2 ^ s * x + k / 2 ^ x) (ap (λ (x : ℕ). exponent x k) (sym width) ∙ sym is)
    in
    let small : band_of s k < 112 = omega (arith, band-lt setting k a b, (bands-count setting).at_most) in
    record {
      is = omega (arith, band, small, mul_comm e (2 ^ s));
      small = small;
      shift_le = omega (arith, is, exponent-le w 10 k b);
    }

pub returns-then-setting-gt-BINS_LIMIT : goal.returns-then-setting-gt-BINS_LIMIT
returns-then-setting-gt-BINS_LIMIT c = simp (lt-leb c.args.setting 2 (omega arith))

pub returns-then-bin-ge-BINS : goal.returns-then-bin-ge-BINS
returns-then-bin-ge-BINS c = simp (le-leb c.args.setting 2 (omega arith), lt-leb c.args.bin 1023 (omega arith))

band : (c : goal.After-exponent-e) → Computed c.args.setting c.args.bin c.exponent-e.result
band c =
    computed c.args.setting c.args.bin _ _ (omega arith) (omega arith) c.exponent-e.ensures (omega arith)

pub overflow_shr-band : goal.overflow_shr-band
overflow_shr-band c = omega (arith, (band c).shift_le)

pub overflow_add-band : goal.overflow_add-band
overflow_add-band c = omega (arith, (band c).is, (band c).small)

pub overflow_cast-band-2 : goal.overflow_cast-band-2
overflow_cast-band-2 c = omega (arith, (band c).is, (band c).small)

pub returns : goal.returns
returns c =
    simp (le-leb c.args.setting 2 (omega arith), le-leb c.args.bin 1023 (omega arith))
    (ap given (band c).is)
