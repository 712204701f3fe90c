-- The answers of pack and unpack are small. Assumes nothing.
use mathlib.Core.Path.{◌≡◌, refl}
use mathlib.Core.Bool.{not}
use mathlib.Core.List.{List}
use Prim.Native.Nat.{ℕ, ◌*◌, ◌^◌, ◌≤◌, ◌<◌}
use native.Mathlib.Omega.{arith}
use lib.IntN.{ℤ}
use lib.ListN.{length}
use Rattle.lists.specs.Tables.{overwrite}
use Rattle.lists.proofs.Choices.{cond-at}
use Rattle.refusal.specs.Outcome.{Outcome, given, refused, Filled, unfilled}
use Rattle.words.specs.Words.{set_size}
use Rattle.sets.specs.Sets.{pack_fits, packed_bytes, unpack_fits, every_apid, samples_of, pack_sized, pack_outcome, unpack_sized, unpack_outcome}
use Rattle.words.proofs.Laws.{size-range, size-refused}
use Rattle.dfb_refusals.specs.Numbers.{above16, outcome_number}
use Rattle.dfb_refusals.proofs.Apart.{Below, given_below, refused-below}

-- the answer's number fits 32 bits, and a count is below the refusals
pub record Small {A : Type 0} (f : Filled A) : Type 0 where
  pub fits : outcome_number above16 f.answer < 2 ^ 32
  pub below : Below above16 f.answer

small-refusal : {A : Type 0} (n : ℕ) (buffer : List A) → n ≤ 5 → Small (unfilled n buffer)
small-refusal n buffer h = record { fits = omega arith; below = refused-below above16 n }

small_count : {A : Type 0} (n : ℕ) (buffer : List A) → n ≤ 21 → Small (record { answer = given n; buffer = buffer })
small_count n buffer h = record { fits = omega arith; below = given_below above16 n (omega arith) }

module _ (apid : ℕ) where
  packed : (samples : List ℤ) (out : List ℕ) (size : Outcome ℕ) → set_size apid ≡ size → Small (pack_sized apid samples out size)
  packed samples out (refused n) e = small-refusal n out (omega (arith, size-refused apid n e))
  packed samples out (given words) e =
      cond-at Small (not (pack_fits words (length samples) (length out)))
      (λ _. small-refusal 2 out (omega arith))
      (λ _. small_count (3 * words) (overwrite (packed_bytes apid samples) out) (omega (arith, (size-range apid words e).1)))

  pub pack-small : (samples : List ℤ) (out : List ℕ) → Small (pack_outcome apid samples out)
  unfolding pack_outcome
  pack-small samples out = packed samples out (set_size apid) refl

  unpacked : (bytes : List ℕ) (out : List ℤ) (size : Outcome ℕ) → set_size apid ≡ size → Small (unpack_sized apid bytes out size)
  unpacked bytes out (refused n) e = small-refusal n out (omega (arith, size-refused apid n e))
  unpacked bytes out (given words) e =
      let count : words ≤ 21 = omega (arith, (size-range apid words e).1) in
      cond-at Small (not (unpack_fits words (length bytes) (length out)))
      (λ _. small-refusal 2 out (omega arith))
      (λ _. cond-at Small (not (every_apid apid words bytes))
      (λ _. small-refusal 5 out (omega arith))
      (λ _. small_count words (overwrite (samples_of words bytes) out) count))

  pub unpack-small : (bytes : List ℕ) (out : List ℤ) → Small (unpack_outcome apid bytes out)
  unfolding unpack_outcome
  unpack-small bytes out = unpacked bytes out (set_size apid) refl
