-- The round trips, for every set. Assumes nothing.
use Prim.Native.Nat.{ℕ, zero, suc, ◌+◌, ◌*◌, ◌/◌, ◌%◌}
use mathlib.Core.Path.{◌≡◌, refl, ap, ◌∙◌}
use mathlib.Core.Bool.{true}
use mathlib.Core.List.{List, [], ◌∷◌}
use native.Mathlib.Omega.{arith}
use borrow.Author.Tests.{eq-eqb, eqb-true, le-leb}
use lib.Dec.{eqb, leb}
use lib.IntN.{ℤ}
use lib.ListN.{length, take}
use lib.Seq.{take_at}
use Rattle.lists.proofs.Choices.{by_cases, both}
use Rattle.refusal.specs.Outcome.{Outcome, given, refused}
use Rattle.refusal.proofs.Outcomes.{refused-given}
use Rattle.words.specs.Sample.{bits_of, sample_of, Are16}
use Rattle.words.specs.Words.{set_size, AreBytes}
use Rattle.sets.specs.Sets.{packed_bytes, pack_fits, pack_sized, pack_outcome, every_apid, samples_of, unpack_fits, unpack_sized, unpack_outcome}
use Rattle.sets.specs.Claims.{RoundTrip, ConverseRoundTrip}
use Rattle.words.proofs.Signed.{sample-of-bits, bits-of-sample}
use Rattle.sets.proofs.Laws.{packed-length, samples-length}

-- the samples of their words come back
pub samples-packed : (apid : ℕ) (zs : List ℤ) → Are16 zs → samples_of (length zs) (packed_bytes apid zs) ≡ zs
unfolding samples_of packed_bytes
samples-packed apid [] f = refl
samples-packed apid (z ∷ zs) f =
    let b : bits_of z / 256 * 256 + bits_of z % 256 ≡ bits_of z = omega arith in
    simp (b, sample-of-bits z f.0, samples-packed apid zs f.1)

pub every-packed : (apid : ℕ) (zs : List ℤ) → every_apid apid (length zs) (packed_bytes apid zs) ≡ true
unfolding every_apid packed_bytes
every-packed apid [] = refl
every-packed apid (z ∷ zs) = simp (eq-eqb apid apid refl, every-packed apid zs)

-- the bytes of the words come back
pub packed-samples : (apid n : ℕ) (bytes : List ℕ) → AreBytes bytes → length bytes ≡ 3 * n → every_apid apid n bytes ≡ true → packed_bytes apid (samples_of n bytes) ≡ bytes
unfolding samples_of packed_bytes every_apid
packed-samples apid zero [] f l e = refl
packed-samples apid zero (a ∷ bytes) f l e = absurd (omega arith)
packed-samples apid (suc n) [] f l e = absurd (omega arith)
packed-samples apid (suc n) (a ∷ []) f l e = absurd (omega arith)
packed-samples apid (suc n) (a ∷ h ∷ []) f l e = absurd (omega arith)
packed-samples apid (suc n) (a ∷ h ∷ k ∷ bytes) f l e =
    let t = both (eqb a apid) (every_apid apid n bytes) e in
    let x : bits_of (sample_of (h * 256 + k)) ≡ h * 256 + k = bits-of-sample (h * 256 + k) (omega (arith, f.1.0, f.1.1.0)) in
    let high : (h * 256 + k) / 256 ≡ h = omega (arith, f.1.1.0) in
    let low : (h * 256 + k) % 256 ≡ k = omega (arith, f.1.1.0) in
    simp (x, high, low, eqb-true a apid t.0, packed-samples apid n bytes f.1.1.1 (omega arith) t.1)

-- what an accepted packing had: a set of so many words, as many samples, and room for the bytes that it answers
record PackAccepted (apid n : ℕ) (samples : List ℤ) (out : List ℕ) : Type 0 where
  words : ℕ
  size : set_size apid ≡ given words
  count : length samples ≡ words
  bytes : n ≡ 3 * words
  fits : pack_fits words (length samples) (length out) ≡ true

pack-accepted : (apid n : ℕ) (samples : List ℤ) (out : List ℕ) → (pack_outcome apid samples out).answer ≡ given n → PackAccepted apid n samples out
unfolding pack_outcome
pack-accepted apid n samples out e = by (set_size apid) refl e
  where
    by : (o : Outcome ℕ) → set_size apid ≡ o → (pack_sized apid samples out o).answer ≡ given n → PackAccepted apid n samples out
    by (refused m) s t = absurd (refused-given m n t)
    by (given words) s t =
        by_cases (pack_fits words (length samples) (length out))
        (λ q. let b : given (3 * words) ≡ given n = rw q at t in
        record { words = words; size = s; count = eqb-true _ _ (both (eqb (length samples) words) (leb (3 * words) (length out)) q).0; bytes = cc; fits = q })
        (λ q. absurd (refused-given 2 n (rw q at t)))

-- what an accepted unpacking had: a set of as many words as it answers, their bytes, each with the APID, and room for the samples
record UnpackAccepted (apid n : ℕ) (bytes : List ℕ) (out : List ℤ) : Type 0 where
  size : set_size apid ≡ given n
  count : length bytes ≡ 3 * n
  fits : unpack_fits n (length bytes) (length out) ≡ true
  apids : every_apid apid n bytes ≡ true

unpack-accepted : (apid n : ℕ) (bytes : List ℕ) (out : List ℤ) → (unpack_outcome apid bytes out).answer ≡ given n → UnpackAccepted apid n bytes out
unfolding unpack_outcome
unpack-accepted apid n bytes out e = by (set_size apid) refl e
  where
    by : (o : Outcome ℕ) → set_size apid ≡ o → (unpack_sized apid bytes out o).answer ≡ given n → UnpackAccepted apid n bytes out
    by (refused m) s t = absurd (refused-given m n t)
    by (given words) s t =
        by_cases (unpack_fits words (length bytes) (length out)) (λ q. by_cases (every_apid apid words bytes)
        (λ p. let b : given words ≡ given n = rw (q, p) at t in
        let same : words ≡ n = cc in
        record {
          size = s ∙ b;
          count = eqb-true _ _ (both (eqb (length bytes) (3 * words)) (leb words (length out)) q).0 ∙ ap (λ (k : ℕ). 3 * k) same;
          fits = rw (← same) q;
          apids = rw (← same) p;
        })
        (λ p. absurd (refused-given 5 n (rw (q, p) at t))))
        (λ q. absurd (refused-given 2 n (rw q at t)))

-- the bytes that an accepted packing answers
packed : (apid n : ℕ) (samples : List ℤ) (out : List ℕ) → (pack_outcome apid samples out).answer ≡ given n →
    take n (pack_outcome apid samples out).buffer ≡ packed_bytes apid samples
unfolding pack_outcome
packed apid n samples out ok =
    let a = pack-accepted apid n samples out ok in
    let long : length (packed_bytes apid samples) ≡ n = packed-length apid samples ∙ omega (arith, a.count, a.bytes) in
    rw (a.size, a.fits) (take_at (packed_bytes apid samples) _ n long)

pub round_trip : RoundTrip
unfolding unpack_outcome
round_trip apid n samples out back are ok room =
    let a = pack-accepted apid n samples out ok in
    let long : eqb (length (packed_bytes apid samples)) (3 * length samples) ≡ true = eq-eqb _ _ (packed-length apid samples) in
    let fits : leb (length samples) (length back) ≡ true = le-leb (length samples) (length back) room in
    rw (packed apid n samples out ok, a.size, ← a.count) (simp (long, fits, every-packed apid samples, samples-packed apid samples are))

-- the samples that an accepted unpacking answers
unpacked : (apid n : ℕ) (bytes : List ℕ) (out : List ℤ) → (unpack_outcome apid bytes out).answer ≡ given n →
    take n (unpack_outcome apid bytes out).buffer ≡ samples_of n bytes
unfolding unpack_outcome
unpacked apid n bytes out ok =
    let a = unpack-accepted apid n bytes out ok in
    rw (a.size, a.fits, a.apids) (take_at (samples_of n bytes) _ n (samples-length n bytes))

pub converse-round-trip : ConverseRoundTrip
unfolding pack_outcome
converse-round-trip apid n bytes out back are ok room =
    let a = unpack-accepted apid n bytes out ok in
    let long : eqb (length (samples_of n bytes)) n ≡ true = eq-eqb _ _ (samples-length n bytes) in
    let fits : leb (3 * n) (length back) ≡ true = le-leb (3 * n) (length back) (omega (arith, a.count)) in
    rw (unpacked apid n bytes out ok, a.size) (simp (long, fits, a.count, packed-samples apid n bytes are a.count a.apids))
