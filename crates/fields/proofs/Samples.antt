-- Laws of samples of two bytes each. Assumes nothing.
use Prim.Native.Nat.{ℕ, suc, ◌+◌, ◌*◌, ◌/◌, ◌%◌, ◌≤◌, ◌<◌}
use mathlib.Core.Path.{◌≡◌, refl, sym, ap, ap₂, subst, ◌∙◌}
use mathlib.Core.List.{List, [], ◌∷◌, ◌++◌, append-nil}
use native.Mathlib.Omega.{arith}
use borrow.Author.Tests.{ltb-true, ltb-false, le-leb}
use lib.Dec.{ltb}
use lib.IntN.{ℤ, pos}
use lib.ListN.{length, get_or, drop, length-drop}
use lib.Seq.{get_or-drop}
use lib.Signed.{mag}
use Rattle.lists.specs.Tables.{tabulate, concat_to, overwrite}
use Rattle.lists.proofs.Choices.{cond-at}
use Rattle.lists.proofs.Tables.{length-tabulate, get_d_tabulate, tabulate-of, tabulate-ext, concat_to-ext, grid-of}
use Rattle.words.specs.Sample.{bits_of, sample_of, Are16}
use Rattle.words.specs.Words.{pair_bytes, pair_at, pair_of, AreBytes}
use Rattle.words.proofs.Signed.{sample-of-bits, bits-of-sample, sample-at}
use Rattle.fields.specs.Samples.{sample_bytes, samples_at, put_outcome}
use Rattle.fields.specs.Private.{exchanged_bits}
use Rattle.fields.proofs.Numbers.{byte_at}
use Rattle.fields.proofs.Pairs.{pairs-length, pair-of}

-- the bits of sample i, and its bytes
abbrev pub bits_at : List ℤ → ℕ → ℕ
bits_at samples i = bits_of (get_or samples i (pos 0))

abbrev pub bytes_of : List ℤ → ℕ → List ℕ
bytes_of samples i = pair_bytes (bits_at samples i)

pub bytes-length : (samples : List ℤ) → length (sample_bytes samples) ≡ 2 * length samples
unfolding sample_bytes
bytes-length samples = pairs-length (bits_at samples) (length samples)

-- what writing samples leaves where there is room
pub put-buffer : (samples : List ℤ) (out : List ℕ) → 2 * length samples ≤ length out → (put_outcome samples out).buffer ≡ overwrite (sample_bytes samples) out
unfolding put_outcome
put-buffer samples out h = rw (le-leb (2 * length samples) (length out) h)

pub samples-length : (n : ℕ) (bytes : List ℕ) (at : ℕ) → length (samples_at n bytes at) ≡ n
unfolding samples_at
samples-length n bytes at = length-tabulate n _

-- bytes that were read the other way round, and then exchanged
pub exchanged-pair : (a b : ℕ) → a < 256 → b < 256 → exchanged_bits (pair_of b a) ≡ pair_of a b
exchanged-pair a b h k =
    let low : (b * 256 + a) % 256 ≡ a = omega arith in
    let high : (b * 256 + a) / 256 ≡ b = omega arith in
    ap₂ pair_of low high

-- samples from a place on are those of the bytes there
pub samples-drop : (n : ℕ) (bytes : List ℕ) (at : ℕ) → samples_at n (drop at bytes) 0 ≡ samples_at n bytes at
unfolding samples_at
samples-drop n bytes at =
    tabulate-ext n _ _
    (λ i h. let high : at + (0 + 2 * i) ≡ at + 2 * i = omega arith in
    let low : at + (0 + 2 * i + 1) ≡ at + 2 * i + 1 = omega arith in
    ap sample_of
    (ap₂ pair_of (get_or-drop at bytes (0 + 2 * i) 0 ∙ ap (λ (j : ℕ). get_or bytes j 0) high)
    (get_or-drop at bytes (0 + 2 * i + 1) 0 ∙ ap (λ (j : ℕ). get_or bytes j 0) low)))

pub samples-return : (samples : List ℤ) (before : List ℕ) → Are16 samples →
    samples_at (length samples) (before ++ sample_bytes samples) (length before) ≡ samples
unfolding samples_at sample_bytes
samples-return samples before are =
    sym (tabulate-of (length samples) _ (pos 0) samples refl (λ i h. sym (at_each i h)))
  where
    at_each : (i : ℕ) → i < length samples → sample_of (pair_at (before ++ concat_to (length samples) (bytes_of samples)) (length before + 2 * i)) ≡ get_or samples i (pos 0)
    at_each i h =
        ap (λ (l : List ℕ). sample_of (pair_at (before ++ l) (length before + 2 * i))) (sym (append-nil (concat_to (length samples) (bytes_of samples))))
        ∙ ap sample_of (pair-of (bits_at samples) before [] (length samples) i h)
        ∙ sample-of-bits (get_or samples i (pos 0)) (sample-at samples are i h)

pub sample-bytes-return : (n : ℕ) (bytes : List ℕ) (at : ℕ) → AreBytes bytes → length bytes ≡ at + 2 * n →
    sample_bytes (samples_at n bytes at) ≡ drop at bytes
unfolding sample_bytes samples_at tabulate
sample-bytes-return n bytes at are long =
    ap (λ (m : ℕ). concat_to m (bytes_of (samples_at n bytes at))) (samples-length n bytes at)
    ∙ concat_to-ext n _ _ at_each
    ∙ sym (grid-of n 2 (λ i k. get_or bytes (at + (i * 2 + k)) 0) 0 (drop at bytes) (length-drop at bytes ∙ omega arith) (λ i k h l. get_or-drop at bytes (i * 2 + k) 0))
  where
    at_each : (i : ℕ) → i < n → bytes_of (samples_at n bytes at) i ≡ tabulate 2 (λ k. get_or bytes (at + (i * 2 + k)) 0)
    at_each i h =
        let a = get_or bytes (at + 2 * i) 0 in
        let b = get_or bytes (at + 2 * i + 1) 0 in
        let small : b < 256 = byte_at bytes are (at + 2 * i + 1) in
        let bits : bits_of (get_or (samples_at n bytes at) i (pos 0)) ≡ a * 256 + b =
        ap bits_of (get_d_tabulate n _ (pos 0) i h) ∙ bits-of-sample (a * 256 + b) (omega (arith, byte_at bytes are (at + 2 * i))) in
        let high : (a * 256 + b) / 256 ≡ a = omega arith in
        let low : (a * 256 + b) % 256 ≡ b = omega arith in
        let first : at + 2 * i ≡ at + (i * 2 + 0) = omega arith in
        let second : at + 2 * i + 1 ≡ at + (i * 2 + 1) = omega arith in
        ap pair_bytes bits ∙ ap₂ (λ (x y : ℕ). x ∷ y ∷ []) (high ∙ ap (λ (j : ℕ). get_or bytes j 0) first) (low ∙ ap (λ (j : ℕ). get_or bytes j 0) second)

-- samples that were read have 16 bits
sample-small : (b : ℕ) → b < 65536 → mag (sample_of b) < 32768
sample-small b h =
    cond-at (λ (z : ℤ). mag z < 32768) (ltb b 32768) (λ e. ltb-true b 32768 e) (λ e. omega (arith, ltb-false b 32768 e))

are-16 : (zs : List ℤ) → ((i : ℕ) → i < length zs → mag (get_or zs i (pos 0)) < 32768) → Are16 zs
are-16 [] small = tt
are-16 (z ∷ zs) small = (small 0 (omega arith), are-16 zs (λ i h. small (suc i) (omega arith)))

pub samples-16 : (n : ℕ) (bytes : List ℕ) (at : ℕ) → AreBytes bytes → Are16 (samples_at n bytes at)
unfolding samples_at
samples-16 n bytes at are =
    are-16 (samples_at n bytes at)
    (λ i h. subst (λ (z : ℤ). mag z < 32768) (sym (get_d_tabulate n _ (pos 0) i (omega (arith, length-tabulate n (λ j. sample_of (pair_at bytes (at + 2 * j)))))))
    (sample-small (pair_at bytes (at + 2 * i)) (omega (arith, byte_at bytes are (at + 2 * i), byte_at bytes are (at + 2 * i + 1)))))
