-- The claims on fields and samples. Assumes nothing.
use Prim.Native.Nat.{ℕ, ◌+◌}
use mathlib.Core.Path.{◌≡◌, refl, sym, ap, ap₂, subst, ◌∙◌}
use mathlib.Core.List.{List, [], ◌∷◌, ◌++◌, append_assoc}
use native.Mathlib.Omega.{arith}
use lib.ListN.{length, take, drop, length-append}
use lib.Seq.{take-add, drop-drop}
use Rattle.lists.specs.Tables.{concat_to}
use Rattle.words.specs.Words.{AreBytes}
use Rattle.fields.specs.Fields.{Field, number_at, number_bytes, number_in, numbers_in, field_bytes, size_of, FollowFrom, FitFields}
use Rattle.fields.specs.Samples.{sample_bytes}
use Rattle.fields.specs.Claims.{NumbersReturn, BytesReturn, SamplesReturn, SampleBytesReturn, WorkedSamples}
use Rattle.fields.proofs.Numbers.{length-number, number-returns, number_lt}
use Rattle.fields.proofs.Numbers as numbers
use Rattle.fields.proofs.Samples as samples

pub numbers-return : NumbersReturn
numbers-return [] xs before rest follow fit = sym fit
numbers-return (f ∷ fs) [] before rest follow fit = absurd fit
numbers-return (f ∷ fs) (x ∷ xs) before rest follow fit =
    let b = number_bytes f.size x in
    let more = field_bytes fs xs in
    let long : length (before ++ b) ≡ length before + f.size = length-append before b ∙ ap (λ (n : ℕ). length before + n) (length-number f.size x) in
    let inner : before ++ ((b ++ more) ++ rest) ≡ before ++ (b ++ (more ++ rest)) = ap (λ (l : List ℕ). before ++ l) (append_assoc b more rest) in
    let outer : before ++ ((b ++ more) ++ rest) ≡ (before ++ b) ++ (more ++ rest) = inner ∙ sym (append_assoc before b (more ++ rest)) in
    let here : number_in f (before ++ ((b ++ more) ++ rest)) ≡ x =
    ap₂ (number_at f.size) inner follow.0 ∙ number-returns f.size x before (more ++ rest) fit.0 in
    let later : numbers_in fs (before ++ ((b ++ more) ++ rest)) ≡ xs =
    ap (numbers_in fs) outer ∙ numbers-return fs xs (before ++ b) rest (subst (λ (n : ℕ). FollowFrom n fs) (sym long) follow.1) fit.1 in
    ap₂ (λ (n : ℕ) (ns : List ℕ). n ∷ ns) here later

pub bytes-return : BytesReturn
bytes-return [] bytes at are follow h = refl
bytes-return (f ∷ fs) bytes at are follow h =
    let here : number_bytes f.size (number_in f bytes) ≡ take f.size (drop at bytes) =
    ap (λ (k : ℕ). number_bytes f.size (number_at f.size bytes k)) follow.0 ∙ numbers.bytes-return f.size bytes at are (omega arith) in
    ap₂ (λ (a b : List ℕ). a ++ b) here (bytes-return fs bytes (at + f.size) are follow.1 (omega arith) ∙ ap (take (size_of fs)) (sym (drop-drop f.size at bytes)))
    ∙ sym (take-add f.size (size_of fs) (drop at bytes))

-- numbers that were read fit their fields
pub numbers_fit : (fs : List Field) (bytes : List ℕ) → AreBytes bytes → FitFields fs (numbers_in fs bytes)
numbers_fit [] bytes are = refl
numbers_fit (f ∷ fs) bytes are = (number_lt f.size bytes f.at are, numbers_fit fs bytes are)

pub samples-return : SamplesReturn
samples-return = samples.samples-return

pub sample-bytes-return : SampleBytesReturn
sample-bytes-return = samples.sample-bytes-return

pub worked-samples : WorkedSamples
unfolding sample_bytes concat_to
worked-samples = refl
