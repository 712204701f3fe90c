-- The packets of samples, once over the most samples of a packet: how many, which samples each has, and the bytes before it. Assumes nothing.
use Prim.Native.Nat.{ℕ, zero, suc, ◌+◌, ◌*◌, ◌/◌, ◌%◌, ◌≤◌, ◌<◌}
use mathlib.Core.Path.{◌≡◌, sym, ap, ◌∙◌}
use mathlib.Core.List.{List, ◌++◌}
use native.Mathlib.Decide.{dec_lt}
use native.Mathlib.Nat.{suc-mul, zero-mul, one-mul, mul-one, mul-le-mul_left, mul-le-mul_right, div-add-mod', mod-lt}
use native.Mathlib.Omega.{arith}
use borrow.Author.Tests.{eqb-true, eqb-false}
use lib.Dec.{eqb}
use lib.IntN.{ℤ}
use lib.ListN.{length, take, drop, length-take, length-drop}
use lib.Seq.{take-add, take_all}
use Rattle.lists.specs.Tables.{concat_to}
use Rattle.lists.proofs.Choices.{by_cases}
use Rattle.space_packets.specs.Packet.{packet_count, samples_of}

-- ---- how many packets

module _ (n most : ℕ) (some : 0 < most) where
  -- all samples before those of packet p are there, and samples are left for it
  pub left-for : (p : ℕ) → p < packet_count n most → p * most < n
  left-for p h =
      by_cases (eqb (n % most) 0)
      (λ t. let more : suc p * most ≤ n / most * most = mul-le-mul_right most (let h' : p < n / most + 0 = rw t at h in omega arith) in
      omega (arith, more, suc-mul p most, div-add-mod' n most))
      (λ t. let upto : p * most ≤ n / most * most = mul-le-mul_right most (let h' : p < n / most + 1 = rw t at h in omega arith) in
      let rest : 0 < n % most = let e = eqb-false (n % most) 0 t in omega arith in
      omega (arith, upto, div-add-mod' n most))

  -- every packet but the last is full
  pub full-before : (p : ℕ) → p + 1 < packet_count n most → p * most + most ≤ n
  full-before p h =
      let more : suc p * most ≤ n / most * most = mul-le-mul_right most (by_cases (eqb (n % most) 0)
      (λ t. let h' : p + 1 < n / most + 0 = rw t at h in omega arith) (λ t. let h' : p + 1 < n / most + 1 = rw t at h in omega arith)) in
      omega (arith, more, suc-mul p most, div-add-mod' n most)

  -- the packets have room for all samples
  pub all_in : n ≤ packet_count n most * most
  all_in =
      by_cases (eqb (n % most) 0)
      (λ t. let e : n % most ≡ 0 = eqb-true (n % most) 0 t in let k : n / most + 0 ≡ n / most = omega arith in rw (t, k) (omega (arith, div-add-mod' n most)))
      (λ t. let k : n / most + 1 ≡ suc (n / most) = omega arith in rw (t, k) (omega (arith, suc-mul (n / most) most, div-add-mod' n most, mod-lt n some)))

  -- some samples that a packet has room for are one packet
  pub one-packet : 0 < n → n ≤ most → packet_count n most ≡ 1
  one-packet h l =
      by_count (dec_lt 1 (packet_count n most)) (dec_lt 0 (packet_count n most))
    where
      by_count : Dec (1 < packet_count n most) → Dec (0 < packet_count n most) → packet_count n most ≡ 1
      by_count (yes p) d = absurd (omega (arith, left-for 1 p, one-mul most))
      by_count (no p) (yes q) = omega arith
      by_count (no p) (no q) =
          let none : packet_count n most ≡ 0 = omega arith in
          let e : packet_count n most * most ≡ 0 = ap (λ (k : ℕ). k * most) none ∙ zero-mul most in
          absurd (omega (arith, all_in, e))

  -- no more packets than samples, and where a packet has m samples or more, no more than one for each m samples and one for what is left
  pub few : packet_count n most ≤ n
  few = by_count (dec_lt n (packet_count n most))
    where
      by_count : Dec (n < packet_count n most) → packet_count n most ≤ n
      by_count (yes p) =
          let more : n * 1 ≤ n * most = mul-le-mul_left n some in
          absurd (omega (arith, left-for n p, more, mul-one n))
      by_count (no p) = omega arith

  pub at_most : (m : ℕ) → 0 < m → m ≤ most → packet_count n most ≤ n / m + 1
  at_most m pos h = by_count (dec_lt (n / m + 1) (packet_count n most))
    where
      by_count : Dec (n / m + 1 < packet_count n most) → packet_count n most ≤ n / m + 1
      by_count (yes p) =
          let k : n / m + 1 ≡ suc (n / m) = omega arith in
          let more : suc (n / m) * m ≤ suc (n / m) * most = mul-le-mul_left (suc (n / m)) h in
          let less : suc (n / m) * most < n = rw k at (left-for (n / m + 1) p) in
          absurd (omega (arith, more, less, suc-mul (n / m) m, div-add-mod' n m, mod-lt n pos))
      by_count (no p) = omega arith

-- ---- which samples

module _ (most : ℕ) (samples : List ℤ) where
  -- the samples of the first p packets
  pub samples-so-far : (p : ℕ) → concat_to p (samples_of most samples) ≡ take (p * most) samples
  unfolding concat_to
  samples-so-far zero = ap (λ (k : ℕ). take k samples) (sym (zero-mul most))
  samples-so-far (suc p) =
      ap (λ (l : List ℤ). l ++ samples_of most samples p) (samples-so-far p) ∙ sym (take-add (p * most) most samples)
      ∙ ap (λ (k : ℕ). take k samples) (sym (suc-mul p most))

  pub samples-all : 0 < most → concat_to (packet_count (length samples) most) (samples_of most samples) ≡ samples
  samples-all some = samples-so-far (packet_count (length samples) most) ∙ take_all _ samples (all_in (length samples) most some)

  -- how many a packet has: as many as a packet can have, or what is left
  pub part_length : (p : ℕ) → p * most + most ≤ length samples → length (samples_of most samples p) ≡ most
  part_length p h = length-take most (drop (p * most) samples) ∙ omega (arith, length-drop (p * most) samples)

  pub part-some : (p : ℕ) → 0 < most → p * most < length samples → 0 < length (samples_of most samples p)
  part-some p some h = omega (arith, length-take most (drop (p * most) samples), length-drop (p * most) samples)

  pub part-most : (p : ℕ) → length (samples_of most samples p) ≤ most
  part-most p = omega (arith, length-take most (drop (p * most) samples))
