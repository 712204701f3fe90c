-- What 01 says of the registers as a whole. A register is sound exactly if a write can store it. Reset gives sound registers, and a
-- write keeps them sound. Writing back what was read stores the same value again and changes nothing. A write changes one register only,
-- and a read of that register gives the value stored. Assumes nothing.
use Rattle.refusal.specs.declared.Refusal.{Refusal}
use Rattle.std.specs.Prelude.{Err, Ok, Result}
use Prim.Native.Nat.{ℕ, ◌-◌, ◌≤◌, ◌<◌}
use mathlib.Core.Path.{◌≡◌, refl, sym, ap, subst, ◌∙◌}
use mathlib.Core.Bool.{true, ◌&&◌, true≢false}
use native.Mathlib.Omega.{arith}
use borrow.Author.Tests.{eq-eqb, eqb-true, eqb-false, lt-ltb, ltb-true, ltb-false, le-leb, leb-true, leb-false}
use lib.Dec.{eqb, leb, ltb}
use lib.ListN.{length}
use lib.Seq.{set-get_or, get_or-set_same, get_or-set_other, set_out}
use Rattle.lists.specs.Sums.{all_to}
use Rattle.lists.proofs.Choices.{by_cases, both}
use Rattle.lists.proofs.Sums.{all_to-of, all_to-at}
use Rattle.refusal.specs.Outcome.{given, answer_outcome}
use Rattle.refusal.proofs.Outcomes.{refused-given}
use Rattle.registers.specs.Store.{source_of, bins_of, navg_of, ncad_of, high_stored, low_stored, stored_at, stored, can_store}
use Rattle.registers.specs.Access.{register, storable, registers_sound, is_id, stored_to, register_read, write_outcome}
use Rattle.registers.specs.Claims.{CanStore, FirstExactly, OthersExactly, ResetSound, WriteSound, WriteBack, WriteOne, ReadWritten}
use Rattle.registers.specs.declared.Registers.{Registers}
use Rattle.registers.proofs.Laws.{id_range}
use Rattle.registers.proofs.Stored.{stored-again, stored-lt, source-over, first-can, other-can}

-- a value is one that a write of 16 bits to register n can store exactly if a write of it stores it
pub can_store-exactly : CanStore
can_store-exactly n w = (λ p. rw (← p.2) (stored-again n p.0), λ e. (w, rw e at (stored-lt n w), e))

-- a value that is stored exactly has a source within its limit
source-within : (n v : ℕ) → can_store n v ≡ true → source_of v ≤ 0x16
source-within n v t =
    by_cases (leb (source_of v) 0x16) (λ l. leb-true (source_of v) 0x16 l)
    (λ l. absurd (true≢false (sym t ∙ source-over n v (leb-false (source_of v) 0x16 l))))

pub first-exactly : FirstExactly
first-exactly v = (only, if-so)
  where
    only : stored_at 0 v ≡ v → (source_of v ≤ 0x16) × (bins_of v ≤ 2) × (navg_of v ≤ 0xA) × (ncad_of v ≤ 0xA)
    only e =
        let t : can_store 0 v ≡ true = eq-eqb (stored_at 0 v) v e in
        let h = source-within 0 v t in
        let a = both (leb (ncad_of v) 0xA) (leb (navg_of v) 0xA && leb (bins_of v) 2) (sym (first-can v h) ∙ t) in
        let b = both (leb (navg_of v) 0xA) (leb (bins_of v) 2) a.1 in
        (h, leb-true (bins_of v) 2 b.1, leb-true (navg_of v) 0xA b.0, leb-true (ncad_of v) 0xA a.0)

    if-so : (source_of v ≤ 0x16) × (bins_of v ≤ 2) × (navg_of v ≤ 0xA) × (ncad_of v ≤ 0xA) → stored_at 0 v ≡ v
    if-so h =
        let t : can_store 0 v ≡ true = first-can v h.0 ∙ simp (le-leb (ncad_of v) 0xA h.3, le-leb (navg_of v) 0xA h.2, le-leb (bins_of v) 2 h.1) in
        eqb-true (stored_at 0 v) v t

pub others-exactly : OthersExactly
others-exactly n v other = (only, if-so)
  where
    only : stored_at n v ≡ v → (source_of v ≤ 0x16) × (v < 64)
    only e =
        let t : can_store n v ≡ true = eq-eqb (stored_at n v) v e in
        let h = source-within n v t in
        (h, ltb-true v 64 (sym (other-can n v other h) ∙ t))

    if-so : (source_of v ≤ 0x16) × (v < 64) → stored_at n v ≡ v
    if-so h = eqb-true (stored_at n v) v (other-can n v other h.0 ∙ lt-ltb v 64 h.1)

-- `sound` says so of each register
pub sound-at : (r : Registers) → registers_sound r ≡ true → (n : ℕ) → n < 7 → stored_at n (register r n) ≡ register r n
unfolding registers_sound
sound-at r h n l = eqb-true _ _ (all_to-at 7 (storable r) h n l)

sound-of : (r : Registers) → ((n : ℕ) → n < 7 → stored_at n (register r n) ≡ register r n) → registers_sound r ≡ true
unfolding registers_sound
sound-of r h = all_to-of 7 _ (λ n l. eq-eqb _ _ (h n l))

-- a register that is set to a value that it can store leaves the registers sound
pub write-sound : WriteSound
write-sound r id v h = sound-of (stored_to r id v) at_each
  where
    n : ℕ
    n = id - 0x30

    at_each : (j : ℕ) → j < 7 → stored_at j (register (stored_to r id v) j) ≡ register (stored_to r id v) j
    at_each j l =
        by_cases (eqb j n)
        (λ e. by_cases (ltb n (length r.value))
        (λ k. subst (λ m. stored_at m (register (stored_to r id v) m) ≡ register (stored_to r id v) m) (sym (eqb-true j n e))
        (rw (get_or-set_same r.value n (stored id v) 0 (ltb-true n _ k)) (stored-again n v)))
        (λ k. rw (set_out r.value n (stored id v) (ltb-false n _ k)) (sound-at r h j l)))
        (λ e. rw (get_or-set_other r.value n j (stored id v) 0 (eqb-false j n e)) (sound-at r h j l))

-- reset gives sound registers
pub reset-sound : ResetSound
unfolding registers_sound all_to stored_at high_stored low_stored
reset-sound = refl

-- what an accepted read and an accepted write had
pub read-accepted : (r : Registers) (id v : ℕ) → register_read r id ≡ given v → (registers_sound r ≡ true) × (is_id id ≡ true) × (register r (id - 0x30) ≡ v)
unfolding register_read
read-accepted r id v e =
    by_cases (registers_sound r) (λ s. by_cases (is_id id)
    (λ i. let g : given (register r (id - 0x30)) ≡ given v = rw (s, i) at e in (s, i, cc))
    (λ i. absurd (refused-given 1 v (rw (s, i) at e))))
    (λ s. absurd (refused-given 3 v (rw s at e)))

write-accepted : (r : Registers) (id v w : ℕ) → (write_outcome r id v).answer ≡ given w → (registers_sound r ≡ true) × (is_id id ≡ true) × (stored id v ≡ w)
unfolding write_outcome
write-accepted r id v w e =
    by_cases (registers_sound r) (λ s. by_cases (is_id id)
    (λ i. let g : given (stored id v) ≡ given w = rw (s, i) at e in (s, i, cc))
    (λ i. absurd (refused-given 1 w (rw (s, i) at e))))
    (λ s. absurd (refused-given 3 w (rw s at e)))

-- a write to sound registers with the ID of one of them is accepted
pub write-takes : (r : Registers) (id v : ℕ) → registers_sound r ≡ true → is_id id ≡ true →
    write_outcome r id v ≡ record { answer = given (stored id v); registers = stored_to r id v }
unfolding write_outcome
write-takes r id v h known = rw (h, known)

-- an answer that gives a value is that value
pub answer-given : (a : Result ℕ Refusal) (v : ℕ) → answer_outcome a ≡ given v → a ≡ Ok v
answer-given (Ok u) v e = let same : u ≡ v = cc in ap Ok same
answer-given (Err r) v e = absurd (refused-given _ v e)

-- writing back what was read stores the same value again and changes nothing
pub write-back : WriteBack
unfolding write_outcome
write-back r id v e =
    let t = read-accepted r id v e in
    let range = id_range id t.1 in
    let same : stored_at (id - 0x30) (register r (id - 0x30)) ≡ register r (id - 0x30) = sound-at r t.0 (id - 0x30) (omega arith) in
    rw (t.0, t.1, ← t.2, same, set-get_or)

-- a write changes no other register
pub write-one : WriteOne
unfolding write_outcome
write-one r id v n other =
    by_cases (registers_sound r) (λ s. by_cases (is_id id)
    (λ i. rw (s, i) (get_or-set_other r.value (id - 0x30) n (stored id v) 0 other))
    (λ i. rw (s, i)))
    (λ s. rw s)

-- a read after an accepted write gives the value stored; the registers are seven, as those of the type are
pub read-written : ReadWritten
unfolding register_read write_outcome
read-written r id v w long e =
    let t = write-accepted r id v w e in
    let range = id_range id t.1 in
    rw (t.0, t.1, write-sound r id v t.0, get_or-set_same r.value (id - 0x30) (stored id v) 0 (omega arith), t.2)
