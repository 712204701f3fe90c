-- Every call of a list follows the book. Assumes nothing.
use Rattle.std.proofs.Common.{◌≡◌, ℕ, ◌+◌, ◌*◌, ◌^◌, ◌<◌, ◌≤◌, Bool, true, false, cond, eqb, ltb, leb, List, [], ◌∷◌, ◌++◌, map, length, get_or, ℤ, sym, refl, ap, ◌∙◌, subst, ap₂, arith, length-append, ltb-false, ltb-true, eq-eqb, ne_eqb, eqb-true}
use borrow.Author.Tests.{eqb-false}
use Rattle.lists.proofs.Choices.{by_cases, both, cond-false}
use Rattle.refusal.specs.Outcome.{refused}
use Rattle.refusal.proofs.Outcomes.{given-refused}
use Rattle.words.specs.Sample.{Are16}
use Rattle.summed.specs.declared.SumState.{SumState}
use Rattle.summed.specs.Totals.{no_totals, counted_before}
use Rattle.summed.specs.Call.{SumLeft, sum_refused, are_lengths, sound, in_force, totals_with, moved_to, after_earlier, after_eighth, accepted, component_summed}
use Rattle.summed.specs.Book.{Book, Input, Entry, exact_sum, right_lengths, with_input, dropped, entry_kept, entry, empty_book, after}
use Rattle.summed.specs.Book as book
use Rattle.summed.specs.History.{TotalsPassed, current, wrong, Call, Typed, Memory, Begun, after_call, after_calls, input_of, book_after, answer_of}
use Rattle.summed.specs.Claims.{TotalsOf, KeepsBook, OutAfter, Accepted, Agrees, SumsFollow, NeverUnsound, Sound}
use Rattle.summed.proofs.Sums.{power_le, share, share-le, counted-more, sum-none, sum_more, totals-length, first-at, second_at, sound-of, start-sound, start-zero, no-totals-at, no-totals-length}
use Rattle.summed.proofs.Laws.{counted-le}
use Rattle.summed.proofs.Codes.{codes-written}

-- ---- a call by its cases

module _ (s : SumState) (totals : List ℕ) (n first second : ℕ) (pairs : List ℤ) (out : List ℕ) where
  abbrev left : SumLeft
  left = component_summed s totals n first second pairs out

  abbrev lengths : Bool
  lengths = are_lengths (length totals) (length pairs) (length out)

  pub call-2 : lengths ≡ false → left ≡ sum_refused 2 s totals out
  unfolding component_summed
  call-2 a = rw a

  pub call-3 : lengths ≡ true → sound s totals ≡ false → left ≡ sum_refused 3 s totals out
  unfolding component_summed
  call-3 a b = rw (a, b)

  pub call-17 : lengths ≡ true → sound s totals ≡ true → eqb n s.next ≡ false → left ≡ sum_refused 17 s totals out
  unfolding component_summed
  call-17 a b d = rw (a, b, d)

  pub call-accepted : lengths ≡ true → sound s totals ≡ true → eqb n s.next ≡ true → left ≡ accepted (in_force s n first second) pairs totals out
  unfolding component_summed
  call-accepted a b d = rw (a, b, d)

-- ---- an entry by its cases

module _ (b : Book) (i : Input) where
  entry-2 : right_lengths i ≡ false → entry b i ≡ record { reply = book.refused 2; next = b }
  unfolding entry
  entry-2 a = rw a

  entry-17 : right_lengths i ≡ true → eqb i.component (length b.components) ≡ false → entry b i ≡ record { reply = book.refused 17; next = b }
  unfolding entry
  entry-17 a d = rw (a, d)

  entry-accepted : right_lengths i ≡ true → eqb i.component (length b.components) ≡ true → entry b i ≡ entry_kept (with_input b i)
  unfolding entry
  entry-accepted a d = rw (a, d)

-- ---- the masks that hold

-- the state with the masks in force stands at component n, and is as sound
module _ (s : SumState) (totals : List ℕ) (n first second : ℕ) (e : n ≡ s.next) (f : Sound s totals) where
  pub force-next : (in_force s n first second).next ≡ n
  force-next =
      by_cases (eqb n 0)
      (λ t. rw (t) refl)
      (λ t. rw (t) (sym e))

  pub force-sound : Sound (in_force s n first second) totals
  force-sound =
      by_cases (eqb n 0)
      (λ t.
      let z : s.next ≡ 0 = sym e ∙ eqb-true n 0 t in
      rw (t) (start-sound (record { next = n; first = first; second = second }) totals (eqb-true n 0 t) (start-zero s totals z f)))
      (λ t. rw (t) f)

-- ---- totals and book with a component more

-- beside a book: a call finds the caller's memory as the book says, and sound
pub record Represents (x : Memory) (b : Book) : Type 0 where
  pub keeps : KeepsBook x b
  pub sounds : Sound x.state x.totals

-- the state s, whose masks hold, the book b with the component that comes next, and the sums with it
pub record Summing (s : SumState) (b : Book) (sums : List ℕ) : Type 0 where
  pub first-mask : s.first ≡ b.first
  pub second-mask : s.second ≡ b.second
  pub count : length b.components ≡ s.next + 1
  pub totals : TotalsOf b sums
  pub first-le : (k : ℕ) → k < 1024 → get_or sums k 0 ≤ counted_before s.first (s.next + 1) * 2 ^ 31
  pub second-le : (k : ℕ) → k < 1024 → get_or sums (1024 + k) 0 ≤ counted_before s.second (s.next + 1) * 2 ^ 31

module _ (x : Memory) (b : Book) (r : Represents x b) (i : Input) (same : i.component ≡ x.state.next) (long : length i.pairs ≡ 2048) (f : Are16 i.pairs) where
  abbrev force : SumState
  force = in_force x.state i.component i.first i.second

  abbrev sums : List ℕ
  sums = totals_with force i.pairs x.totals

  n_kept : i.component ≡ length b.components
  n_kept = same ∙ r.keeps.place

  next : force.next ≡ i.component
  next = force-next x.state x.totals i.component i.first i.second same r.sounds

  all : length x.totals ≡ 2048
  all = r.keeps.totals.totals-length

  sound-force : Sound force x.totals
  sound-force = force-sound x.state x.totals i.component i.first i.second same r.sounds

  -- the masks in force are those of the book with the component, and the totals are the sums by them
  masks : (force.first ≡ (with_input b i).first) × (force.second ≡ (with_input b i).second)
  masks =
      by_cases (eqb i.component 0)
      (λ t. rw (t) (refl, refl))
      (λ t. rw (t) (r.keeps.masks (let n : ¬ (i.component ≡ 0) = eqb-false i.component 0 t in omega (arith, n_kept))))

  held : (kept own k t : ℕ) → (0 < length b.components → own ≡ kept) → t ≡ exact_sum kept b.components k → t ≡ exact_sum own b.components k
  held kept own k t m e =
      by_cases (ltb 0 (length b.components))
      (λ p. e ∙ ap (λ (mask : ℕ). exact_sum mask b.components k) (sym (m (ltb-true 0 (length b.components) p))))
      (λ p.
      let none : length b.components ≡ 0 = omega (arith, ltb-false 0 (length b.components) p) in
      e ∙ sum-none kept 0 b.components k none ∙ sym (sum-none own 0 b.components k none))

  grown : (mask kept t k : ℕ) → mask ≡ kept → t ≡ exact_sum mask b.components k →
      t + share mask force.next i.pairs k ≡ exact_sum kept (b.components ++ (i.pairs ∷ [])) k
  grown mask kept t k m e =
      let n : force.next ≡ 0 + length b.components = omega (arith, next, n_kept) in
      ap₂ (λ (u j : ℕ). u + share mask j i.pairs k) e n ∙ sym (sum_more mask 0 b.components i.pairs k)
      ∙ ap (λ (w : ℕ). exact_sum w (b.components ++ (i.pairs ∷ [])) k) m

  bounded : (mask t k : ℕ) → k < 1024 → t ≤ counted_before mask force.next * 2 ^ 31 →
      t + share mask force.next i.pairs k ≤ counted_before mask (force.next + 1) * 2 ^ 31
  bounded mask t k h l =
      omega (arith, l, share-le mask force.next i.pairs k (power_le i.pairs k f long h), counted-more mask force.next)

  -- the masks of the state where some component is kept
  later : (0 < length b.components) → force ≡ x.state
  later h = cond-false (eqb i.component 0) _ x.state (ne_eqb i.component 0 (λ z. omega (arith, z, n_kept, h)))

  pub summing : Summing force (with_input b i) sums
  summing =
      record {
        first-mask = masks.0;
        second-mask = masks.1;
        count = omega (arith, length-append b.components (i.pairs ∷ []), next, n_kept);
        totals = record {
          totals-length = totals-length force i.pairs x.totals all;
          first_run = λ k h. first-at force i.pairs x.totals all k h
              ∙ grown force.first (with_input b i).first (get_or x.totals k 0) k masks.0
              (held b.first force.first k (get_or x.totals k 0) (λ l. ap (λ (s : SumState). s.first) (later l) ∙ (r.keeps.masks l).0) (r.keeps.totals.first_run k h));
          second_run = λ k h. second_at force i.pairs x.totals all k h
              ∙ grown force.second (with_input b i).second (get_or x.totals (1024 + k) 0) k masks.1
              (held b.second force.second k (get_or x.totals (1024 + k) 0) (λ l. ap (λ (s : SumState). s.second) (later l) ∙ (r.keeps.masks l).1) (r.keeps.totals.second_run k h));
        };
        first-le = λ k h. subst (λ (v : ℕ). v ≤ counted_before force.first (force.next + 1) * 2 ^ 31) (sym (first-at force i.pairs x.totals all k h))
            (bounded force.first (get_or x.totals k 0) k h (sound-force.first_run k h));
        second-le = λ k h. subst (λ (v : ℕ). v ≤ counted_before force.second (force.next + 1) * 2 ^ 31) (sym (second_at force i.pairs x.totals all k h))
            (bounded force.second (get_or x.totals (1024 + k) 0) k h (sound-force.second_run k h));
      }

-- ---- what an accepted call leaves, beside the book with its component

-- a call's answer, output and the memory afterwards follow the entry e
pub record Follows (before : List ℕ) (e : Entry) (o : SumLeft) : Type 0 where
  pub answer : o.answer ≡ answer_of e.reply
  pub out : OutAfter e.reply before o.out
  pub next : Represents (record { state = o.state; totals = o.totals }) e.next
  pub masks : Accepted e.reply → (o.state.first ≡ e.next.first) × (o.state.second ≡ e.next.second)

module _ (s : SumState) (b : Book) (sums out : List ℕ) (g : Summing s b sums) (h : s.next < 8) where
  -- before the eighth
  kept-follows : s.next < 7 → Follows out (record { reply = book.kept; next = b }) (after_earlier s sums out)
  kept-follows l =
      record {
        answer = refl;
        out = refl;
        next = record {
          keeps = record { place = sym g.count; masks = λ p. (g.first-mask, g.second-mask); totals = g.totals };
          sounds = record { place = omega arith; first_run = g.first-le; second_run = g.second-le };
        };
        masks = λ a. (g.first-mask, g.second-mask);
      }

  -- each sum fits 64 bits
  small : (mask v : ℕ) → v ≤ counted_before mask (s.next + 1) * 2 ^ 31 → v < 2 ^ 64
  small mask v l = omega (arith, l, counted-le mask (s.next + 1), h)

  -- the eighth
  full-follows : Follows out (record { reply = book.full b; next = dropped b }) (after_eighth s sums out)
  full-follows =
      record {
        answer = refl;
        out = codes-written b sums out g.totals
            (λ k l. subst (λ (v : ℕ). v < 2 ^ 64) (g.totals.first_run k l) (small s.first (get_or sums k 0) (g.first-le k l)))
            (λ k l. subst (λ (v : ℕ). v < 2 ^ 64) (g.totals.second_run k l) (small s.second (get_or sums (1024 + k) 0) (g.second-le k l)));
        next = record {
          keeps = record {
            place = refl;
            masks = λ p. (g.first-mask, g.second-mask);
            totals = record { totals-length = no-totals-length; first_run = λ k l. no-totals-at k (omega arith); second_run = λ k l. no-totals-at (1024 + k) (omega arith) };
          };
          sounds = start-sound (moved_to 0 s) no_totals refl no-totals-at;
        };
        masks = λ a. (g.first-mask, g.second-mask);
      }

  accepted-follows : Follows out (entry_kept b) (cond (ltb s.next 7) (after_earlier s sums out) (after_eighth s sums out))
  accepted-follows =
      by_cases (ltb s.next 7)
      (λ t.
      let l : s.next < 7 = ltb-true s.next 7 t in
      rw (t, ne_eqb (length b.components) 8 (λ e. omega (arith, e, g.count, l))) (kept-follows l))
      (λ t.
      let l : 7 ≤ s.next = ltb-false s.next 7 t in
      rw (t, eq-eqb (length b.components) 8 (omega (arith, g.count, l, h))) full-follows)

-- ---- every call

module _ (x : Memory) (b : Book) (r : Represents x b) where
  unchanged : Represents (record { state = x.state; totals = x.totals }) b
  unchanged = record { keeps = record { place = r.keeps.place; masks = r.keeps.masks; totals = r.keeps.totals }; sounds = r.sounds }

-- a call that is given the caller's totals
module _ (x : Memory) (b : Book) (r : Represents x b) (n first second : ℕ) (pairs : List ℤ) (out : List ℕ) (f : Are16 pairs) where
  abbrev i : Input
  i = record { component = n; first = first; second = second; pairs = pairs; totals_length = 2048; out_length = length out }

  sounds : sound x.state x.totals ≡ true
  sounds = sound-of x.state x.totals r.sounds

  lengths-same : are_lengths (length x.totals) (length pairs) (length out) ≡ right_lengths i
  lengths-same = ap (λ (m : ℕ). are_lengths m (length pairs) (length out)) r.keeps.totals.totals-length

  call-follows : Follows out (entry b i) (component_summed x.state x.totals n first second pairs out)
  call-follows =
      by_cases (right_lengths i)
      (λ t.
      by_cases (eqb n (length b.components))
      (λ u.
      let same : n ≡ x.state.next = eqb-true n (length b.components) u ∙ sym r.keeps.place in
      let long : length pairs ≡ 2048 = eqb-true (length pairs) 2048 (both (eqb (length pairs) 2048) (leb 4096 (length out)) t).0 in
      let place : (in_force x.state n first second).next < 8 = omega (arith, (force-sound x.state x.totals n first second same r.sounds).place) in
      rw (entry-accepted b i t u, call-accepted x.state x.totals n first second pairs out (lengths-same ∙ t) sounds (eq-eqb n x.state.next same))
      (accepted-follows (in_force x.state n first second) (with_input b i) (totals_with (in_force x.state n first second) pairs x.totals) out
      (summing x b r i same long f) place))
      (λ u.
      let other : eqb n x.state.next ≡ false = ap (eqb n) r.keeps.place ∙ u in
      rw (entry-17 b i t u, call-17 x.state x.totals n first second pairs out (lengths-same ∙ t) sounds other)
      (record { answer = refl; out = refl; next = unchanged x b r; masks = λ a. absurd a })))
      (λ t.
      rw (entry-2 b i t, call-2 x.state x.totals n first second pairs out (lengths-same ∙ t))
      (record { answer = refl; out = refl; next = unchanged x b r; masks = λ a. absurd a }))

module _ (x : Memory) (b : Book) (r : Represents x b) where
  -- a call agrees with the book, and leaves memory and book alike
  pub record Steps (c : Call) : Type 0 where
    pub agrees : Agrees x b c
    pub next : Represents (after_call x c) (entry b (input_of c)).next

  pub steps : (p : TotalsPassed) (n first second : ℕ) (pairs : List ℤ) (out : List ℕ) → Are16 pairs →
      Steps (record { passed = p; component = n; first = first; second = second; pairs = pairs; out = out })
  steps current n first second pairs out f =
      let g = call-follows x b r n first second pairs out f in
      record { agrees = record { answer = g.answer; out = g.out; keeps = g.next.keeps; masks = g.masks }; next = g.next }
  steps (wrong l d) n first second pairs out f =
      let w : eqb (length l) 2048 ≡ false = ne_eqb (length l) 2048 d in
      let i : Input = record { component = n; first = first; second = second; pairs = pairs; totals_length = length l; out_length = length out } in
      let lengths : are_lengths (length l) (length pairs) (length out) ≡ false = rw w in
      let e = entry-2 b i lengths in
      let o = call-2 x.state l n first second pairs out lengths in
      record {
        agrees = record { answer = rw (e, o) refl; out = rw (e, o) refl; keeps = rw (e, o) (unchanged x b r).keeps; masks = rw (e, o) (λ a. absurd a) };
        next = rw (e, o) (unchanged x b r);
      }

-- ---- every list of calls

pub begun-represents : (x : Memory) → Begun x → Represents x empty_book
begun-represents x g =
    let zeros : (k : ℕ) → k < 2048 → get_or x.totals k 0 ≡ 0 = λ k l. ap (λ (t : List ℕ). get_or t k 0) g.totals ∙ no-totals-at k l in
    record {
      keeps = record {
        place = g.place;
        masks = λ h. absurd (omega (arith, h));
        totals = record { totals-length = ap length g.totals ∙ no-totals-length; first_run = λ k l. zeros k (omega arith); second_run = λ k l. zeros (1024 + k) (omega arith) };
      };
      sounds = start-sound x.state x.totals g.place zeros;
    }

follow-from : (x : Memory) (b : Book) → Represents x b → (calls : List Call) (c : Call) → Typed (calls ++ (c ∷ [])) →
    Agrees (after_calls x calls) (after b (map input_of calls)) c
follow-from x b r [] c f = (steps x b r c.passed c.component c.first c.second c.pairs c.out f.0).agrees
follow-from x b r (d ∷ calls) c f =
    follow-from (after_call x d) (entry b (input_of d)).next (steps x b r d.passed d.component d.first d.second d.pairs d.out f.0).next calls c f.1

pub sums-follow : SumsFollow
sums-follow x calls c g f = follow-from x empty_book (begun-represents x g) calls c f

-- the book refuses nothing by 3
never-3 : (b : Book) (i : Input) → ¬ (answer_of (entry b i).reply ≡ refused 3)
never-3 b i =
    by_cases (right_lengths i)
    (λ t.
    by_cases (eqb i.component (length b.components))
    (λ u.
    rw (entry-accepted b i t u)
    (by_cases (eqb (length (with_input b i).components) 8) (λ v. rw v (given-refused 4096 3)) (λ v. rw v (given-refused 0 3))))
    (λ u. rw (entry-17 b i t u) (λ e. let z : ◌≡◌ {A = ℕ} 17 3 = cc in omega arith)))
    (λ t. rw (entry-2 b i t) (λ e. let z : ◌≡◌ {A = ℕ} 2 3 = cc in omega arith))

pub never-unsound : NeverUnsound
never-unsound x calls c g f e = never-3 (book_after calls) (input_of c) (sym (sums-follow x calls c g f).answer ∙ e)
