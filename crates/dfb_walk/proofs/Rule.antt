-- The rule by its cases, as the functions come to them. Assumes nothing.
use Prim.Native.Nat.{ℕ, ◌^◌, ◌<◌}
use mathlib.Core.Path.{◌≡◌, refl, sym, ap, ◌∙◌}
use mathlib.Core.Bool.{Bool, true, false, cond, not, ◌||◌, true≢false}
use mathlib.Core.List.{List, [], ◌∷◌}
use native.Mathlib.Omega.{arith}
use borrow.Author.Tests.{lt-leb, leb-false, eq-eqb, eqb-true, ltb-true, ltb-false}
use lib.Dec.{leb, ltb, eqb}
use lib.ListN.{length}
use Rattle.lists.specs.Tables.{overwrite}
use Rattle.lists.proofs.Choices.{by_cases}
use Rattle.std.specs.Prelude.{Result}
use Rattle.refusal.specs.declared.Fault.{Fault}
use Rattle.refusal.specs.Outcome.{Outcome, given, refused, Filled, unfilled}
use Rattle.refusal.proofs.Outcomes.{given-refused}
use Rattle.walk.specs.declared.Advance.{Advance}
use Rattle.walk.specs.declared.Step.{Step}
use Rattle.walk.specs.declared.Walk.{Walk}
use Rattle.walk.specs.Outcomes.{end, refused_at, Stepped, item, last, Advanced, step_outcome, advance_outcome}
use Rattle.walk.specs.Walk.{next_at}
use Rattle.walk.proofs.Laws.{refused-within, next_past}
use Rattle.dfb_refusals.specs.Numbers.{values_put}
use Rattle.dfb_walk.specs.Next.{place_of, walk_of, WalkOutcome, walk_refused, numbers_put, advance_answer, is_outside, walk_next}
use Rattle.dfb_walk.specs.Private.{narrowed_walk}
use Rattle.dfb_walk.specs.Claims.{Inside}
use Rattle.dfb_walk.proofs.Narrowing.{same_answer}

-- ---- five numbers put, and the walk written where they are accepted

module _ (kind offset bytes a b : ℕ) (walk list list' : List ℕ) (q : Outcome ℕ)
    (e : record { answer = q; buffer = list' } ≡ values_put (record { number = 0; values = kind ∷ offset ∷ bytes ∷ a ∷ b ∷ [] }) list) where
  abbrev five : List ℕ
  five = kind ∷ offset ∷ bytes ∷ a ∷ b ∷ []

  abbrev left-by : List ℕ → Filled ℕ → WalkOutcome
  left-by later f = record { answer = f.answer; walk = later; item = f.buffer }

  pub put_given : (later : List ℕ) → q ≡ given 0 → record { answer = q; walk = later; item = list' } ≡ numbers_put five later walk list
  put_given later z = by (ltb (length list) 5) e
    where
      by : (t : Bool) → record { answer = q; buffer = list' } ≡ cond t (unfilled 2 list) (record { answer = given 0; buffer = overwrite five list })
          → record { answer = q; walk = later; item = list' } ≡ cond t (walk_refused 2 walk list) (record { answer = given 0; walk = later; item = overwrite five list })
      by true p = absurd (given-refused 0 2 (sym z ∙ ap (λ (f : Filled ℕ). f.answer) p))
      by false p = ap (left-by later) p

  pub put_refused : (later : List ℕ) (n : ℕ) → q ≡ refused n → record { answer = q; walk = walk; item = list' } ≡ numbers_put five later walk list
  put_refused later n z = by (ltb (length list) 5) e
    where
      by : (t : Bool) → record { answer = q; buffer = list' } ≡ cond t (unfilled 2 list) (record { answer = given 0; buffer = overwrite five list })
          → record { answer = q; walk = walk; item = list' } ≡ cond t (walk_refused 2 walk list) (record { answer = given 0; walk = later; item = overwrite five list })
      by true p = ap (left-by walk) p
      by false p = absurd (given-refused 0 n (sym (ap (λ (f : Filled ℕ). f.answer) p) ∙ z))

  -- the walk stays
  pub put_same : record { answer = q; walk = walk; item = list' } ≡ numbers_put five walk walk list
  put_same = by (ltb (length list) 5) e
    where
      by : (t : Bool) → record { answer = q; buffer = list' } ≡ cond t (unfilled 2 list) (record { answer = given 0; buffer = overwrite five list })
          → record { answer = q; walk = walk; item = list' } ≡ cond t (walk_refused 2 walk list) (record { answer = given 0; walk = walk; item = overwrite five list })
      by true p = ap (left-by walk) p
      by false p = ap (left-by walk) p

-- ---- what is refused before the walk

module _ (log walk : List ℕ) where
  pub inside_of : is_outside (length log) walk ≡ false → Inside log walk
  inside_of e = by (leb (2 ^ 55) (length log)) (eqb (length walk) 9) (leb (2 ^ 55) (place_of walk)) refl refl refl e
    where
      by : (a b d : Bool) → leb (2 ^ 55) (length log) ≡ a → eqb (length walk) 9 ≡ b → leb (2 ^ 55) (place_of walk) ≡ d → a || not b || d ≡ false → Inside log walk
      by true b d p q r t = absurd (true≢false t)
      by false false d p q r t = absurd (true≢false t)
      by false true true p q r t = absurd (true≢false t)
      by false true false p q r t = record { short = leb-false (2 ^ 55) (length log) p; nine = eqb-true (length walk) 9 q; near = leb-false (2 ^ 55) (place_of walk) r }

  pub is-inside : Inside log walk → is_outside (length log) walk ≡ false
  is-inside i = rw (lt-leb (2 ^ 55) (length log) i.short, eq-eqb (length walk) 9 i.nine, lt-leb (2 ^ 55) (place_of walk) i.near)

  module _ (list : List ℕ) where
    pub outside-refused-by : is_outside (length log) walk ≡ true → walk_refused 2 walk list ≡ walk_next log walk list
    unfolding walk_next
    outside-refused-by e = rw e

    pub inside-answered : is_outside (length log) walk ≡ false → advance_answer (next_at log (walk_of walk)) walk list ≡ walk_next log walk list
    unfolding walk_next
    inside-answered e = rw e

    -- what the code walks from is the narrowed walk
    pub narrowed-answered : (a : Advanced) → is_outside (length log) walk ≡ false → next_at log (narrowed_walk walk) ≡ a → advance_answer a walk list ≡ walk_next log walk list
    narrowed-answered a o e =
        ap (λ (x : Advanced). advance_answer x walk list) (sym e) ∙ same_answer walk log list (inside_of o).nine ∙ inside-answered o

    pub advance-answered : (a : Advanced) → Inside log walk → next_at log (walk_of walk) ≡ a → walk_next log walk list ≡ advance_answer a walk list
    advance-answered a i e = sym (inside-answered (is-inside i)) ∙ ap (λ (x : Advanced). advance_answer x walk list) e

-- the offset of a refusal fits
abbrev offset_of : Stepped → ℕ
offset_of (item i) = 0
offset_of (last (end n)) = 0
offset_of (last (refused_at n offset)) = offset

pub offset-lt : (log : List ℕ) (walk later : Walk) (r p : ℕ) → length log < 2 ^ 55 → walk.at < 2 ^ 55
    → next_at log walk ≡ record { step = last (refused_at r p); walk = later } → p < 2 ^ 55
offset-lt log walk later r p short near e =
    by_cases (ltb (length log) walk.at)
    (λ t.
    let same : walk.at ≡ p = ap (λ (a : Advanced). offset_of a.step) (next_past log walk (ltb-true (length log) walk.at t) ∙ e) in
    omega (arith, same))
    (λ t. omega (arith, refused-within log walk r p later e (ltb-false (length log) walk.at t)))

-- a step of the narrowed walk, by what it answered
pub stepped : (log walk : List ℕ) (l : Walk) (a : Advance) (s : Result Step Fault) → l ≡ narrowed_walk walk → advance_outcome a ≡ next_at log l → a.step ≡ s
    → next_at log (narrowed_walk walk) ≡ record { step = step_outcome s; walk = a.walk }
stepped log walk l a s f e g = sym (e ∙ ap (next_at log) f) ∙ ap (λ (s : Result Step Fault). record { step = step_outcome s; walk = a.walk }) g
