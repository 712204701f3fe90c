-- What each call leaves, by its answer: a slot that is given has the call's state, and a refusal leaves the slots. Assumes nothing.
use Prim.Native.Nat.{ℕ, ◌<◌}
use mathlib.Core.Path.{◌≡◌, refl, sym, ap, subst}
use mathlib.Core.Bool.{true, false, not}
use native.Mathlib.Omega.{arith}
use borrow.Author.Tests.{ltb-true, not-false}
use lib.Dec.{ltb}
use Rattle.std.specs.Prelude.{Result, Ok, Err, IfOk}
use Rattle.refusal.specs.declared.Refusal.{Refusal}
use Rattle.refusal.specs.Outcome.{Outcome, given, refused, answer_outcome}
use Rattle.bursts.specs.declared.OfferRefusal.{OfferRefusal}
use Rattle.lists.proofs.Choices.{cond-at}
use Rattle.bursts.specs.declared.Slots.{Slots}
use Rattle.bursts.specs.declared.SlotState.{SlotState}
use Rattle.bursts.specs.declared.SlotState.TheVariants.{Free, Held, Sending}
use Rattle.bursts.specs.Slots.{is_sending, lowest_slot, greatest_held, sound, SlotsOutcome, becomes, changed, OfferAnswered, takes, refused_after, refused_alone, OfferOutcome, offer_answer_outcome, looked_at, offer_outcome, choose_outcome, finish_outcome}
use Rattle.bursts.specs.Searches.{place_for, settled}
use Rattle.bursts.proofs.Rules.{sound-few, offer-by-place, choose-by-place, finish-by-place}

pub record Settles (s : Slots) (state : SlotState) (o : SlotsOutcome) : Type 0 where
  pub within : (i : ℕ) → o.answer ≡ given i → i < 32
  pub left : settled s o.answer state ≡ o

refuses : {s : Slots} {state : SlotState} (n : ℕ) → Settles s state (record { answer = refused n; slots = s })
refuses n = record { within = λ i e. absurd (given≢refused e); left = refl }
  where
    given≢refused : {n i : ℕ} → ◌≡◌ {A = Outcome ℕ} (refused n) (given i) → ⊥
    given≢refused e = let z : ◌≡◌ {A = ℕ} 0 1 = cc in absurd (omega arith)

becoming : (s : Slots) (i : ℕ) (state : SlotState) → not (sound s) ≡ false → ltb i s.count ≡ true → Settles s state (becomes s i state)
becoming s i state e l =
    let few = sound-few s (not-false _ e) in
    record { within = λ j h. let same : i ≡ j = cc in omega (arith, same, few, ltb-true i s.count l); left = refl }

pub choose-settles : (s : Slots) → Settles s Sending (choose_outcome s)
choose-settles s =
    let P : SlotsOutcome → Type 0 = Settles s Sending in
    subst P (sym (choose-by-place s))
    (cond-at P (not (sound s)) (λ e. refuses 3)
    (λ e.
    cond-at P (ltb (lowest_slot s is_sending) s.count) (λ f. refuses 27)
    (λ f.
    cond-at P (ltb (lowest_slot s (greatest_held s)) s.count) (λ l. becoming s _ Sending e l) (λ l. refuses 26))))

pub finish-settles : (s : Slots) → Settles s Free (finish_outcome s)
finish-settles s =
    let P : SlotsOutcome → Type 0 = Settles s Free in
    subst P (sym (finish-by-place s))
    (cond-at P (not (sound s)) (λ e. refuses 3)
    (λ e. cond-at P (ltb (lowest_slot s is_sending) s.count) (λ l. becoming s _ Free e l) (λ l. refuses 28)))

pub settles-within : {s : Slots} {state : SlotState} {o : SlotsOutcome} (a : Result ℕ Refusal) → Settles s state o → answer_outcome a ≡ o.answer → IfOk a (λ i. i < 32)
settles-within (Ok i) h e = h.within i (sym e)
settles-within (Err r) h e = tt

-- ---- an offer

pub record Offers (s : Slots) (x : ℕ) (o : OfferOutcome) : Type 0 where
  pub placed : (i looked : ℕ) → takes i looked ≡ o.answer → (i < 32) × (changed s i (Held x) ≡ o.slots)
  pub kept : ((i looked : ℕ) → takes i looked ≡ o.answer → ⊥) → s ≡ o.slots

away : {s : Slots} {x : ℕ} (a : OfferAnswered) → ((i looked : ℕ) → takes i looked ≡ a → ⊥) → Offers s x (record { answer = a; slots = s })
away a none = record { placed = λ i looked e. absurd (none i looked e); kept = λ h. refl }

pub offer-leaves : (s : Slots) (x : ℕ) → Offers s x (offer_outcome s x)
offer-leaves s x =
    let P : OfferOutcome → Type 0 = Offers s x in
    subst P (sym (offer-by-place s x))
    (cond-at P (not (sound s)) (λ e. away (refused_alone 3) (λ i looked h. let z : ◌≡◌ {A = ℕ} 0 1 = cc in absurd (omega arith)))
    (λ e.
    cond-at P (ltb (place_for s x) s.count)
    (λ l.
    record {
      placed = λ i looked h.
          let same : i ≡ place_for s x = cc in
          (omega (arith, same, sound-few s (not-false _ e), ltb-true (place_for s x) s.count l), ap (λ (j : ℕ). changed s j (Held x)) same);
      kept = λ h. absurd (h _ _ refl);
    })
    (λ l. away (refused_after 25 (looked_at s)) (λ i looked h. let z : ◌≡◌ {A = ℕ} 0 1 = cc in absurd (omega arith)))))

pub refusal-takes-none : (r : OfferRefusal) (i looked : ℕ) → takes i looked ≡ offer_answer_outcome (Err r) → ⊥
refusal-takes-none (OfferRefusal.TurnedAway n) i looked h = let z : ◌≡◌ {A = ℕ} 0 1 = cc in absurd (omega arith)
refusal-takes-none (OfferRefusal.Refused r) i looked h = let z : ◌≡◌ {A = ℕ} 0 1 = cc in absurd (omega arith)
