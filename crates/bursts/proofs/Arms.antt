-- What an arm of a match that binds nothing says of the slot's state. Assumes nothing.
use Rattle.std.proofs.Common.{◌≡◌, ℕ, refl}
use Rattle.bursts.specs.declared.SlotState.{SlotState}
use Rattle.bursts.specs.declared.SlotState.TheVariants.{Free, Held, Sending}
use Rattle.bursts.proofs.Finding.{worth, under}

pub not-held : (a : SlotState) → ((x : ℕ) → a ≡ Held x → ⊥) → worth a ≡ 0
not-held Free h = refl
not-held (Held c) h = absurd (h c refl)
not-held Sending h = refl

pub not-held-under : (x : ℕ) (a : SlotState) → ((c : ℕ) → a ≡ Held c → ⊥) → under x a ≡ 0
not-held-under x Free h = refl
not-held-under x (Held c) h = absurd (h c refl)
not-held-under x Sending h = refl
