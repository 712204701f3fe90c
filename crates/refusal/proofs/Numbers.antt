-- Two refusals of one number are the same refusal, and none has the number 13. Assumes nothing.
use Prim.Native.Nat.{ℕ}
use mathlib.Core.Path.{◌≡◌, refl, sym, ap, ◌∙◌}
use mathlib.Core.Bool.{cond}
use mathlib.Core.List.{List, [], ◌∷◌}
use native.Mathlib.Omega.{arith}
use lib.Dec.{eqb}
use Rattle.refusal.specs.Number.{number_of}
use Rattle.refusal.specs.Claims.{OneNumber, ThirteenUnused}
use Rattle.refusal.specs.declared.Refusal.{Refusal}
use Rattle.refusal.specs.declared.Refusal.TheVariants.{UnknownCommand, WrongLength, UnsoundState, UnknownApid, IncompleteSet, NoProcessorEnabled, IllegalBandCode, SumCodeOverflow, UnknownRecordKind, TruncatedBody, InputTooLong, OutOfRange, UnknownPacket, PacketOutOfRange, WrongPacketLength, ComponentOutOfOrder, KindNotInProfile, SecondFalls, ValueAltered, AveragesOverPeriod, WrongHeaderField, WrongDataLength, TotalTooLarge, TurnedAway, NothingToSend, AlreadySending, NoneSending, ZeroLimit}

all : List Refusal
all =
    WrongLength ∷ UnsoundState ∷ UnknownApid ∷ IncompleteSet ∷ NoProcessorEnabled ∷ IllegalBandCode ∷ SumCodeOverflow ∷ UnknownRecordKind
    ∷ TruncatedBody ∷ InputTooLong ∷ OutOfRange ∷ UnknownPacket ∷ PacketOutOfRange ∷ WrongPacketLength ∷ ComponentOutOfOrder ∷ KindNotInProfile
    ∷ SecondFalls ∷ ValueAltered ∷ AveragesOverPeriod ∷ WrongHeaderField ∷ WrongDataLength ∷ TotalTooLarge ∷ TurnedAway ∷ NothingToSend ∷ AlreadySending
    ∷ NoneSending ∷ ZeroLimit ∷ []

-- the refusal of the list that has the number, and the first refusal where none has
with_number : ℕ → List Refusal → Refusal
with_number n [] = UnknownCommand
with_number n (r ∷ rs) = cond (eqb (number_of r) n) r (with_number n rs)

found : (r : Refusal) → with_number (number_of r) all ≡ r
unfolding all with_number
found UnknownCommand = refl
found WrongLength = refl
found UnsoundState = refl
found UnknownApid = refl
found IncompleteSet = refl
found NoProcessorEnabled = refl
found IllegalBandCode = refl
found SumCodeOverflow = refl
found UnknownRecordKind = refl
found TruncatedBody = refl
found InputTooLong = refl
found OutOfRange = refl
found UnknownPacket = refl
found PacketOutOfRange = refl
found WrongPacketLength = refl
found ComponentOutOfOrder = refl
found KindNotInProfile = refl
found SecondFalls = refl
found ValueAltered = refl
found AveragesOverPeriod = refl
found WrongHeaderField = refl
found WrongDataLength = refl
found TotalTooLarge = refl
found TurnedAway = refl
found NothingToSend = refl
found AlreadySending = refl
found NoneSending = refl
found ZeroLimit = refl

pub one_number : OneNumber
one_number a b e = sym (found a) ∙ ap (λ (n : ℕ). with_number n all) e ∙ found b

-- looked up, 13 gives the first refusal, as none of the list has it; and the first has 1
pub thirteen-unused : ThirteenUnused
unfolding all with_number
thirteen-unused r e =
    let first : r ≡ UnknownCommand = sym (found r) ∙ ap (λ (n : ℕ). with_number n all) e in
    let one : number_of r ≡ 1 = ap number_of first in
    omega arith
