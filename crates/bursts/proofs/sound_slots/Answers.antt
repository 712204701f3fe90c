use Rattle.std.proofs.Common.{rules, arith, ◌≤◌, refl, ◌∙◌}
use borrow.Author.Tests.{le-leb, lt-leb}
use Rattle.bursts.specs.Slots.{sound, sending_slots}
use Rattle.bursts.proofs.Listed.{sending-front}
use Rattle.bursts.proofs.sound_slots.Goals as goal
use Rattle.bursts.proofs.sound_slots.Goals.{then-slots-le-MOST_SLOTS+else-count_sending-le-MOST_SENDING, else-slots-le-MOST_SLOTS}

pub returns-then-count_sending-le-MOST_SENDING : goal.returns-then-count_sending-le-MOST_SENDING
unfolding sound
returns-then-count_sending-le-MOST_SENDING c =
    let s = c.args.slots.now in
    let many = c.count_sending.ensures ∙ sending-front s (search rules) in
    (rw (le-leb s.count 32 (omega arith), le-leb (sending_slots s) 1 (omega (arith, many))), refl)

pub returns : goal.returns
unfolding sound
returns c =
    let s = c.args.slots.now in
    elim c.if-slots-le-MOST_SLOTS.branch [
      | then-slots-le-MOST_SLOTS+else-count_sending-le-MOST_SENDING w ↦
          let few : s.count ≤ 32 = omega arith in
          let many = w.count_sending.ensures ∙ sending-front s (search rules) in
          (rw (le-leb s.count 32 few, lt-leb (sending_slots s) 1 (omega (arith, many))), refl)
      | else-slots-le-MOST_SLOTS w ↦ (rw (lt-leb s.count 32 (omega arith)), refl)
    ]
