-- How a caller tells the answers of the check apart from refusals, and takes a refusal apart. Assumes nothing.
use Rattle.std.specs.Prelude.{ℕ, ◌^◌, ◌≤◌, ◌<◌, ◌≡◌, List, length, get_or}
use Rattle.registers.specs.declared.Registers.{Registers}
use Rattle.registers.specs.Access.{register}
use Rattle.checker.specs.Check.{accepted, refused_at, commands_checked}
use Rattle.dfb_refusals.specs.Numbers.{above63, outcome_number, ToldApart, Parts}
use Rattle.dfb_checker.specs.Answer.{check_answer}

abbrev pub CheckCommandsApart : Type 0
CheckCommandsApart = (log list : List ℕ) → ToldApart above63 (check_answer log list).answer

-- a list that is accepted, with room for the registers: the answer is 0, register n stands at place n, and the rest stays
pub record Given (r : Registers) (list after : List ℕ) (answer : ℕ) : Type 0 where
  pub zero : answer ≡ 0
  pub same : length after ≡ length list
  pub front : (n : ℕ) → n < 7 → get_or after n 0 ≡ register r n
  pub rest : (n : ℕ) → 7 ≤ n → get_or after n 0 ≡ get_or list n 0

abbrev pub CheckCommandsGiven : Type 0
CheckCommandsGiven =
    (log list : List ℕ) (r : Registers) → length log < 2 ^ 55 → commands_checked log ≡ record { judged = accepted; registers = r } → 7 ≤ length list
    → Given r list (check_answer log list).buffer (outcome_number above63 (check_answer log list).answer)

-- a refusal gives its number and its offset
abbrev pub CheckCommandsParts : Type 0
CheckCommandsParts =
    (log list : List ℕ) (number offset : ℕ) → length log < 2 ^ 55 → (commands_checked log).judged ≡ refused_at number offset
    → Parts (outcome_number above63 (check_answer log list).answer) number offset
