-- `summed::greatest` meets its contract: the ones below bit n are the components before n. Assumes nothing.
use Rattle.std.proofs.Common.{◌≡◌, ℕ, ◌*◌, ◌%◌, ◌^◌, ap, ◌∙◌, one-mul, arith, shl_exact}
use lib.Count.{ones}
use Rattle.summed.proofs.Laws.{counted-ones}
use Rattle.summed.proofs.greatest.Goals as goal

pub returns : goal.returns
returns c =
    let power : 1 * 2 ^ c.args.n % 256 ≡ 2 ^ c.args.n = shl_exact {a = 1} 1 c.args.n 8 (omega arith) (omega (arith, c.requires)) ∙ one-mul (2 ^ c.args.n) in
    ap (λ (x : ℕ). x * 2 ^ 31) (ap (λ (p : ℕ). ones (c.args.mask % p)) power ∙ counted-ones c.args.mask c.args.n)
