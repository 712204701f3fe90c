-- The lowest number that passes a test. Assumes nothing.
use Rattle.std.specs.Prelude.{ℕ, zero, suc, Bool, cond}

-- the lowest of the numbers below n that passes the test; n if none does
unfoldable pub lowest : ℕ → (ℕ → Bool) → ℕ
lowest zero test = 0
lowest (suc n) test = cond (test 0) 0 (suc (lowest n (λ i. test (suc i))))
