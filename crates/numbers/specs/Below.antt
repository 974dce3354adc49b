-- Three ways to go through the numbers below n, by a test on numbers. Each answers for every test and every n.
--     any p n      whether the test passes at some number below n
--     first p n    the least number below n at which it passes, and n where there is none
--     sel p n      the numbers below n at which it passes, ascending
use Rattle.std.specs.Prelude.{ℕ, zero, suc, Bool, false, cond, ◌||◌, List, [], ◌∷◌, ◌++◌}

unfoldable pub any : (ℕ → Bool) → ℕ → Bool
any p zero = false
any p (suc n) = any p n || p n

unfoldable pub first : (ℕ → Bool) → ℕ → ℕ
first p zero = zero
first p (suc n) = cond (any p n) (first p n) (cond (p n) n (suc n))

unfoldable pub sel : (ℕ → Bool) → ℕ → List ℕ
sel p zero = []
sel p (suc n) = cond (p n) (sel p n ++ (n ∷ [])) (sel p n)
