-- Sums and counts over the numbers below n, and a function changed at one number. Assumes nothing.
use Rattle.std.specs.Prelude.{ℕ, zero, suc, ◌+◌, Bool, cond, List, [], ◌∷◌, ◌==◌}

abbrev pub sum : (ℕ → ℕ) → ℕ → ℕ
sum f zero = 0
sum f (suc n) = sum f n + f n

-- 1 for true, 0 for false
abbrev pub one_if : Bool → ℕ
one_if b = cond b 1 0

-- How many numbers below n pass the test.
abbrev pub count : (ℕ → Bool) → ℕ → ℕ
count test n = sum (λ i. one_if (test i)) n

-- f, but v at i
abbrev pub upd : {A : Type 0} → (ℕ → A) → ℕ → A → ℕ → A
upd f i v j = cond (j == i) v (f j)

-- How often x stands in a list.
abbrev pub times : List ℕ → ℕ → ℕ
times [] x = 0
times (y ∷ ys) x = one_if (y == x) + times ys x
