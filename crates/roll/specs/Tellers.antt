-- Counting the elements of a list by the number that each tells. Assumes nothing.
use Rattle.std.specs.Prelude.{ℕ, List, ◌==◌, count_by}

-- How many elements tell n.
abbrev pub tellers : {T : Type 0} → (T → ℕ) → List T → ℕ → ℕ
tellers told xs n = count_by (λ x. told x == n) xs
