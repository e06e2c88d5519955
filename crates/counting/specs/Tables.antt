-- Sums over a square table of n rows and n columns, and the place of a cell in its reading order. Assumes nothing.
use Rattle.std.specs.Prelude.{ℕ, ◌+◌, cond, ◌&&◌, ◌==◌}
use Rattle.counting.specs.Sums.{sum}

abbrev pub row : (ℕ → ℕ → ℕ) → ℕ → ℕ → ℕ
row cell n i = sum (cell i) n

abbrev pub total : (ℕ → ℕ → ℕ) → ℕ → ℕ
total cell n = sum (row cell n) n

-- What the cells before (i, j) come to, in the order of rows and, within a row, of columns.
abbrev pub before : (ℕ → ℕ → ℕ) → (n i j : ℕ) → ℕ
before cell n i j = sum (row cell n) i + sum (cell i) j

-- f, but v at (i, j)
abbrev pub upd2 : {A : Type 0} → (ℕ → ℕ → A) → (i j : ℕ) → A → ℕ → ℕ → A
upd2 f i j v a b = cond (a == i && b == j) v (f a b)
