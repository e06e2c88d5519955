-- What a table stores: few rows of small cells, and where a thing in it is. Assumes nothing.
use Rattle.std.specs.Prelude.{◌≡◌, ℕ, ◌+◌, ◌<◌, ◌≤◌}
use Rattle.counting.specs.Tables.{before}
use Rattle.counting.specs.declared.table.Spot.{Spot}

-- At most 16 rows, and at most 2 things in a cell.
pub record Small (cell : ℕ → ℕ → ℕ) (n : ℕ) : Type 0 where
  pub few_rows : n ≤ 16
  pub few_in_a_cell : (i j : ℕ) → cell i j ≤ 2

-- The thing is in a cell of the table, and k things come before it, by rows, then by columns, then within the cell.
pub record StandsAt (cell : ℕ → ℕ → ℕ) (n k : ℕ) (spot : Spot) : Type 0 where
  pub row : spot.row < n
  pub column : spot.column < n
  pub within : spot.earlier < cell spot.row spot.column
  pub place : before cell n spot.row spot.column + spot.earlier ≡ k
