-- How many sites a manager is made for. Assumes nothing.
use Rattle.std.specs.Prelude.{ℕ, min, max}

-- A number of sites, brought within 2 to 16.
abbrev pub fitted : ℕ → ℕ
fitted n = max 2 (min n 16)
