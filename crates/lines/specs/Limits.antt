-- How long a printed line can be. Assumes nothing.
use Rattle.std.specs.Prelude.{ℕ, ◌+◌, ◌*◌}

-- The digits of a number below 2 ^ 64.
abbrev pub most_digits : ℕ
most_digits = 20

-- Such a number with one space before it.
abbrev pub longest_field : ℕ
longest_field = 1 + most_digits

-- A letter in UTF-8, five numbers and the line's end.
abbrev pub longest_line : ℕ
longest_line = 4 + 5 * longest_field + 1
