-- What the decimal text of a number is, as a law: read back, its digits give the number. The text itself is `decimal` of std.
-- Assumes nothing.
use Rattle.std.specs.Prelude.{◌≡◌, ℕ, ◌+◌, ◌-◌, ◌*◌, ◌<◌, List, [], ◌∷◌, length, slice_index, slice_index_or}
use Rattle.std.specs.Int.{IsInRange}

-- The number that digits write after those of n: each digit is worth ten times as much as the next.
abbrev pub read_after : ℕ → List ℕ → ℕ
read_after n [] = n
read_after n (digit ∷ digits) = read_after (n * 10 + (digit - 48)) digits

-- The text is a number's decimal text. Below 2 ^ 64 there is just one such text.
pub record DecimalOf (number : ℕ) (text : List ℕ) : Type 0 where
  pub has_a_digit : 0 < length text
  -- Each byte is one of the digits 0 to 9, which are 48 to 57.
  pub digits_only : (place : ℕ) → place < length text → IsInRange 48 57 (slice_index text place)
  pub reads_back : read_after 0 text ≡ number
  -- A digit 0 stands in front only where it is the one digit.
  pub no_leading_zero : slice_index_or text 0 0 ≡ 48 → length text ≡ 1
