-- The lines that a replay prints, as bytes: a letter, then numbers in decimal with one space before each, then byte 10.
-- Assumes nothing.
use Rattle.std.specs.Prelude.{ℕ, List, [], ◌∷◌, ◌++◌, codes, decimal}
use Rattle.std.proofs.Math.Utf8.{encode}
use Rattle.std.specs.List.{flat_map}

-- A number with one space before it.
abbrev pub spaced : ℕ → List ℕ
spaced number = codes " " ++ decimal number

-- A line of a letter, given by its bytes, and numbers. It is shut, so that what cites it stays short.
unfoldable pub line_of : List ℕ → List ℕ → List ℕ
line_of letter numbers = letter ++ flat_map spaced numbers ++ codes "\n"

-- The resource was given to a site, which had waited for so many steps.
abbrev pub grant_line : (site waited : ℕ) → List ℕ
grant_line site waited = line_of (codes "G") (site ∷ waited ∷ [])

-- A line of a script was refused, for the refusal of that number.
abbrev pub refusal_line : (line number : ℕ) → List ℕ
refusal_line line number = line_of (codes "N") (line ∷ number ∷ [])

-- What a block came to. The letter is the manager's kind, in UTF-8.
abbrev pub totals_line : (kind block lines asks frees steps : ℕ) → List ℕ
totals_line kind block lines asks frees steps = line_of (encode kind) (block ∷ lines ∷ asks ∷ frees ∷ steps ∷ [])

-- A fault, and where it is.
abbrev pub fault_line : (number block line place : ℕ) → List ℕ
fault_line number block line place = line_of (codes "X") (number ∷ block ∷ line ∷ place ∷ [])
