-- What a call leaves in the roll that it was lent: its grants after what stood there, and nothing else written. Assumes
-- nothing.
use Rattle.std.specs.Prelude.{◌≡◌, ℕ, ◌+◌, List, [], ◌∷◌, ◌++◌, length, slice_set}
use Rattle.roll.specs.Contents.{written}
use Rattle.roll.specs.declared.list.Roll.{Roll}

-- A memory with the elements of a list written into it from place k on.
abbrev pub laid : {T : Type 0} → List T → ℕ → List T → List T
laid memory k [] = memory
laid memory k (x ∷ xs) = laid (slice_set memory k x) (k + 1) xs

pub record Rolled {T : Type 0} (before after : Roll T) (added : List T) : Type 0 where
  pub contents : written after ≡ written before ++ added
  pub len : after.len ≡ before.len + length added
  pub memory : after.items.now ≡ laid before.items.now before.len added
  pub lender : after.items.ghost_name ≡ before.items.ghost_name
