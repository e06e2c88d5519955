-- What a write leaves of what a manager stores. Assumes nothing.
use Rattle.std.specs.Prelude.{◌≡◌, ℕ, List, [], slice_index_or, slice_set}
use Rattle.suzuki_kasami.specs.declared.state.SuzukiKasami.{SuzukiKasami}

-- The rows t, but v at (i, j).
abbrev pub with_cell : {A : Type 0} → List (List A) → (i j : ℕ) → A → List (List A)
with_cell t i j v = slice_set t i (slice_set (slice_index_or t i []) j v)

-- Two managers have the same sites, and the same token with what it carries.
abbrev pub SameButLinks : (m n : SuzukiKasami) → Type 0
SameButLinks m n = (n.island ≡ m.island) × ((n.token ≡ m.token) × ((n.served ≡ m.served) × (n.queue ≡ m.queue)))
