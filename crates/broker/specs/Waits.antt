-- What the writing of the wait list leaves in the list. Assumes nothing.
use Rattle.std.specs.Prelude.{◌≡◌, ℕ, ◌<◌, ◌≤◌, List, length, slice_index}

-- The first n places hold the waits of the n sites, and later places what they held.
pub record Listed (wait : ℕ → ℕ) (n : ℕ) (before after : List ℕ) : Type 0 where
  pub length : length after ≡ length before
  pub waits : (i : ℕ) → i < n → slice_index after i ≡ wait i
  pub rest : (i : ℕ) → n ≤ i → slice_index after i ≡ slice_index before i
