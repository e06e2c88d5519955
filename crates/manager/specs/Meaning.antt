-- What a manager means: all that its laws speak of, and nothing of how it is built. Assumes nothing.
use Rattle.std.specs.Prelude.{ℕ, ◌^◌, Bool, true, false}
use Rattle.manager.specs.declared.status.Status.{Status}
use Rattle.manager.specs.declared.status.Status.TheVariants.{Idle, Waiting, Holding}

-- A site is one of the numbered places that can hold the resource. A manager shares the resource among its sites.
pub record Meaning : Type 0 where
  -- how many sites there are, numbered from 0; it never changes
  pub sites : ℕ
  pub status : ℕ → Status
  -- called: the site holds, and somebody is known to want the resource back
  pub called : ℕ → Bool
  -- barred: the site does not hold next, unless another site holds first
  pub barred : ℕ → Bool
  -- how many things, messages and the like, are on their way
  pub underway : ℕ
  -- work: a number that every step lowers, so that steps run out
  pub work : ℕ
  -- toll: how much an ask or a free may add to the work; it never changes
  pub toll : ℕ
  -- age: how many asks, frees and steps have been carried out since parking
  pub age : ℕ

-- The age at which a manager is worn out, the most things under way that are counted, and the largest toll that is told.
abbrev pub limit : ℕ
limit = 10 ^ 15

abbrev pub is_idle : Status → Bool
is_idle Idle = true
is_idle Waiting = false
is_idle Holding = false

abbrev pub is_waiting : Status → Bool
is_waiting Idle = false
is_waiting Waiting = true
is_waiting Holding = false

abbrev pub is_holding : Status → Bool
is_holding Idle = false
is_holding Waiting = false
is_holding Holding = true
