-- The state of Suzuki and Kasami's algorithm: a token goes round, and only the site that has it may hold the resource.
-- A site that wants it sends a numbered REQUEST to all others. Assumes nothing.
use Rattle.std.specs.Prelude.{ℕ, ◌+◌, Bool, false, List, Option, ◌==◌, nat_eq, nat_lt}
use Rattle.manager.specs.declared.status.Status.{Status}
use Rattle.counting.specs.Sums.{times}
use Rattle.suzuki_rules.specs.declared.Token.{Token}
use Rattle.suzuki_rules.specs.declared.Token.TheVariants.{At, Sent}

pub record State : Type 0 where
  pub sites : ℕ
  pub status : ℕ → Status
  -- known i j is the largest request number of site j that site i knows; known i i is i's own
  pub known : ℕ → ℕ → ℕ
  -- link i j is the REQUEST under way from i to j, by the number that it carries: a link keeps one
  pub link : ℕ → ℕ → Option ℕ
  pub token : Token
  -- what the token carries: for each site the last request number served, and the queue of the sites to go to
  pub served : ℕ → ℕ
  pub queue : List ℕ
  -- the asks, frees and steps since parking
  pub age : ℕ

abbrev pub has_token : State → ℕ → Bool
has_token s i = elim s.token [ At t ↦ nat_eq t i | Sent t ↦ false ]

-- As far as site i knows, j waits: its number is the one after the last served.
abbrev pub wants : State → (i j : ℕ) → Bool
wants s i j = s.known i j == s.served j + 1

abbrev pub queued : List ℕ → ℕ → Bool
queued q j = nat_lt 0 (times q j)
