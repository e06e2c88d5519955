-- The state of Ricart and Agrawala's algorithm: a site that wants the resource sends a stamped REQUEST to all others,
-- and holds once each of them has sent a REPLY. Assumes nothing.
use Rattle.std.specs.Prelude.{ℕ, Bool, true, false, not, ◌&&◌, ◌||◌, ◌==◌, nat_lt}
use Rattle.counting.specs.Tests.{any}
use Rattle.manager.specs.declared.status.Status.{Status}
use Rattle.ricart_rules.specs.declared.Stage.{Stage}
use Rattle.ricart_rules.specs.declared.Stage.TheVariants.{Unasked, Requested, Deferred, Replied, Received}

pub record State : Type 0 where
  pub sites : ℕ
  pub status : ℕ → Status
  -- highest i is the highest number that site i has received in a REQUEST
  pub highest : ℕ → ℕ
  -- number i is the number in the stamp of site i, while it is not idle
  pub number : ℕ → ℕ
  -- stage i j is how far the request of site i has come with site j. A REQUEST under way carries its sender's current
  -- stamp: a site asks again only after all REPLYs have come, so that no earlier REQUEST is still under way.
  pub stage : ℕ → ℕ → Stage
  -- the asks, frees and steps since parking
  pub age : ℕ

-- The stamp of a site is its number and the site itself. The earlier of two has the smaller number, or with equal
-- numbers the smaller site.
abbrev pub earlier : State → (i j : ℕ) → Bool
earlier s i j = nat_lt (s.number i) (s.number j) || (s.number i == s.number j && nat_lt i j)

abbrev pub is_requested : Stage → Bool
is_requested Unasked = false
is_requested Requested = true
is_requested Deferred = false
is_requested Replied = false
is_requested Received = false

abbrev pub is_deferred : Stage → Bool
is_deferred Unasked = false
is_deferred Requested = false
is_deferred Deferred = true
is_deferred Replied = false
is_deferred Received = false

abbrev pub is_replied : Stage → Bool
is_replied Unasked = false
is_replied Requested = false
is_replied Deferred = false
is_replied Replied = true
is_replied Received = false

abbrev pub is_received : Stage → Bool
is_received Unasked = false
is_received Requested = false
is_received Deferred = false
is_received Replied = false
is_received Received = true

-- The other site has sent its REPLY.
abbrev pub answered : Stage → Bool
answered x = is_replied x || is_received x

-- The other site has yet to send its REPLY.
abbrev pub unanswered : Stage → Bool
unanswered x = is_requested x || is_deferred x

-- The other site has received the REQUEST.
abbrev pub reached : Stage → Bool
reached x = is_deferred x || answered x

-- Of a site i among n, with the stages that its request has come to: has the REPLY of another site not come?
abbrev pub lacks : (n i : ℕ) → (ℕ → Stage) → Bool
lacks n i stages = any (λ j. not (j == i) && not (is_received (stages j))) n
