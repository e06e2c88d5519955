-- What every call keeps true of a state, and what the laws of a manager follow from. Assumes nothing.
use Rattle.std.specs.Prelude.{◌≡◌, ℕ, ◌+◌, ◌<◌, ◌≤◌, [], Some, None, Option, ◌≢◌}
use Rattle.counting.specs.Sums.{times}
use Rattle.manager.specs.declared.status.Status.TheVariants.{Idle, Waiting, Holding}
use Rattle.suzuki_rules.specs.State.{State}
use Rattle.suzuki_rules.specs.declared.Token.TheVariants.{At, Sent}

-- A REQUEST under way carries its sender's number, which the receiver does not know yet; with none under way it does.
abbrev pub Heard : Option ℕ → (own heard : ℕ) → Type 0
Heard (Some m) own heard = (m ≡ own) × (heard < own)
Heard None own heard = heard ≡ own

pub record Sound (s : State) : Type 0 where
  pub fewest : 2 ≤ s.sites
  pub most : s.sites ≤ 16
  -- the token is at a site, or on its way to a site that waits
  pub at_site : (t : ℕ) → s.token ≡ At t → t < s.sites
  pub sent_site : (t : ℕ) → s.token ≡ Sent t → t < s.sites
  pub sent_waits : (t : ℕ) → s.token ≡ Sent t → s.status t ≡ Waiting
  -- a holder has the token, and the site that has it does not wait
  pub holder_has : (i : ℕ) → i < s.sites → s.status i ≡ Holding → s.token ≡ At i
  pub has_no_wait : (t : ℕ) → s.token ≡ At t → s.status t ≢ Waiting
  -- a site has one request unserved while it waits, and none while it is idle
  pub served_low : (i : ℕ) → i < s.sites → s.served i ≤ s.known i i
  pub served_high : (i : ℕ) → i < s.sites → s.known i i ≤ s.served i + 1
  pub idle_served : (i : ℕ) → i < s.sites → s.status i ≡ Idle → s.known i i ≡ s.served i
  pub waiting_unserved : (i : ℕ) → i < s.sites → s.status i ≡ Waiting → s.known i i ≡ s.served i + 1
  -- what j has heard of i, and no site sends to itself
  pub heard : (i j : ℕ) → i < s.sites → j < s.sites → (i ≢ j) → Heard (s.link i j) (s.known i i) (s.known j i)
  pub no_loop : (i : ℕ) → i < s.sites → s.link i i ≡ None
  -- the queue has no repeats, its sites wait, and the token is not on its way to one of them
  pub once : (j : ℕ) → times s.queue j ≤ 1
  pub queue_site : (j : ℕ) → 0 < times s.queue j → j < s.sites
  pub queue_waits : (j : ℕ) → 0 < times s.queue j → s.status j ≡ Waiting
  pub queue_apart : (j : ℕ) → 0 < times s.queue j → s.token ≢ Sent j
  -- at an idle site the token has nobody to go to
  pub idle_queue : (t : ℕ) → s.token ≡ At t → s.status t ≡ Idle → s.queue ≡ []
  pub idle_knows : (t i : ℕ) → s.token ≡ At t → s.status t ≡ Idle → i < s.sites → (i ≢ t) → s.known t i ≤ s.served i
  -- request numbers do not pass the age
  pub young : (i : ℕ) → i < s.sites → s.known i i ≤ s.age
