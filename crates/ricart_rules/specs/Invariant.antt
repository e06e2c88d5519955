-- What every call keeps true of a state, and what the laws of a manager follow from. Assumes nothing.
use Rattle.std.specs.Prelude.{◌≡◌, ℕ, ◌+◌, ◌<◌, ◌≤◌, true, ◌⊎◌, ◌≢◌}
use Rattle.manager.specs.declared.status.Status.TheVariants.{Idle, Waiting, Holding}
use Rattle.ricart_rules.specs.State.{State, earlier, answered, unanswered, reached, lacks}
use Rattle.ricart_rules.specs.declared.Stage.TheVariants.{Unasked, Deferred, Received}

pub record Sound (s : State) : Type 0 where
  pub fewest : 2 ≤ s.sites
  pub most : s.sites ≤ 16
  -- a site that is not idle, and no other, has a request, which goes to all sites but itself
  pub idle_unasked : (i j : ℕ) → i < s.sites → j < s.sites → s.status i ≡ Idle → s.stage i j ≡ Unasked
  pub busy_asked : (i j : ℕ) → i < s.sites → j < s.sites → (i ≢ j) → s.stage i j ≡ Unasked → s.status i ≡ Idle
  pub no_loop : (i : ℕ) → i < s.sites → s.stage i i ≡ Unasked
  -- j answers i, while itself not idle, only to the earlier stamp; and i then defers j, or is yet to receive its REQUEST
  pub answered_earlier : (i j : ℕ) → i < s.sites → j < s.sites → answered (s.stage i j) ≡ true → (s.status j ≢ Idle) → earlier s i j ≡ true
  pub answered_first : (i j : ℕ) → i < s.sites → j < s.sites → answered (s.stage i j) ≡ true → (s.status j ≢ Idle) → unanswered (s.stage j i) ≡ true
  -- j defers i only while i waits, and j holds or waits with the earlier stamp
  pub deferred_waits : (i j : ℕ) → i < s.sites → j < s.sites → s.stage i j ≡ Deferred → s.status i ≡ Waiting
  pub deferred_by : (i j : ℕ) → i < s.sites → j < s.sites → s.stage i j ≡ Deferred → (s.status j ≡ Holding) ⊎ ((s.status j ≡ Waiting) × (earlier s j i ≡ true))
  -- whoever has received a REQUEST knows its number, so that its own next stamp is later
  pub heard : (i j : ℕ) → i < s.sites → j < s.sites → reached (s.stage i j) ≡ true → s.number i ≤ s.highest j
  -- a holder has every REPLY, a waiting site lacks one
  pub holder_has : (i j : ℕ) → i < s.sites → j < s.sites → (i ≢ j) → s.status i ≡ Holding → s.stage i j ≡ Received
  pub waiting_lacks : (i : ℕ) → i < s.sites → s.status i ≡ Waiting → lacks s.sites i (s.stage i) ≡ true
  -- numbers do not pass the age by more than 1
  pub young : (i : ℕ) → i < s.sites → (s.status i ≢ Idle) → s.number i ≤ s.age + 1
  pub young_highest : (i : ℕ) → i < s.sites → s.highest i ≤ s.age + 1
