-- When a manager's call is accepted: its refusals, tried in order, are all undue.
use Rattle.std.proofs.Common.{◌≡◌, ℕ, ◌<◌, None, arith}
use Rattle.std.proofs.lemmas.Bool.Decides.{nat_tests}
use Rattle.manager.specs.Meaning.{Meaning, limit}
use Rattle.manager.specs.Refusals.{refused, site_order, ask_order, free_order, step_order}
use Rattle.manager.specs.declared.status.Status.TheVariants.{Idle, Holding}

module _ (m : Meaning) (i : ℕ) where
  pub site_accepted : i < m.sites → refused site_order m i ≡ None
  site_accepted l = grind (arith, nat_tests)

  pub ask_accepted : i < m.sites → m.age < limit → m.status i ≡ Idle → refused ask_order m i ≡ None
  ask_accepted l young idle = grind (arith, nat_tests)

  pub free_accepted : i < m.sites → m.age < limit → m.status i ≡ Holding → refused free_order m i ≡ None
  free_accepted l young holds = grind (arith, nat_tests)

  pub step_accepted : i < m.underway → m.age < limit → refused step_order m i ≡ None
  step_accepted l young = grind (arith, nat_tests)

  pub accepted_site : refused site_order m i ≡ None → i < m.sites
  accepted_site h = grind (arith, nat_tests)

  pub accepted_ask : refused ask_order m i ≡ None → (i < m.sites) × (m.age < limit) × (m.status i ≡ Idle)
  accepted_ask h = (grind (arith, nat_tests), grind (arith, nat_tests), grind (arith, nat_tests))

  pub accepted_free : refused free_order m i ≡ None → (i < m.sites) × (m.age < limit) × (m.status i ≡ Holding)
  accepted_free h = (grind (arith, nat_tests), grind (arith, nat_tests), grind (arith, nat_tests))

  pub accepted_step : refused step_order m i ≡ None → m.age < limit
  accepted_step h = grind (arith, nat_tests)

-- Where the site is one and the manager is not worn, an ask or a free is refused for the site's status alone.
module _ (m n : Meaning) (i j : ℕ) (site : i < m.sites) (site_there : j < n.sites) (young : m.age < limit) (young_there : n.age < limit) (same : m.status i ≡ n.status j) where
  pub ask_refused_alike : refused ask_order m i ≡ refused ask_order n j
  ask_refused_alike = grind (arith, nat_tests)

  pub free_refused_alike : refused free_order m i ≡ refused free_order n j
  free_refused_alike = grind (arith, nat_tests)
