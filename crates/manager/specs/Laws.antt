-- The laws of a manager: what is true of its meaning, and what its calls do to it. Assumes nothing.
use Rattle.std.specs.Prelude.{◌≡◌, ℕ, ◌<◌, ◌≤◌, true, None, Option, ◌≢◌}
use Rattle.manager.specs.Effects.{Parked, Asked, Freed, Stepped}
use Rattle.manager.specs.Meaning.{Meaning, limit}
use Rattle.manager.specs.Refusals.{refused, site_order, ask_order, free_order, step_order}
use Rattle.manager.specs.declared.status.Status.TheVariants.{Waiting, Holding}

-- What holds of every value, sound or not, so that code over a manager is safe with no premise.
pub record Bounded (m : Meaning) : Type 0 where
  pub fewest : 2 ≤ m.sites
  pub most : m.sites ≤ 64
  pub underway : m.underway ≤ limit
  pub age : m.age ≤ limit

-- What holds of every sound manager.
pub record Lawful (m : Meaning) : Type 0 where
  -- at most one site holds
  pub exclusive : (i j : ℕ) → i < m.sites → j < m.sites → m.status i ≡ Holding → m.status j ≡ Holding → i ≡ j
  -- if a site waits and nothing is under way, some site holds and is called
  pub served : (i : ℕ) → i < m.sites → m.status i ≡ Waiting → m.underway ≡ 0 → (h : ℕ) × (h < m.sites) × (m.status h ≡ Holding) × (m.called h ≡ true)
  -- a site is called only while it holds
  pub called_holds : (i : ℕ) → i < m.sites → m.called i ≡ true → m.status i ≡ Holding
  -- and while another site waits
  pub called_wanted : (i : ℕ) → i < m.sites → m.called i ≡ true → (j : ℕ) × (j < m.sites) × (m.status j ≡ Waiting)
  -- a site is barred only while no site holds
  pub barred_free : (i j : ℕ) → i < m.sites → j < m.sites → m.barred i ≡ true → m.status j ≢ Holding

-- What every kind of manager owes, with states S: a state's meaning, when it is sound, and what a carried-out park, ask,
-- free or step does by the kind's own rules.
pub record Laws {S : Type 0} (meaning : S → Meaning) (sound : S → Type 0) (parks asks frees : S → ℕ → S → Type 0) (steps : S → ℕ → Option ℕ → S → Type 0) : Type 0 where
  -- every state is within bounds, sound or not
  pub bounded : (m : S) → Bounded (meaning m)
  -- a sound state excludes, serves, and marks called and barred sites rightly
  pub lawful : (m : S) → sound m → Lawful (meaning m)
  -- parking makes any state sound
  pub parking : (m n : S) (g : ℕ) → refused site_order (meaning m) g ≡ None → parks m g n → sound n × Parked (meaning m) g (meaning n)
  -- asks, frees and steps keep it sound and have their effects
  pub asking : (m n : S) (i : ℕ) → sound m → refused ask_order (meaning m) i ≡ None → asks m i n → sound n × Asked (meaning m) i (meaning n)
  pub freeing : (m n : S) (i : ℕ) → sound m → refused free_order (meaning m) i ≡ None → frees m i n → sound n × Freed (meaning m) i (meaning n)
  pub stepping : (m n : S) (k : ℕ) (grant : Option ℕ) → sound m → refused step_order (meaning m) k ≡ None → steps m k grant n → sound n × Stepped (meaning m) grant (meaning n)
