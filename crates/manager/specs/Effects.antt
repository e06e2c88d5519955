-- What an accepted call does to the meaning of a manager, whatever its kind. Assumes nothing.
use Rattle.std.specs.Prelude.{◌≡◌, ℕ, ◌+◌, ◌<◌, ◌≤◌, true, false, ◌⊎◌, Some, None, Option, ◌≢◌}
use Rattle.manager.specs.Meaning.{Meaning}
use Rattle.manager.specs.declared.status.Status.TheVariants.{Idle, Waiting, Holding}

-- Every site but i has the status that it had.
abbrev pub OthersKeep : Meaning → ℕ → Meaning → Type 0
OthersKeep m i m' = (j : ℕ) → j < m.sites → (j ≢ i) → m'.status j ≡ m.status j

-- A called site stays called.
abbrev pub CalledLasts : Meaning → Meaning → Type 0
CalledLasts m m' = (i : ℕ) → i < m.sites → m.called i ≡ true → m'.called i ≡ true

-- A barred site stays barred and does not come to hold, unless another site comes to hold. (While a site is barred none
-- holds, so whoever holds afterwards has come to hold.)
abbrev pub BarredLasts : Meaning → Meaning → Type 0
BarredLasts m m' =
    (i : ℕ) → i < m.sites → m.barred i ≡ true → ((j : ℕ) → j < m.sites → (j ≢ i) → m'.status j ≢ Holding) → (m'.barred i ≡ true) × (m'.status i ≢ Holding)

-- To park at g is to begin anew with g holding.
pub record Parked (m : Meaning) (g : ℕ) (m' : Meaning) : Type 0 where
  pub sites : m'.sites ≡ m.sites
  pub toll : m'.toll ≡ m.toll
  pub holds : m'.status g ≡ Holding
  pub others : (j : ℕ) → j < m.sites → (j ≢ g) → m'.status j ≡ Idle
  pub quiet : m'.underway ≡ 0
  pub unbarred : (j : ℕ) → j < m.sites → m'.barred j ≡ false
  pub work : m'.work ≤ m'.toll
  pub age : m'.age ≡ 0

-- To ask for site i makes it wait, or hold where it is served there and then.
pub record Asked (m : Meaning) (i : ℕ) (m' : Meaning) : Type 0 where
  pub sites : m'.sites ≡ m.sites
  pub toll : m'.toll ≡ m.toll
  pub asker : (m'.status i ≡ Waiting) ⊎ (m'.status i ≡ Holding)
  pub others : OthersKeep m i m'
  pub called : CalledLasts m m'
  pub barred : BarredLasts m m'
  pub work : m'.work ≤ m.work + m.toll
  pub age : m'.age ≡ m.age + 1

-- To free site i ends its hold. Where it was called it is barred afterwards, so that whoever called goes first.
pub record Freed (m : Meaning) (i : ℕ) (m' : Meaning) : Type 0 where
  pub sites : m'.sites ≡ m.sites
  pub toll : m'.toll ≡ m.toll
  pub freer : m'.status i ≡ Idle
  pub others : OthersKeep m i m'
  pub bars : m.called i ≡ true → m'.barred i ≡ true
  pub work : m'.work ≤ m.work + m.toll
  pub age : m'.age ≡ m.age + 1

-- The statuses after a step that grants the resource to a site, or to none.
abbrev pub Granted : Meaning → Option ℕ → Meaning → Type 0
Granted m None m' = (j : ℕ) → j < m.sites → m'.status j ≡ m.status j
Granted m (Some i) m' = (i < m.sites) × (m.status i ≡ Waiting) × (m'.status i ≡ Holding) × OthersKeep m i m'

-- A step carries out one of the things under way.
pub record Stepped (m : Meaning) (grant : Option ℕ) (m' : Meaning) : Type 0 where
  pub sites : m'.sites ≡ m.sites
  pub toll : m'.toll ≡ m.toll
  pub granted : Granted m grant m'
  pub called : CalledLasts m m'
  pub barred : BarredLasts m m'
  pub work : m'.work + 1 ≤ m.work
  pub age : m'.age ≡ m.age + 1
