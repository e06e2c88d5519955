-- Equal states.
use Rattle.std.proofs.Common.{◌≡◌, ℕ}
use Rattle.ricart_rules.specs.State.{State}

-- Two states that agree in everything.
pub record Alike (s t : State) : Type 0 where
  pub sites : s.sites ≡ t.sites
  pub status : (i : ℕ) → s.status i ≡ t.status i
  pub highest : (i : ℕ) → s.highest i ≡ t.highest i
  pub number : (i : ℕ) → s.number i ≡ t.number i
  pub stage : (i j : ℕ) → s.stage i j ≡ t.stage i j
  pub age : s.age ≡ t.age

pub same_state : (s t : State) → Alike s t → s ≡ t
same_state s t e = λ k. record {
  sites = e.sites k;
  status = λ i. e.status i k;
  highest = λ i. e.highest i k;
  number = λ i. e.number i k;
  stage = λ i j. e.stage i j k;
  age = e.age k;
}
