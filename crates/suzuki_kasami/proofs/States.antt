-- Equal states.
use Rattle.std.proofs.Common.{◌≡◌, ℕ}
use Rattle.suzuki_rules.specs.State.{State}

-- Two states that agree in everything.
pub record Alike (s t : State) : Type 0 where
  pub sites : s.sites ≡ t.sites
  pub status : (i : ℕ) → s.status i ≡ t.status i
  pub known : (i j : ℕ) → s.known i j ≡ t.known i j
  pub link : (i j : ℕ) → s.link i j ≡ t.link i j
  pub token : s.token ≡ t.token
  pub served : (i : ℕ) → s.served i ≡ t.served i
  pub queue : s.queue ≡ t.queue
  pub age : s.age ≡ t.age

pub same_state : (s t : State) → Alike s t → s ≡ t
same_state s t e = λ k. record {
  sites = e.sites k;
  status = λ i. e.status i k;
  known = λ i j. e.known i j k;
  link = λ i j. e.link i j k;
  token = e.token k;
  served = λ i. e.served i k;
  queue = e.queue k;
  age = e.age k;
}
