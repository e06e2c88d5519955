-- The state of the algorithm that a manager stores. Assumes nothing.
use Rattle.std.specs.Prelude.{ℕ, Bool, false, cond, ◌&&◌, List, [], Some, None, Option, nat_lt, slice_index, slice_index_or}
use Rattle.manager.specs.declared.status.Status.TheVariants.{Idle}
use Rattle.suzuki_rules.specs.State.{State}
use Rattle.suzuki_kasami.specs.declared.state.SuzukiKasami.{SuzukiKasami}

-- A flag for each link is enough: a REQUEST under way carries its sender's own number.
abbrev pub link_of : (sites : ℕ) → List (List Bool) → List (List ℕ) → ℕ → ℕ → Option ℕ
link_of n flags known i j = cond (nat_lt j n && slice_index_or (slice_index_or flags i []) j false) (Some (slice_index (slice_index_or known i []) i)) None

abbrev pub state_of : SuzukiKasami → State
state_of m = record {
  sites = m.island.sites;
  status = λ i. slice_index_or m.island.status i Idle;
  known = λ i j. slice_index (slice_index_or m.known i []) j;
  link = link_of m.island.sites m.requests m.known;
  token = m.token;
  served = λ i. slice_index m.served i;
  queue = m.queue.items;
  age = m.island.age;
}
