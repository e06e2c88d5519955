-- The state of a tie: a left island, a right island and an outer manager that joins them. Assumes nothing.
use Rattle.std.specs.Prelude.{ℕ, ◌+◌}
use Rattle.gateway.specs.declared.state.Gateway.{Gateway}

-- An island is a manager whose last site, its gateway, stands for the rest of the world. The gateways meet at the outer
-- manager: the left one acts at its site 0, the right one at its site 1, and no other site of it ever asks.
pub record Tie (L R O : Type 0) : Type 0 where
  pub left : L
  pub right : R
  pub outer : O
  pub left_gate : Gateway
  pub right_gate : Gateway
  -- the asks, frees and steps since parking
  pub age : ℕ

-- The tie after a call, one older, with its parts and gateways as given.
abbrev pub next : {L R O : Type 0} → Tie L R O → L → R → O → (left_gate right_gate : Gateway) → Tie L R O
next t l r o left_gate right_gate = record {
  left = l;
  right = r;
  outer = o;
  left_gate = left_gate;
  right_gate = right_gate;
  age = t.age + 1;
}
