-- One side of a tie, as the other side and the outer manager meet it. Assumes nothing.
use Rattle.std.specs.Prelude.{ℕ, ◌+◌, ◌<◌, Bool, true, false, cond, ◌||◌, is_some}
use Rattle.manager.specs.Answers.{first}
use Rattle.manager.specs.Meaning.{Meaning, is_holding}
use Rattle.gateway.specs.Automaton.{awaited}
use Rattle.gateway.specs.declared.state.Gateway.{Gateway}
use Rattle.gateway.specs.declared.state.Gateway.TheVariants.{Out, Coming, In, Leaving}

-- A side is an island with its gateway.
pub record Side : Type 0 where
  pub island : Meaning
  pub gate : Gateway
  -- the gateway's number in the island, where it is the last site
  pub gateway : ℕ
  -- the outer site at which the gateway acts
  pub post : ℕ
  -- what the tie adds to the number of a site of the island
  pub offset : ℕ

-- The side with another island's meaning and its gateway in another state.
abbrev pub at : Side → Meaning → Gateway → Side
at a m g = record { island = m; gate = g; gateway = a.gateway; post = a.post; offset = a.offset }

-- Site i of the island is a site of the tie: it is not the gateway, and it is among the first 64.
abbrev pub Own : Side → ℕ → Type 0
Own a i = (i < a.gateway) × (i + a.offset < 64)

-- The resource is in the island, the gateway being in or leaving.
abbrev pub inside : Gateway → Bool
inside Out = false
inside Coming = false
inside In = true
inside Leaving = true

-- Is a move of the gateway due? The outer manager means o.
abbrev pub due : Side → (o : Meaning) → Bool
due a o = awaited a.gate a.island a.gateway o a.post

-- A side is settled if one of its own sites holds, or its gateway is barred so that one of them holds first. It stays
-- so until a site frees.
abbrev pub settled : Side → Bool
settled a = is_some (first (λ i. is_holding (a.island.status i)) a.gateway) || a.island.barred a.gateway

-- What a side adds to the moves that gateways can still make before a site of the tie holds and frees.
abbrev pub weigh : Gateway → (settled : Bool) → ℕ
weigh Out settled = 1
weigh Coming settled = 0
weigh In settled = cond settled 1 5
weigh Leaving settled = cond settled 0 4

abbrev pub weight : Side → ℕ
weight a = weigh a.gate (settled a)

-- The moves that gateways can still make: every move lowers them, and no step of a part raises them.
abbrev pub moves : Side → Side → ℕ
moves a b = weight a + weight b + cond (inside a.gate || inside b.gate) 0 2

-- Site i of side a is barred at the tie. With the resource in its island: i is barred there, or the gateway holds and
-- takes the resource out. With the resource elsewhere: a's outer site is barred, or b goes first, its gateway being
-- barred in its island or about to come in.
abbrev pub barred_on : (a b : Side) (o : Meaning) → ℕ → Bool
barred_on a b o i = cond (inside a.gate)
    (a.island.barred i || is_holding (a.island.status a.gateway))
    (o.barred a.post || cond (inside b.gate) (b.island.barred b.gateway) (is_holding (o.status b.post)))
