-- A gateway as an automaton: when its next move is due. Assumes nothing.
use Rattle.std.specs.Prelude.{ℕ, ◌-◌, Bool, ◌&&◌, nat_lt}
use Rattle.manager.specs.Kinds.{Kind}
use Rattle.manager.specs.Meaning.{Meaning, is_holding}
use Rattle.gateway.specs.declared.state.Gateway.{Gateway}
use Rattle.gateway.specs.declared.state.Gateway.TheVariants.{Out, Coming, In, Leaving}

-- A manager's last site. That of an island is its gateway.
abbrev pub last : Meaning → ℕ
last m = m.sites - 1

-- Has what the gateway waits for come about? Its number in the island is `own`, and its site at the outer manager, where
-- it acts for the island, is `post`.
abbrev pub awaited : Gateway → (island : Meaning) (own : ℕ) (outer : Meaning) (post : ℕ) → Bool
awaited Out island own outer post = island.called own
awaited Coming island own outer post = is_holding (outer.status post)
awaited In island own outer post = outer.called post
awaited Leaving island own outer post = is_holding (island.status own)

-- Then a move of the gateway is due. A gateway whose post the outer manager has not never moves.
abbrev pub due : Gateway → (island : Meaning) (own : ℕ) (outer : Meaning) (post : ℕ) → Bool
due gate island own outer post = awaited gate island own outer post && nat_lt post outer.sites

-- A gateway between its island and the outer manager.
pub record Link (I O : Type 0) : Type 0 where
  pub gate : Gateway
  pub island : I
  pub outer : O

abbrev pub link : {I O : Type 0} → Gateway → I → O → Link I O
link gate island outer = record { gate = gate; island = island; outer = outer }

-- The same of a gateway between two managers.
abbrev pub due_at : {I O : Type 0} → Kind I → Kind O → (post : ℕ) → Link I O → Bool
due_at ki ko post at = due at.gate (ki.meaning at.island) (last (ki.meaning at.island)) (ko.meaning at.outer) post
