-- Where a site of a tie is, and which of an island's sites are the tie's. Assumes nothing.
use Rattle.std.specs.Prelude.{◌≡◌, ℕ, ◌+◌, ◌-◌, ◌<◌, ◌≤◌, cond, Some, None, Option, nat_lt}
use Rattle.manager.specs.Answers.{holder_shown}
use Rattle.manager.specs.Meaning.{Meaning}
use Rattle.gateway.specs.Automaton.{last}
use Rattle.tie.specs.declared.sites.Place.{Place}
use Rattle.tie.specs.declared.sites.Place.TheVariants.{Left, Right}

-- Site i of a tie with this border is at this place.
abbrev pub PlacedAt : (border i : ℕ) → Place → Type 0
PlacedAt border i (Left j) = (i < border) × (j ≡ i)
PlacedAt border i (Right j) = (border ≤ i) × (j ≡ i - border)

-- A site of an island by the tie's number, unless it is the gateway.
abbrev pub own : (gateway offset : ℕ) → Option ℕ → Option ℕ
own gateway offset None = None
own gateway offset (Some i) = cond (nat_lt i gateway) (Some (i + offset)) None

-- A site, if it is among the first 64.
abbrev pub reachable : Option ℕ → Option ℕ
reachable None = None
reachable (Some i) = cond (nat_lt i 64) (Some i) None

-- The site that holds in an island, by the tie's number, if it is a site of the tie.
abbrev pub own_holder_of : (island : Meaning) (offset : ℕ) → Option ℕ
own_holder_of island offset = reachable (own (last island) offset (holder_shown island))
