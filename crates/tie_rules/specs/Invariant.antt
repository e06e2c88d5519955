-- What every call keeps true of a tie, and what the laws of a manager follow from. Assumes nothing.
use Rattle.std.specs.Prelude.{◌≡◌, ℕ, ◌+◌, ◌<◌, ◌≤◌, true, ◌⊎◌}
use Rattle.manager.specs.Kinds.{Kind}
use Rattle.manager.specs.Meaning.{Meaning}
use Rattle.manager.specs.declared.status.Status.TheVariants.{Idle, Waiting, Holding}
use Rattle.tie_rules.specs.Reading.{left_side, right_side}
use Rattle.tie_rules.specs.Sides.{Side}
use Rattle.tie_rules.specs.State.{Tie}
use Rattle.gateway.specs.declared.state.Gateway.{Gateway}
use Rattle.gateway.specs.declared.state.Gateway.TheVariants.{Out, Coming, In, Leaving}

-- What a gateway's state says of it as site g of its island m and as site p of the outer manager o. That it was called
-- lasts until it frees, and it frees by its own move alone.
abbrev pub StandsAt : Gateway → (m : Meaning) (g : ℕ) (o : Meaning) (p : ℕ) → Type 0
StandsAt Out m g o p = (m.status g ≡ Holding) × (o.status p ≡ Idle)
StandsAt Coming m g o p = (m.status g ≡ Holding) × (m.called g ≡ true) × ((o.status p ≡ Waiting) ⊎ (o.status p ≡ Holding))
StandsAt In m g o p = (m.status g ≡ Idle) × (o.status p ≡ Holding)
StandsAt Leaving m g o p = ((m.status g ≡ Waiting) ⊎ (m.status g ≡ Holding)) × (o.status p ≡ Holding) × (o.called p ≡ true)

abbrev pub Stands : Side → (o : Meaning) → Type 0
Stands a o = StandsAt a.gate a.island a.gateway o a.post

-- The sites of the island past the tie's first 64 never ask.
abbrev pub Unreached : Side → Type 0
Unreached a = (i : ℕ) → i < a.gateway → 64 ≤ i + a.offset → a.island.status i ≡ Idle

module _ {L R O : Type 0} (kl : Kind L) (kr : Kind R) (ko : Kind O) where
  pub record Sound (t : Tie L R O) : Type 0 where
    -- the parts are sound
    pub left : kl.sound t.left
    pub right : kr.sound t.right
    pub outer : ko.sound t.outer
    -- no part is older than the tie, since each call of a part comes from one of the tie
    pub left_young : (kl.meaning t.left).age ≤ t.age
    pub right_young : (kr.meaning t.right).age ≤ t.age
    pub outer_young : (ko.meaning t.outer).age ≤ t.age
    -- the gateways stand as their states say
    pub left_stands : Stands (left_side kl kr ko t) (ko.meaning t.outer)
    pub right_stands : Stands (right_side kl kr ko t) (ko.meaning t.outer)
    -- sites that never ask are idle
    pub left_unreached : Unreached (left_side kl kr ko t)
    pub right_unreached : Unreached (right_side kl kr ko t)
    pub outer_unused : (j : ℕ) → j < (ko.meaning t.outer).sites → 2 ≤ j → (ko.meaning t.outer).status j ≡ Idle
