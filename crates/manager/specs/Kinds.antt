-- A kind of manager as one thing, for mathematics over any kind. Assumes nothing.
use Rattle.manager.specs.Laws.{Laws}
use Rattle.manager.specs.declared.interface.Manager.{Ghosts}

-- A kind of manager, with states S, is the ghost members of the interface: what a state means, when it is sound, and what
-- each carried-out call does to it.
abbrev pub Kind : Type 0 → Type 1
Kind S = Ghosts S

-- The kind keeps the laws.
abbrev pub Obeys : {S : Type 0} → Kind S → Type 0
Obeys kind = Laws kind.meaning kind.sound kind.parks kind.asks kind.frees kind.steps
