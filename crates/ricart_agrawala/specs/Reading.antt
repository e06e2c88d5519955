-- The state of the algorithm that a manager stores. Assumes nothing.
use Rattle.std.specs.Prelude.{[], slice_index_or}
use Rattle.manager.specs.declared.status.Status.TheVariants.{Idle}
use Rattle.ricart_rules.specs.State.{State}
use Rattle.ricart_rules.specs.declared.Stage.TheVariants.{Unasked}
use Rattle.ricart_agrawala.specs.declared.state.Clock.{Clock}
use Rattle.ricart_agrawala.specs.declared.state.RicartAgrawala.{RicartAgrawala}

-- What a site knows when the manager is parked.
abbrev pub first_clock : Clock
first_clock = record { highest = 1; number = 1 }

abbrev pub state_of : RicartAgrawala → State
state_of m = record {
  sites = m.island.sites;
  status = λ i. slice_index_or m.island.status i Idle;
  highest = λ i. (slice_index_or m.clocks i first_clock).highest;
  number = λ i. (slice_index_or m.clocks i first_clock).number;
  stage = λ i j. slice_index_or (slice_index_or m.stages i []) j Unasked;
  age = m.island.age;
}
