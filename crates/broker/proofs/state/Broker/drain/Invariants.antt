use Rattle.history.specs.Records.{Well}
use Rattle.broker.specs.Reading.{records_of}
use Rattle.broker.proofs.Draining.{Draining}
use Rattle.broker.proofs.state.Broker.drain.Given as goal

abbrev pub invariant-loop-steps : goal.invariant-loop-steps
invariant-loop-steps g l =
    Well g.M.Manager (records_of l.initial.self) → Draining g.M.Manager (records_of l.initial.self) l.bound l.initial.roll l.steps (records_of l.self) l.roll
