use Rattle.broker.specs.Reading.{records_of}
use Rattle.history.specs.Histories.{GoesOn}
use Rattle.island.proofs.serving.serve.Given as goal

abbrev pub invariant-loop : goal.invariant-loop
invariant-loop g l = GoesOn g.M.Manager (records_of l.initial.run.broker) (records_of l.run.broker)
