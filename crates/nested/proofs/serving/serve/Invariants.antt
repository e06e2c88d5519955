use Rattle.broker.specs.Reading.{records_of}
use Rattle.history.specs.Histories.{GoesOn}
use Rattle.nested.proofs.serving.serve.Given as goal

abbrev pub invariant-loop-drawn : goal.invariant-loop-drawn
invariant-loop-drawn g l = GoesOn g.M.Manager (records_of l.fn.run.broker) (records_of l.run.broker)
