use Rattle.broker.specs.Reading.{records_of}
use Rattle.history.specs.Histories.{GoesOn}
use Rattle.programs.specs.Serving.{AsksInOrder}
use Rattle.programs.proofs.run.Run.ask_all.Given as goal

-- The sites before this one have been asked for, in order.
abbrev pub invariant-loop-site : goal.invariant-loop-site
invariant-loop-site g l = record {
  asked : AsksInOrder g.M.Manager l.turns l.initial.self.broker l.initial.self.grants l.site l.self.broker l.self.grants;
  goes_on : GoesOn g.M.Manager (records_of l.initial.self.broker) (records_of l.self.broker);
}
