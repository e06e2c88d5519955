use Rattle.broker.specs.Reading.{records_of}
use Rattle.history.proofs.Every.{goes_nowhere, goes_onward}
use Rattle.programs.specs.Serving.AsksInOrder.{none, then}
use Rattle.programs.proofs.run.Run.ask_all.Goals as goal

pub loop-site-init : goal.loop-site-init
loop-site-init g c = record { asked = none; goes_on = goes_nowhere g.M.Manager g.met.M.Manager.laws (records_of c.args.self.now.broker) }

pub loop-site-preserved : goal.loop-site-preserved
loop-site-preserved g c = record {
  asked = then c.loop-site.invariant.asked c.ask_unless_served.ensures.asks_unless_served;
  goes_on = goes_onward g.M.Manager g.met.M.Manager.laws c.loop-site.invariant.goes_on c.ask_unless_served.ensures.goes_on_with_its_history;
}
