use Rattle.history.specs.Calls.{free}
use Rattle.broker.proofs.Outcomes.{refused_outcome, freed_outcome}
use Rattle.broker.proofs.state.Broker.free.Goals as goal

pub returns-in_err-may_free : goal.returns-in_err-may_free
returns-in_err-may_free g c = record {
  is_one_call = λ w.
      let due = c.in_err-may_free.ensures.answers w in
      refused_outcome g.M.Manager g.met.M.Manager.laws c.args.self.now (free c.args.site) w due c.from_residual.ensures.1;
}

pub returns : goal.returns
returns g c = record {
  is_one_call = λ w.
      let called = c.in_ok-free.ensures w.sound in
      freed_outcome g.M.Manager g.met.M.Manager.laws c.args.self.now c.free.new.self c.count_free.new.self w called c.count_free.ensures.one_more_free;
}
