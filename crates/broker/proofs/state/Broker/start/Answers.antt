use Rattle.history.proofs.Every.{begun}
use Rattle.broker.proofs.Answering.{accepted}
use Rattle.broker.proofs.Begin.{fresh}
use Rattle.broker.proofs.state.Broker.start.Goals as goal

pub returns-clause-begins : goal.returns-clause-begins
returns-clause-begins g c = λ _.
    let m = c.args.self.now.manager in
    let parked = c.in_ok-park.ensures in
    let ok = accepted _ _ _ parked.answers in
    let anew = fresh c.park.new.self c.new-self.result c.new-self.ensures.nothing_is_counted in
    begun g.M.Manager g.met.M.Manager.laws m c.park.new.self c.args.site _ ok (parked.does ok) anew
