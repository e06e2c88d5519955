use Rattle.std.proofs.Common.{◌<◌, arith}
use Rattle.manager.proofs.Accepted.{site_accepted}
use Rattle.history.proofs.Every.{begun}
use Rattle.broker.proofs.Begin.{fresh}
use Rattle.broker.proofs.state.Broker.new.Goals as goal

pub returns : goal.returns
returns g c =
    let kind = g.M.Manager in
    let laws = g.met.M.Manager.laws in
    let m = c.args.manager in
    let parked = c.park.new.self in
    let last = c.last_of-last.result in
    let within : last < (kind.meaning m).sites = omega (arith, c.last_of-last.ensures, (laws.bounded m).fewest) in
    let ok = site_accepted (kind.meaning m) last within in
    let anew = fresh parked c.new-totals.result c.new-totals.ensures.nothing_is_counted in
    record { begins = rw (← c.last_of-last.ensures) (begun kind laws m parked last _ ok (c.park.ensures.does ok) anew) }
