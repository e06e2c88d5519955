use Rattle.std.proofs.Common.{◌≡◌, length, Some, None, arith}
use Rattle.std.proofs.lemmas.Bool.Decides.{nat_tests}
use Rattle.manager.specs.declared.refusal.Refusal.TheVariants.{ShortWaitList}
use Rattle.history.specs.Calls.{waits_refusal}
use Rattle.history.specs.Calls.Does.{is_refused, writes_waits}
use Rattle.history.proofs.Every.{performed}
use Rattle.broker.proofs.state.Broker.write_waits.Goals as goal

pub returns-then-list-sites-clause-is_one_call : goal.returns-then-list-sites-clause-is_one_call
returns-then-list-sites-clause-is_one_call g c = λ w.
    let m = g.M.Manager.meaning c.args.self.now.manager in
    let short : waits_refusal m (length c.args.list.now) ≡ Some ShortWaitList = grind (arith, nat_tests, c.if-list-sites.true, c.sites-sites.ensures) in
    performed g.M.Manager g.met.M.Manager.laws w (is_refused ShortWaitList short)

pub returns-clause-is_one_call : goal.returns-clause-is_one_call
returns-clause-is_one_call g c = λ w.
    let m = g.M.Manager.meaning c.args.self.now.manager in
    let long : waits_refusal m (length c.args.list.now) ≡ None = grind (arith, nat_tests, c.if-list-sites.false, c.sites-sites.ensures) in
    performed g.M.Manager g.met.M.Manager.laws w (writes_waits (length c.args.list.now) long)
