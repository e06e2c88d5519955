use Rattle.std.proofs.Common.{[], Some, None, refl}
use Rattle.manager.specs.Refusals.{step_order}
use Rattle.roll.specs.Contents.{room_of}
use Rattle.history.specs.Calls.{step}
use Rattle.history.specs.Records.{grant, grants_by_step}
use Rattle.broker.specs.Reading.{records_of}
use Rattle.broker.proofs.Answering.{has_room}
use Rattle.broker.proofs.Outcomes.{refused_outcome, stepped_outcome, granted_by_step}
use Rattle.broker.proofs.Rolling.{rolled_none, rolled_push}
use Rattle.broker.proofs.state.Broker.step.Goals as goal

pub returns-in_err-may_step : goal.returns-in_err-may_step
returns-in_err-may_step g c = record {
  is_one_call = λ w.
      let roll = c.args.roll.now in
      let due = c.in_err-may_step.ensures.answers w in
      let call = step c.args.k (room_of roll) in
      (None, [], refused_outcome g.M.Manager g.met.M.Manager.laws c.args.self.now call w due c.from_residual.ensures.1, rolled_none roll, λ ok. refl);
}

pub returns-in-Some : goal.returns-in-Some
returns-in-Some g c = record {
  is_one_call = λ w.
      let kind = g.M.Manager in
      let laws = g.met.M.Manager.laws in
      let b = c.args.self.now in
      let roll = c.args.roll.now in
      let site = c.in-Some.site in
      let since = c.since_ask-waited in
      let may = c.in_ok-may_step.ensures.answers w in
      let counts = c.count_step.ensures.one_more_step in
      let room = has_room step_order (kind.meaning b.manager) c.args.k (room_of roll) may in
      let p = c.push.ensures in (
        Some site,
        grants_by_step kind (records_of b) (Some site),
        stepped_outcome kind laws b c.step.new.self c.count_step.new.self (Some site) c.in-Some.is w may (c.in_ok-granted.ensures w.sound) counts,
        rw (granted_by_step kind laws b counts since.ensures.steps_less_those_at_the_ask)
            (rolled_push roll c.push.new.self (grant site since.result) room p.contents p.grows p.memory p.lender),
        λ ok. refl,
      );
}

pub returns-in_default : goal.returns-in_default
returns-in_default g c = record {
  is_one_call = λ w.
      let kind = g.M.Manager in
      let b = c.args.self.now in
      let roll = c.args.roll.now in
      let granted = c.in_ok-granted.granted in
      let may = c.in_ok-may_step.ensures.answers w in
      let counts = c.count_step.ensures.one_more_step in (
        granted,
        grants_by_step kind (records_of b) granted,
        stepped_outcome kind g.met.M.Manager.laws b c.step.new.self c.count_step.new.self granted refl w may (c.in_ok-granted.ensures w.sound) counts,
        rw c.in_default.is (rolled_none roll),
        λ ok. refl,
      );
}
