use Rattle.std.proofs.Common.{true, false, [], ◌∷◌}
use Rattle.manager.specs.Refusals.{ask_order}
use Rattle.roll.specs.Contents.{room_of}
use Rattle.history.specs.Calls.{ask}
use Rattle.history.specs.Records.{grant}
use Rattle.broker.proofs.Answering.{has_room}
use Rattle.broker.proofs.Outcomes.{refused_outcome, asked_outcome}
use Rattle.broker.proofs.Rolling.{rolled_none, rolled_push}
use Rattle.broker.proofs.state.Broker.ask.Goals as goal

pub returns-in_err-may_ask : goal.returns-in_err-may_ask
returns-in_err-may_ask g c = record {
  is_one_call = λ w.
      let roll = c.args.roll.now in
      let due = c.in_err-may_ask.ensures.answers w in
      let call = ask c.args.site (room_of roll) in
      ([], refused_outcome g.M.Manager g.met.M.Manager.laws c.args.self.now call w due c.from_residual.ensures.1, rolled_none roll);
}

pub returns-then-is_holding : goal.returns-then-is_holding
returns-then-is_holding g c = record {
  is_one_call = λ w.
      let b = c.args.self.now in
      let roll = c.args.roll.now in
      let i = c.args.site in
      let may = c.in_ok-may_ask.ensures.answers w in
      let counts = c.count_ask.ensures in
      let room = has_room ask_order (g.M.Manager.meaning b.manager) i (room_of roll) may in
      let p = c.push.ensures in (
        grant i 0 ∷ [],
        asked_outcome g.M.Manager g.met.M.Manager.laws b c.ask.new.self c.count_ask.new.self true w may (c.in_ok-status.ensures w.sound)
            counts.has_a_place_for_each_site counts.one_more_ask c.if-is_holding.ensures,
        rolled_push roll c.push.new.self (grant i 0) room p.contents p.grows p.memory p.lender,
      );
}

pub returns-else-is_holding : goal.returns-else-is_holding
returns-else-is_holding g c = record {
  is_one_call = λ w.
      let may = c.in_ok-may_ask.ensures.answers w in
      let counts = c.count_ask.ensures in (
        [],
        asked_outcome g.M.Manager g.met.M.Manager.laws c.args.self.now c.ask.new.self c.count_ask.new.self false w may (c.in_ok-status.ensures w.sound)
            counts.has_a_place_for_each_site counts.one_more_ask c.if-is_holding.ensures,
        rolled_none c.args.roll.now,
      );
}
