use Rattle.std.proofs.Common.{◌≡◌, ◌-◌, ◌<◌, refl, ◌∙◌, arith}
use Rattle.roll.specs.Contents.{room_of}
use Rattle.history.specs.Calls.Drained.{finished}
use Rattle.history.specs.Records.{under}
use Rattle.broker.specs.Reading.{records_of}
use Rattle.broker.proofs.Answering.{refusing}
use Rattle.broker.proofs.Draining.{none_under_way, some_under_way, draining_more, at_bound, at_refusal, reported}
use Rattle.broker.proofs.Rolling.{rolled_none}
use Rattle.broker.proofs.state.Broker.drain.Goals as goal

pub returns-then-is_quiet : goal.returns-then-is_quiet
returns-then-is_quiet g c = record {
  is_one_call = λ w.
      let kind = g.M.Manager in
      let quiet : (under kind (records_of c.loop-steps.self)).underway ≡ 0 = none_under_way _ _ c.is_quiet.ensures.tells_whether_nothing_is_under_way c.if-is_quiet.true in
      reported kind (records_of c.args.self.now) c.args.bound c.args.roll.now g.met.M.Manager.laws c.report.result w (c.loop-steps.invariant w) (finished quiet)
      (refl {a = c.loop-steps.self}, refl) (rolled_none c.loop-steps.roll) c.report.ensures.has_the_steps c.report.ensures.has_the_reason;
}

pub returns-in-Err : goal.returns-in-Err
returns-in-Err g c = record {
  is_one_call = λ w.
      let kind = g.M.Manager in
      let b = records_of c.loop-steps.self in
      let report = c.report-in-Err in
      let d = c.loop-steps.invariant w in
      let e = c.in-Err.refusal in
      let (site, gs, out, added, told) = c.in-Err.ensures.is_one_call d.well in
      let busy : 0 < (under kind b).underway = some_under_way _ _ c.is_quiet.ensures.tells_whether_nothing_is_under_way c.if-is_quiet.false in
      let left = c.args.bound - c.loop-steps.steps in
      let more : 0 < left = omega (arith, c.loop-steps-test.true) in
      let last = at_refusal kind b left (room_of c.loop-steps.roll) e busy more (refusing _ _ e out.answers) in
      reported kind (records_of c.args.self.now) c.args.bound c.args.roll.now g.met.M.Manager.laws report.result w d last
      (out.leaves e refl) added report.ensures.has_the_steps report.ensures.has_the_reason;
}

pub loop-steps-preserved : goal.loop-steps-preserved
loop-steps-preserved g c = λ w.
    let kind = g.M.Manager in
    let busy : 0 < (under kind (records_of c.loop-steps.self)).underway = some_under_way _ _ c.is_quiet.ensures.tells_whether_nothing_is_under_way c.if-is_quiet.false in
    let d = c.loop-steps.invariant w in
    let (site, gs, out, added, told) = c.in_default.ensures.is_one_call d.well in
    draining_more kind (records_of c.args.self.now) c.args.bound c.args.roll.now c.loop-steps-test.true busy d out added

pub returns : goal.returns
returns g c = record {
  is_one_call = λ w.
      let kind = g.M.Manager in
      let b = records_of c.loop-steps.self in
      let report = c.report-2 in
      let quiet = c.is_quiet-busy in
      let all : c.args.bound ≡ c.loop-steps.steps = omega (arith, c.loop-steps-test.false, c.loop-steps.auto.steps-end) in
      let last = at_bound kind b (c.args.bound - c.loop-steps.steps) (room_of c.loop-steps.roll) quiet.result (omega (arith, all)) quiet.ensures.tells_whether_nothing_is_under_way in
      reported kind (records_of c.args.self.now) c.args.bound c.args.roll.now g.met.M.Manager.laws report.result w (c.loop-steps.invariant w) last
      (refl {a = c.loop-steps.self}, refl) (rolled_none c.loop-steps.roll) (report.ensures.has_the_steps ∙ all)
      (report.ensures.has_the_reason ∙ c.then_some.ensures);
}
