use Rattle.tie.proofs.Steps.{left_carried, right_carried, outer_carried, left_moved, right_moved}
use Rattle.tie.proofs.state.Tie.carry_out.Goals as goal

pub returns-in-Left-clause-steps : goal.returns-in-Left-clause-steps
returns-in-Left-clause-steps g c = λ v young within.
    left_carried v young c.args.k c.step.result g.met.L.Manager.laws c.in-Left.k c.step.new.self.island c.step.new.self.gate
    c.step.ensures.keeps_the_gateway (c.in-Left.ensures within) c.step.ensures.steps_the_island

pub returns-in-Right-clause-steps : goal.returns-in-Right-clause-steps
returns-in-Right-clause-steps g c = λ v young within.
    let right = c.step-in-Right in
    right_carried v young c.args.k right.result g.met.R.Manager.laws c.in-Right.k c.border-border.result right.new.self.island right.new.self.gate
    right.ensures.keeps_the_gateway c.border-border.ensures (c.in-Right.ensures within) right.ensures.steps_the_island

pub returns-in-Outer-clause-steps : goal.returns-in-Outer-clause-steps
returns-in-Outer-clause-steps g c = λ v young within.
    outer_carried v young c.args.k c.step_outer.result c.in-Outer.k c.step_outer.new.outer (c.in-Outer.ensures within)
    c.step_outer.ensures.steps_the_outer_manager

pub returns-in-LeftMove-clause-steps : goal.returns-in-LeftMove-clause-steps
returns-in-LeftMove-clause-steps g c = λ v young within.
    left_moved v young c.args.k c.advance.result g.met.L.Manager.laws g.met.R.Manager.laws g.met.O.Manager.laws c.advance.new.self.island
    c.advance.new.self.gate c.advance.new.outer (c.in-LeftMove.ensures within) c.advance.ensures.moves_the_gateway

pub returns-in-RightMove-clause-steps : goal.returns-in-RightMove-clause-steps
returns-in-RightMove-clause-steps g c = λ v young within.
    let right = c.advance-in-RightMove in
    right_moved v young c.args.k right.result g.met.L.Manager.laws g.met.R.Manager.laws g.met.O.Manager.laws right.new.self.island right.new.self.gate
    right.new.outer (c.in-RightMove.ensures within) right.ensures.moves_the_gateway
