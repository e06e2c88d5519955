use Rattle.std.proofs.Common.{refl}
use Rattle.tie.specs.Reading.{tie_of}
use Rattle.tie.proofs.Beginning.{parked_left, parked_right}
use Rattle.tie.proofs.state.Tie.begin_at.Goals as goal

pub returns-in-Left : goal.returns-in-Left
returns-in-Left g c =
    let left = c.park_in.ensures in
    let right = c.park_out.ensures in
    parked_left g.L.Manager g.R.Manager g.O.Manager (tie_of c.args.self.now) _ c.args.site c.in-Left.site c.in-Left.ensures left.parks_at_that_site
    right.parks_at_the_gateway c.park_at.ensures.parks_at_that_site left.sets_the_gateway_in right.sets_the_gateway_out refl

pub returns-in-Right : goal.returns-in-Right
returns-in-Right g c =
    let left = c.park_out-in-Right.ensures in
    let right = c.park_in-in-Right.ensures in
    parked_right g.L.Manager g.R.Manager g.O.Manager (tie_of c.args.self.now) _ c.args.site c.in-Right.site c.in-Right.ensures
    left.parks_at_the_gateway right.parks_at_that_site c.park_at-in-Right.ensures.parks_at_that_site left.sets_the_gateway_out
    right.sets_the_gateway_in refl
