use Rattle.tie_rules.specs.Reading.{meaning_of}
use Rattle.tie.specs.Reading.{tie_of}
use Rattle.tie.proofs.Answering.{accepted, may_step, done_call}
use Rattle.tie.proofs.calls.TieManager.step.Goals as goal

pub returns : goal.returns
returns g c = λ v.
    let m = meaning_of g.L.Manager g.R.Manager g.O.Manager (tie_of c.args.self.now) in
    let none = accepted _ _ _ c.in_ok-may_step.ensures in
    let known = may_step m c.args.k none in
    let (grant, ok, did) = c.in_ok-granted.ensures.steps v known.1 known.0 in
    (grant, done_call _ _ _ _ _ _ none ok did)
