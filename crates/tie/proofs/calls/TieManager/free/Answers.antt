use Rattle.tie_rules.specs.Reading.{meaning_of}
use Rattle.tie.specs.Reading.{tie_of}
use Rattle.tie.proofs.Answering.{named_call}
use Rattle.tie.proofs.calls.TieManager.free.Goals as goal

pub returns : goal.returns
returns g c =
    λ v. named_call (meaning_of g.L.Manager g.R.Manager g.O.Manager (tie_of c.args.self.now)) c.args.site c.in_ok-may_name.ensures
    (c.in_ok-free_island.ensures.frees v)
