use Rattle.std.proofs.Common.{rules}
use Rattle.tie.specs.Reading.{tie_of}
use Rattle.tie.proofs.Holders.{holds}
use Rattle.tie.proofs.calls.TieManager.holder.Goals as goal

pub returns : goal.returns
returns g c =
    holds g.L.Manager g.R.Manager g.O.Manager (tie_of c.args.self.now) c.own_holder.result c.or_else.result _
    c.own_holder.ensures.gives_the_holder_in_the_tie (λ asked. search rules) c.or_else.ensures
