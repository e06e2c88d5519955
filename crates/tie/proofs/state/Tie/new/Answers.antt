use Rattle.std.proofs.Common.{ℕ, subst}
use Rattle.tie_rules.specs.Rules.{Parks}
use Rattle.tie.specs.Reading.{tie_of, untied}
use Rattle.tie.proofs.state.Tie.new.Goals as goal

pub returns-clause-parked : goal.returns-clause-parked
returns-clause-parked g c =
    subst (λ (n : ℕ). Parks g.L.Manager g.R.Manager g.O.Manager (untied c.args.left c.args.right c.args.outer) n (tie_of c.begin_at.new.self))
    c.last_site-last.ensures c.begin_at.ensures
