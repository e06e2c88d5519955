use Rattle.manager.specs.Refusals.{ask_order}
use Rattle.manager.proofs.Accepted.{ask_refused_alike}
use Rattle.tie.specs.Reading.{tie_of}
use Rattle.tie.proofs.Islands.{left_told, right_told, left_status, right_status}
use Rattle.tie.proofs.Stored.{left_as_was, right_as_was}
use Rattle.tie.proofs.state.Tie.ask_island.Goals as goal

pub returns-in-Left-clause-asks : goal.returns-in-Left-clause-asks
returns-in-Left-clause-asks g c = λ v young within.
    left_told v young within ask_order ask_refused_alike g.L.Manager.asks g.R.Manager.asks c.in-Left.ensures (left_as_was c.args.self.now _ _)
    (left_status g.L.Manager g.R.Manager g.O.Manager (tie_of c.args.self.now) c.args.site c.in-Left.site
    g.met.L.Manager.laws v.left c.in-Left.ensures) (c.ask.ensures v.left)

pub returns-in-Right-clause-asks : goal.returns-in-Right-clause-asks
returns-in-Right-clause-asks g c = λ v young within.
    right_told v young within ask_order ask_refused_alike g.L.Manager.asks g.R.Manager.asks c.in-Right.ensures (right_as_was c.args.self.now _ _)
    (λ none did. right_status g.L.Manager g.R.Manager g.O.Manager (tie_of c.args.self.now) c.args.site c.in-Right.site c.in-Right.ensures)
    (c.ask-in-Right.ensures v.right)
