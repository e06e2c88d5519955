use Rattle.std.proofs.Common.{refl}
use Rattle.manager.specs.Refusals.{free_order}
use Rattle.manager.proofs.Accepted.{free_refused_alike}
use Rattle.tie.proofs.Islands.{left_told, right_told}
use Rattle.tie.proofs.Stored.{left_as_was, right_as_was}
use Rattle.tie.proofs.state.Tie.free_island.Goals as goal

pub returns-in-Left-clause-frees : goal.returns-in-Left-clause-frees
returns-in-Left-clause-frees g c = λ v young within.
    left_told v young within free_order free_refused_alike g.L.Manager.frees g.R.Manager.frees c.in-Left.ensures (left_as_was c.args.self.now _ _)
    (λ none did. refl) (c.free.ensures v.left)

pub returns-in-Right-clause-frees : goal.returns-in-Right-clause-frees
returns-in-Right-clause-frees g c = λ v young within.
    right_told v young within free_order free_refused_alike g.L.Manager.frees g.R.Manager.frees c.in-Right.ensures (right_as_was c.args.self.now _ _)
    (λ none did. refl) (c.free-in-Right.ensures v.right)
