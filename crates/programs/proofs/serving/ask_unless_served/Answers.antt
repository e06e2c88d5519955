use Rattle.history.proofs.Every.{one_call}
use Rattle.programs.proofs.serving.ask_unless_served.Goals as goal

pub returns-then-count-turns-clause-goes_on_with_its_history : goal.returns-then-count-turns-clause-goes_on_with_its_history
returns-then-count-turns-clause-goes_on_with_its_history g c = λ w. one_call g.M.Manager g.met.M.Manager.laws (c.ask.ensures.is_one_call w).1.performed
