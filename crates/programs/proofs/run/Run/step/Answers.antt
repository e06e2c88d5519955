use Rattle.history.proofs.Every.{one_call}
use Rattle.programs.proofs.run.Run.step.Goals as goal

pub returns-clause-goes_on_with_its_history : goal.returns-clause-goes_on_with_its_history
returns-clause-goes_on_with_its_history g c = λ w. one_call g.M.Manager g.met.M.Manager.laws (c.step.ensures.is_one_call w).2.performed
