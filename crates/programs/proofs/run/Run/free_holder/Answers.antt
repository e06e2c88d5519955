use Rattle.history.proofs.Every.{one_call}
use Rattle.programs.proofs.run.Run.free_holder.Goals as goal

pub returns-in-Some-clause-goes_on_with_its_history : goal.returns-in-Some-clause-goes_on_with_its_history
returns-in-Some-clause-goes_on_with_its_history g c = λ w. one_call g.M.Manager g.met.M.Manager.laws (c.free.ensures.is_one_call w).performed
