use Rattle.history.proofs.Every.{goes_onward}
use Rattle.island.proofs.serving.serve.Goals as goal

-- A round asks, drains and frees.
pub loop-preserved : goal.loop-preserved
loop-preserved g c =
    let kind = g.M.Manager in
    let laws = g.met.M.Manager.laws in
    let asked = goes_onward kind laws c.loop.invariant c.ask_all.ensures.goes_on_with_its_history in
    let drained = goes_onward kind laws asked c.drain.ensures.goes_on_with_its_history in
    goes_onward kind laws drained c.free_holder.ensures.goes_on_with_its_history
