use Rattle.std.proofs.Common.{refl}
use Rattle.tie.proofs.Answering.{accepted, done_call}
use Rattle.tie.proofs.calls.TieManager.park.Goals as goal

pub returns : goal.returns
returns g c = done_call _ _ _ _ _ _ (accepted _ _ _ c.in_ok-named.ensures) refl c.begin_at.ensures
