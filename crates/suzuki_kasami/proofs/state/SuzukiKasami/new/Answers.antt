use Rattle.std.proofs.Common.{sym, subst, arith}
use Rattle.suzuki_rules.specs.Invariant.{Sound}
use Rattle.suzuki_rules.proofs.Park.{fresh_sound}
use Rattle.suzuki_kasami.proofs.state.SuzukiKasami.new.Goals as goal

pub returns-clause-sound : goal.returns-clause-sound
returns-clause-sound c = subst Sound (sym c.parked.ensures) (fresh_sound _ _ (omega arith) (omega arith) (omega arith))
