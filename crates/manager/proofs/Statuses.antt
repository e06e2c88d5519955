-- What the tests of a status say of it.
use Rattle.std.proofs.Common.{◌≡◌, true, refl}
use Rattle.manager.specs.Meaning.{is_holding}
use Rattle.manager.specs.declared.status.Status.{Status}
use Rattle.manager.specs.declared.status.Status.TheVariants.{Idle, Waiting, Holding}

pub holds_of : (x : Status) → is_holding x ≡ true → x ≡ Holding
holds_of Idle e = cc
holds_of Waiting e = cc
holds_of Holding e = refl
