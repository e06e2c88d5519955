use Rattle.std.proofs.Common.{◌≡◌, sym, subst, rules}
use Rattle.ricart_rules.specs.Invariant.{Sound}
use Rattle.ricart_rules.specs.Rules.{made}
use Rattle.ricart_rules.proofs.Park.{made_sound}
use Rattle.ricart_agrawala.specs.Reading.{state_of}
use Rattle.ricart_agrawala.proofs.state.RicartAgrawala.new.Goals as goal

pub returns-clause-sound : goal.returns-clause-sound
returns-clause-sound c =
    let state : state_of c.parked.result ≡ made c.args.sites = search rules in
    subst Sound (sym state) (made_sound c.args.sites)
