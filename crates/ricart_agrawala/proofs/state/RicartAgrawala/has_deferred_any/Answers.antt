use Rattle.std.proofs.Common.{ℕ, Bool, rules, tests}
use Rattle.ricart_rules.specs.State.{is_deferred}
use Rattle.ricart_agrawala.specs.Reading.{state_of}
use Rattle.counting.proofs.Ranges.{any_in_range}
use Rattle.ricart_agrawala.proofs.state.RicartAgrawala.has_deferred_any.Goals as goal

pub returns : goal.returns
returns c =
    let m = c.args.self.now in
    let test : ℕ → Bool = λ j. is_deferred ((state_of m).stage j c.args.site) in
    any_in_range _ test m.island.sites _ _ _ c.any.ensures.ran (λ x b q k. search (rules, tests))
