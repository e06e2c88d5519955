use Rattle.std.proofs.Common.{ℕ, Bool, not, ◌&&◌, eqb, rules, tests}
use Rattle.ricart_rules.specs.State.{is_received}
use Rattle.ricart_agrawala.specs.Reading.{state_of}
use Rattle.counting.proofs.Ranges.{any_in_range}
use Rattle.ricart_agrawala.proofs.state.RicartAgrawala.lacks_reply.Goals as goal

pub returns : goal.returns
returns c =
    let m = c.args.self.now in
    let i = c.args.site in
    let test : ℕ → Bool = λ j. not (eqb j i) && not (is_received ((state_of m).stage i j)) in
    any_in_range _ test m.island.sites _ _ _ c.any.ensures.ran (λ x b q k. search (rules, tests))
