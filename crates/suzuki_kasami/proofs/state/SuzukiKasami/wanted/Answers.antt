use Rattle.std.proofs.Common.{ℕ, Bool, not, ◌&&◌, eqb, rules, tests}
use Rattle.counting.proofs.Ranges.{any_in_range}
use Rattle.suzuki_rules.specs.State.{wants}
use Rattle.suzuki_kasami.specs.Reading.{state_of}
use Rattle.suzuki_kasami.proofs.state.SuzukiKasami.wanted.Goals as goal

pub returns : goal.returns
returns c =
    let m = c.args.self.now in
    let i = c.args.site in
    let test : ℕ → Bool = λ j. wants (state_of m) i j && not (eqb j i) in
    any_in_range _ test m.island.sites _ _ _ c.any.ensures.ran (λ x b q k. search (rules, tests))
