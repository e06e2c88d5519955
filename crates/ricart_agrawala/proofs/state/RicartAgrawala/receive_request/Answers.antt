use Rattle.std.proofs.Common.{◌≡◌, [], length, get_or, refl, ap, ◌∙◌, arith, rules}
use Rattle.counting.specs.Tables.{upd2}
use Rattle.counting.proofs.Arrays.{read_set2}
use Rattle.ricart_rules.specs.declared.Stage.TheVariants.{Unasked}
use Rattle.ricart_agrawala.specs.Reading.{first_clock, state_of}
use Rattle.ricart_agrawala.specs.declared.state.Clock.{Clock}
use Rattle.ricart_agrawala.proofs.Clocks.{written_field, kept_field}
use Rattle.ricart_agrawala.proofs.States.{same_state}
use Rattle.ricart_agrawala.proofs.state.RicartAgrawala.receive_request.Goals as goal

pub returns : goal.returns
returns c =
    let m = c.args.self.now in
    let a = c.args.sender in
    let b = c.args.receiver in
    let rows : length m.stages ≡ 16 = search rules in
    let clocks : length m.clocks ≡ 16 = search rules in
    let wide : length (get_or m.stages a []) ≡ 16 = m.wide a (omega arith) in
    same_state _ _ record {
      sites = refl;
      status = λ i. refl;
      highest = written_field (λ (t : Clock). t.highest) m.clocks b _ first_clock (omega arith) _ c.raised.ensures;
      number = kept_field (λ (t : Clock). t.number) m.clocks b _ first_clock (omega arith) _ refl;
      stage = λ x y.
          read_set2 m.stages a b c.answer_to.result Unasked (omega arith) (omega arith) x y
          ∙ ap (λ v. upd2 (state_of m).stage a b v x y) c.answer_to.ensures;
      age = refl;
    }
