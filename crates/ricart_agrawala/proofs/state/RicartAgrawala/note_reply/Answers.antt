use Rattle.std.proofs.Common.{◌≡◌, [], length, get_or, refl, arith, rules}
use Rattle.counting.proofs.Arrays.{read_set2}
use Rattle.ricart_rules.specs.declared.Stage.TheVariants.{Unasked, Received}
use Rattle.ricart_agrawala.proofs.States.{same_state}
use Rattle.ricart_agrawala.proofs.state.RicartAgrawala.note_reply.Goals as goal

pub returns : goal.returns
returns c =
    let m = c.args.self.now in
    let a = c.args.sender in
    let b = c.args.receiver in
    let rows : length m.stages ≡ 16 = search rules in
    let wide : length (get_or m.stages b []) ≡ 16 = m.wide b (omega arith) in
    same_state _ _ record {
      sites = refl;
      status = λ i. refl;
      highest = λ i. refl;
      number = λ i. refl;
      stage = read_set2 m.stages b a Received Unasked (omega arith) (omega arith);
      age = refl;
    }
