use Rattle.std.proofs.Common.{◌≡◌, ◌+◌, ◌≤◌, length, refl, arith, rules}
use Rattle.manager.specs.declared.status.Status.TheVariants.{Idle, Waiting}
use Rattle.counting.proofs.Arrays.{read_set}
use Rattle.ricart_rules.specs.declared.Stage.TheVariants.{Unasked, Requested}
use Rattle.ricart_agrawala.specs.Reading.{first_clock, state_of}
use Rattle.ricart_agrawala.specs.declared.state.Clock.{Clock}
use Rattle.ricart_agrawala.proofs.Clocks.{written_field, kept_field}
use Rattle.ricart_agrawala.proofs.Rows.{others_written}
use Rattle.ricart_agrawala.proofs.States.{same_state}
use Rattle.ricart_agrawala.proofs.state.RicartAgrawala.request.Goals as goal

pub returns-clause-state : goal.returns-clause-state
returns-clause-state c sound =
    let m = c.args.self.now in
    let s = state_of m in
    let i = c.args.site in
    let fewer : m.island.sites ≤ 16 = m.island.most in
    let statuses : length m.island.status ≡ 16 = search rules in
    let clocks : length m.clocks ≡ 16 = search rules in
    let rows : length m.stages ≡ 16 = search rules in
    let low : s.highest i ≤ s.age + 1 = sound.young_highest i (omega arith) in
    let next : c.next_number.result ≡ s.highest i + 1 = omega (arith, c.next_number.ensures) in
    same_state _ _ record {
      sites = refl;
      status = read_set m.island.status i Waiting Idle (omega arith);
      highest = kept_field (λ (t : Clock). t.highest) m.clocks i _ first_clock (omega arith) _ refl;
      number = written_field (λ (t : Clock). t.number) m.clocks i _ first_clock (omega arith) _ next;
      stage = others_written m.stages m.island.sites i Requested c.with_others.result (omega arith)
          (λ j. c.with_others.ensures.changes_the_others_alone j Unasked);
      age = refl;
    }
