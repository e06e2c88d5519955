use Rattle.std.proofs.Common.{◌≡◌, ◌+◌, cond, eqb, [], length, get_or, replicate, sym, ap, ◌∙◌, arith, rules}
use Rattle.std.proofs.lemmas.List.{get_or_past}
use Rattle.counting.specs.Sums.{upd}
use Rattle.counting.proofs.Arrays.{read_flat, read_row, read_reset}
use Rattle.manager.specs.declared.status.Status.TheVariants.{Idle}
use Rattle.ricart_rules.specs.State.{State}
use Rattle.ricart_rules.specs.declared.Stage.TheVariants.{Unasked}
use Rattle.ricart_agrawala.specs.Reading.{state_of}
use Rattle.ricart_agrawala.proofs.Answering.{answered_all}
use Rattle.ricart_agrawala.proofs.States.{same_state}
use Rattle.ricart_agrawala.proofs.state.RicartAgrawala.release.Goals as goal

pub returns : goal.returns
returns c =
    let m = c.answer_deferred.new.self in
    let s = state_of c.args.self.now in
    let i = c.args.site in
    let e = c.answer_deferred.ensures in
    let rows : length m.stages ≡ 16 = search rules in
    same_state _ _ record {
      sites = ap (λ (t : State). t.sites) e;
      status = λ x. read_reset m.island.status i Idle x ∙ ap (λ (t : State). upd t.status i Idle x) e;
      highest = λ x. ap (λ (t : State). t.highest x) e;
      number = λ x. ap (λ (t : State). t.number x) e;
      stage = λ a b.
          read_row m.stages i (replicate 16 Unasked) Unasked (omega arith) a b
          ∙ ap (λ y. cond (eqb a i) y ((state_of m).stage a b)) (read_flat 16 Unasked b)
          ∙ ap (cond (eqb a i) Unasked) (ap (λ (t : State). t.stage a b) e ∙ answered_all s i a b (λ h. sym (ap (λ (t : State). t.stage a b) e) ∙ ap (λ xs. get_or xs b Unasked) (get_or_past m.stages a [] (omega arith))));
      age = ap (λ (t : State). t.age + 1) e;
    }
