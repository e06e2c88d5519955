use Rattle.std.proofs.Common.{sym, ap, ◌∙◌}
use Rattle.std.proofs.lemmas.Bool.{cond-true, cond-false}
use Rattle.manager.specs.declared.status.Status.TheVariants.{Waiting, Holding}
use Rattle.counting.proofs.Sums.{upd_same}
use Rattle.suzuki_rules.specs.Rules.{held, requested}
use Rattle.suzuki_rules.specs.State.{State, has_token}
use Rattle.suzuki_kasami.specs.Reading.{state_of}
use Rattle.suzuki_kasami.proofs.state.SuzukiKasami.request.Goals as goal

pub returns-then-has_token : goal.returns-then-has_token
returns-then-has_token c =
    let s = state_of c.args.self.now in
    let i = c.args.site in
    record {
      state = λ sound. c.hold.ensures ∙ sym (cond-true (has_token s i) (held s i) (requested s i) (sym c.if-has_token.ensures));
      status = λ sound. sym (ap (λ (t : State). t.status i) c.hold.ensures ∙ upd_same s.status i Holding);
    }

pub returns-else-has_token : goal.returns-else-has_token
returns-else-has_token c =
    let s = state_of c.args.self.now in
    let i = c.args.site in
    record {
      state = λ sound. c.send_requests.ensures sound ∙ sym (cond-false (has_token s i) (held s i) (requested s i) (sym c.if-has_token.ensures));
      status = λ sound. sym (ap (λ (t : State). t.status i) (c.send_requests.ensures sound) ∙ upd_same s.status i Waiting);
    }
