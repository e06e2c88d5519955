use Rattle.std.proofs.Common.{◌≡◌, true, ◌&&◌, get_or, sym, ap, ◌∙◌}
use Rattle.std.proofs.lemmas.Bool.{cond-true, cond-false, and_from, and_left, and_right}
use Rattle.manager.specs.Meaning.{is_idle}
use Rattle.manager.specs.declared.status.Status.TheVariants.{Idle}
use Rattle.suzuki_rules.specs.State.{has_token, wants}
use Rattle.suzuki_rules.specs.declared.Token.TheVariants.{Sent}
use Rattle.suzuki_kasami.specs.Reading.{state_of}
use Rattle.suzuki_kasami.proofs.state.SuzukiKasami.forwarded.Goals as goal
use Rattle.suzuki_kasami.proofs.state.SuzukiKasami.forwarded.Goals.{else-has_token-via-then-has_token+then-is_idle+else-wants}
use Rattle.suzuki_kasami.proofs.state.SuzukiKasami.forwarded.Goals.{else-has_token-via-then-has_token+else-is_idle, else-has_token-via-else-has_token}

pub returns-then-wants : goal.returns-then-wants
returns-then-wants c =
    let m = c.args.self.now in
    let has = has_token (state_of m) c.args.site in
    let idle = is_idle (get_or m.island.status c.args.site Idle) in
    let waits = wants (state_of m) c.args.site c.args.other in
    let due : (has && (idle && waits)) ≡ true = and_from has (idle && waits) (cc) (and_from idle waits (cc) (cc)) in
    record { sends_it_where_due = sym (cond-true (has && (idle && waits)) (Sent c.args.other) m.token due) }

pub returns-else-has_token : goal.returns-else-has_token
returns-else-has_token c =
    let m = c.args.self.now in
    let has = has_token (state_of m) c.args.site in
    let idle = is_idle (get_or m.island.status c.args.site Idle) in
    let waits = wants (state_of m) c.args.site c.args.other in
    record {
      sends_it_where_due = sym (cond-false (has && (idle && waits)) (Sent c.args.other) m.token (elim c.else-has_token.branch [
        | else-has_token-via-then-has_token+then-is_idle+else-wants w ↦ and_right has (idle && waits) (and_right idle waits (sym w.if-wants.ensures))
        | else-has_token-via-then-has_token+else-is_idle w ↦
            and_right has (idle && waits) (and_left idle waits (sym (w.if-is_idle.ensures ∙ ap is_idle w.status_of.ensures.tells_the_status)))
        | else-has_token-via-else-has_token w ↦ and_left has (idle && waits) (sym w.if-has_token.ensures)
      ]));
    }
