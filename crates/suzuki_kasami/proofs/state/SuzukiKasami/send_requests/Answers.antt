use Rattle.std.proofs.Common.{◌≡◌, ℕ, ◌+◌, ◌<◌, ◌≤◌, false, cond, not, ◌&&◌, eqb, ltb, [], length, get_or, Some, refl, ap, ◌∙◌, arith, rules}
use Rattle.manager.specs.declared.status.Status.TheVariants.{Idle, Waiting}
use Rattle.counting.specs.Tables.{upd2}
use Rattle.counting.proofs.Arrays.{read_flat, read_set, read_set2}
use Rattle.suzuki_kasami.specs.Reading.{link_of}
use Rattle.suzuki_kasami.proofs.Links.{links_sent}
use Rattle.suzuki_kasami.proofs.Sending.{others_alone}
use Rattle.suzuki_kasami.proofs.States.{same_state}
use Rattle.suzuki_kasami.proofs.state.SuzukiKasami.send_requests.Goals as goal

pub returns : goal.returns
returns c sound =
    let m = c.args.self.now in
    let i = c.args.site in
    let n = m.island.sites in
    let own = get_or (get_or m.known i []) i 0 in
    let fewer : m.island.sites ≤ 16 = m.island.most in
    let within : i < 16 = omega arith in
    let statuses : length m.island.status ≡ 16 = search rules in
    let rows : length m.known ≡ 16 = search rules in
    let flags : length m.requests ≡ 16 = search rules in
    let wide : length (get_or m.known i []) ≡ 16 = (m.wide i within).0 in
    let low : own ≤ m.island.age = sound.young i (omega arith) in
    let next : c.saturating_add.result ≡ own + 1 = omega (arith, c.saturating_add.ensures) in
    let others : (j : ℕ) → get_or c.with_others.result j false ≡ (ltb j n && not (eqb j i)) = λ j.
    others_alone (ltb j n && not (eqb j i)) _ _ (c.with_others.ensures.changes_the_others_alone j false) (read_flat 16 false j) in
    same_state _ _ record {
      sites = refl;
      status = read_set m.island.status i Waiting Idle (omega arith);
      known = λ a b.
          read_set2 m.known i i c.saturating_add.result 0 (omega arith) (omega arith) a b
          ∙ ap (λ v. upd2 (λ x y. get_or (get_or m.known x []) y 0) i i v a b) next;
      link = λ a b.
          links_sent n m.requests m.known i (omega arith) (omega arith) (omega arith) c.with_others.result c.saturating_add.result others
          (sound.no_loop i (omega arith)) a b
          ∙ ap (λ v. cond (eqb a i && (ltb b n && not (eqb b i))) (Some v) (link_of n m.requests m.known a b)) next;
      token = refl;
      served = λ j. refl;
      queue = refl;
      age = refl;
    }
