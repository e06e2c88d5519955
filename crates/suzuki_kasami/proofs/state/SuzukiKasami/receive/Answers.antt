use Rattle.std.proofs.Common.{◌≡◌, ℕ, ◌+◌, ◌≤◌, max, eqb, [], length, get_or, false, refl, ap, ap₂, ◌∙◌, arith, rules}
use Rattle.manager.specs.Meaning.{is_idle}
use Rattle.manager.specs.declared.island.Island.{Island}
use Rattle.manager.specs.declared.status.Status.TheVariants.{Idle}
use Rattle.counting.specs.Tables.{upd2}
use Rattle.counting.proofs.Tables.{upd2_same}
use Rattle.counting.proofs.Arrays.{read_set2}
use Rattle.suzuki_rules.specs.State.{has_token}
use Rattle.suzuki_rules.specs.declared.Token.TheVariants.{At, Sent}
use Rattle.suzuki_kasami.specs.Reading.{state_of, link_of}
use Rattle.suzuki_kasami.proofs.Links.{links_received}
use Rattle.suzuki_kasami.proofs.Seeking.{sent_alike}
use Rattle.suzuki_kasami.proofs.States.{same_state}
use Rattle.suzuki_kasami.proofs.state.SuzukiKasami.receive.Goals as goal

pub returns : goal.returns
returns c =
    let m = c.args.self.now in
    let t = c.take_in.new.self in
    let a = c.args.sender in
    let b = c.args.receiver in
    let larger = max (get_or (get_or m.known b []) a 0) (get_or (get_or m.known a []) a 0) in
    let few : m.island.sites ≤ 16 = m.island.most in
    let rows : length m.known ≡ 16 = search rules in
    let flags : length m.requests ≡ 16 = search rules in
    let heard : length (get_or m.known b []) ≡ 16 = (m.wide b (omega arith)).0 in
    let links : length (get_or m.requests a []) ≡ 16 = (m.wide a (omega arith)).1 in
    let took = c.take_in.ensures.takes_the_request in
    let kept = c.take_in.ensures.keeps_the_larger_number in
    let rest = c.take_in.ensures.leaves_the_rest in
    let known : (x y : ℕ) → get_or (get_or t.known x []) y 0 ≡ upd2 (λ v w. get_or (get_or m.known v []) w 0) b a larger x y = λ x y.
    ap (λ k. get_or (get_or k x []) y 0) kept ∙ read_set2 m.known b a larger 0 (omega arith) (omega arith) x y in
    let now : get_or (get_or t.known b []) a 0 ≡ larger = known b a ∙ upd2_same (λ x y. get_or (get_or m.known x []) y 0) b a larger in
    let waits : t.served ≡ m.served → eqb (get_or (get_or t.known b []) a 0) (get_or t.served a 0 + 1) ≡ eqb larger (get_or m.served a 0 + 1) =
    ap₂ (λ k n. eqb k (get_or n a 0 + 1)) now in
    let at_place : t.token ≡ m.token → has_token (state_of t) b ≡ has_token (state_of m) b = ap (λ k. elim k [ At x ↦ eqb x b | Sent x ↦ false ]) in
    same_state _ _ record {
      sites = ap (λ (i : Island). i.sites) rest.0;
      status = λ x. ap (λ (i : Island). get_or i.status x Idle) rest.0;
      known = known;
      link = λ x y.
          ap (λ (i : Island). link_of i.sites t.requests t.known x y) rest.0
          ∙ ap₂ (λ f k. link_of m.island.sites f k x y) took kept
          ∙ links_received m.island.sites m.requests m.known a b (omega arith) (omega arith) (omega arith) (omega arith) larger refl x y;
      token =
          c.forwarded-self.ensures.sends_it_where_due
          ∙ sent_alike (Sent a) (at_place rest.1.0) (ap (λ (i : Island). is_idle (get_or i.status b Idle)) rest.0) (waits rest.1.1.0) rest.1.0;
      served = λ x. ap (λ n. get_or n x 0) rest.1.1.0;
      queue = ap (λ q. q.items) rest.1.1.1;
      age = ap (λ (i : Island). i.age + 1) rest.0;
    }
