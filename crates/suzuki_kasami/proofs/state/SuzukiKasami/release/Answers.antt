use Rattle.std.proofs.Common.{◌≡◌, ◌<◌, ◌≤◌, [], length, get_or, refl, ap, ◌∙◌, arith, rules, subst, sym}
use Rattle.manager.specs.declared.status.Status.TheVariants.{Idle}
use Rattle.counting.proofs.Arrays.{read_reset, read_set}
use Rattle.suzuki_rules.specs.Rules.{order, searched, token_after, rest}
use Rattle.suzuki_rules.proofs.Search.{order_visits, visits_site}
use Rattle.suzuki_kasami.specs.Places.{place}
use Rattle.suzuki_kasami.specs.Reading.{state_of}
use Rattle.suzuki_kasami.specs.Waiting.{AllBelow, gathered}
use Rattle.suzuki_kasami.proofs.Gathering.{gathered_sound, gathered_site, passed_place, rest_site}
use Rattle.suzuki_kasami.proofs.Seeking.{passed_to, popped}
use Rattle.suzuki_kasami.proofs.States.{same_state}
use Rattle.suzuki_kasami.proofs.state.SuzukiKasami.release.Goals as goal

pub invariant_of-self-2 : goal.invariant_of-self-2
invariant_of-self-2 c =
    let m = c.args.self.now in
    let i = c.args.site in
    let n = m.island.sites in
    let few : n ≤ 16 = m.island.most in
    let found = c.search.new.queue.items in
    let is : found ≡ gathered (state_of m) i m.queue.items (order i n) = cc in
    let sent : c.passed_to-self.result ≡ token_after found m.token = cc (passed_to found m.token) in
    let others : AllBelow (order i n) 16 = λ x p. omega (arith, visits_site (order i n) n i (order_visits i n (omega arith)) x p) in
    let near : AllBelow found 16 = subst (λ q. AllBelow q 16) (sym is) (gathered_site (state_of m) i 16 m.queue.items (order i n) m.within others) in
    let left = popped c.search.new.queue c.pop_at.new.self c.pop_at.result c.pop_at.ensures.value c.pop_at.ensures.items c.pop_at.ensures.absent in
    record {
      wide = m.wide;
      placed = subst (λ t. place t < 16) (sym sent) (passed_place m.token found m.placed near);
      within = subst (λ q. AllBelow q 16) (sym left) (rest_site found near);
    }

pub returns : goal.returns
returns c sound =
    let m = c.args.self.now in
    let s = state_of m in
    let i = c.args.site in
    let found = c.search.new.queue.items in
    let numbers : length m.served ≡ 16 = search rules in
    let few : m.island.sites ≤ 16 = m.island.most in
    let all : found ≡ searched s i s.queue (order i m.island.sites) = cc (gathered_sound s i sound (omega arith)) in
    let sent : c.passed_to-self.result ≡ token_after found m.token = cc (passed_to found m.token) in
    same_state _ _ record {
      sites = refl;
      status = read_reset m.island.status i Idle;
      known = λ a b. refl;
      link = λ a b. refl;
      token = sent ∙ ap (λ q. token_after q m.token) all;
      served = read_set m.served i (get_or (get_or m.known i []) i 0) 0 (omega arith);
      queue = popped c.search.new.queue c.pop_at.new.self c.pop_at.result c.pop_at.ensures.value c.pop_at.ensures.items c.pop_at.ensures.absent ∙ ap rest all;
      age = refl;
    }
