use Rattle.std.proofs.Common.{◌≡◌, ℕ, [], cond, not, ◌&&◌, eqb, ltb, length, get_or, replicate, ap, ◌∙◌, arith, rules}
use Rattle.counting.proofs.Arrays.{read_flat, read_flat2, read_set_flat, wide_flat, wide_set}
use Rattle.manager.specs.declared.status.Status.TheVariants.{Idle, Holding}
use Rattle.ricart_rules.specs.declared.Stage.TheVariants.{Unasked, Received}
use Rattle.ricart_agrawala.specs.Reading.{first_clock}
use Rattle.ricart_agrawala.specs.declared.state.Clock.{Clock}
use Rattle.ricart_agrawala.proofs.Rows.{others_written}
use Rattle.ricart_agrawala.proofs.States.{same_state}
use Rattle.ricart_agrawala.proofs.state.RicartAgrawala.parked.Goals as goal

pub invariant_of-result : goal.invariant_of-result
invariant_of-result c =
    let t = replicate 16 (replicate 16 Unasked) in
    let row : length c.with_others.result ≡ 16 = search rules in
    record { wide = λ a h. wide_set t c.args.site c.with_others.result 16 (omega arith) row a (wide_flat 16 16 Unasked a h) }

pub returns : goal.returns
returns c =
    let n = c.args.sites in
    let i = c.args.site in
    let t = replicate 16 (replicate 16 Unasked) in
    let all : c.parked-island.result.sites ≡ n = c.parked-island.ensures.has_as_many_sites_as_fit ∙ omega arith in
    let others : (j : ℕ) → get_or c.with_others.result j Unasked ≡ cond (ltb j n && not (eqb j i)) Received (get_or (get_or t i []) j Unasked) =
    λ j. c.with_others.ensures.changes_the_others_alone j Unasked ∙ ap (λ k. cond (ltb j k && not (eqb j i)) Received (get_or (get_or t i []) j Unasked)) all in
    same_state _ _ record {
      sites = all;
      status = λ k. ap (λ xs. get_or xs k Idle) c.parked-island.ensures.its_place_alone_holds ∙ read_set_flat 16 Idle Holding i (omega arith) k;
      highest = λ k. ap (λ (t : Clock). t.highest) (read_flat 16 first_clock k);
      number = λ k. ap (λ (t : Clock). t.number) (read_flat 16 first_clock k);
      stage = λ a b.
          others_written t n i Received c.with_others.result (omega arith) others a b
          ∙ ap (cond (eqb a i && (ltb b n && not (eqb b i))) Received) (read_flat2 16 16 Unasked a b);
      age = c.parked-island.ensures.has_carried_out_nothing;
    }
