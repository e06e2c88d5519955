use Rattle.std.proofs.Common.{false, ltb, refl, arith}
use Rattle.manager.specs.declared.status.Status.TheVariants.{Idle, Holding}
use Rattle.counting.proofs.Arrays.{read_flat, read_flat2, read_set_flat}
use Rattle.suzuki_kasami.proofs.States.{same_state}
use Rattle.suzuki_kasami.proofs.Sending.{no_link}
use Rattle.suzuki_kasami.proofs.state.SuzukiKasami.parked.Goals as goal

pub returns : goal.returns
returns c = same_state _ _ record {
  sites = omega arith;
  status = λ i. cc (read_set_flat 16 Idle Holding c.args.site (omega arith) i);
  known = read_flat2 16 16 0;
  link = λ i j. no_link (ltb j c.parked.result.sites) _ _ (read_flat2 16 16 false i j);
  token = refl;
  served = read_flat 16 0;
  queue = c.new.ensures;
  age = c.parked.ensures.has_carried_out_nothing;
}
