-- A site that comes to hold with the token keeps a state sound, whether the token came to it or was there.
use Rattle.std.proofs.Common.{◌≡◌, ℕ, ◌<◌, subst, arith}
use Rattle.std.proofs.lemmas.Bool.Decides.{nat_tests}
use Rattle.counting.specs.Sums.{times}
use Rattle.manager.specs.declared.status.Status.TheVariants.{Idle, Holding}
use Rattle.suzuki_rules.specs.Invariant.{Sound}
use Rattle.suzuki_rules.specs.Rules.{held, arrived}
use Rattle.suzuki_rules.specs.State.{State}
use Rattle.suzuki_rules.specs.declared.Token.TheVariants.{At, Sent}

module _ (s : State) (t : ℕ) (v : Sound s) (within : t < s.sites) where
  holding_sound : ((j : ℕ) → j < s.sites → s.status j ≡ Holding → ⊥) → (0 < times s.queue t → ⊥) → Sound (arrived s t)
  holding_sound none lacks = record {
    fewest = v.fewest;
    most = v.most;
    at_site = λ u p. grind arith;
    sent_site = λ u p. grind arith;
    sent_waits = λ u p. grind arith;
    holder_has = λ j l p. grind (arith, nat_tests, none j l);
    has_no_wait = λ u p q. grind (arith, nat_tests);
    served_low = v.served_low;
    served_high = v.served_high;
    idle_served = λ j l p. grind (arith, nat_tests, v.idle_served j l);
    waiting_unserved = λ j l p. grind (arith, nat_tests, v.waiting_unserved j l);
    heard = v.heard;
    no_loop = v.no_loop;
    once = v.once;
    queue_site = v.queue_site;
    queue_waits = λ j p. grind (arith, nat_tests, v.queue_waits j p);
    queue_apart = λ j p q. grind arith;
    idle_queue = λ u p q. grind (arith, nat_tests);
    idle_knows = λ u j p q. grind (arith, nat_tests);
    young = λ j l. omega (arith, v.young j l);
  }

  pub arrived_sound : s.token ≡ Sent t → Sound (arrived s t)
  arrived_sound sent =
      holding_sound (λ j l h. grind (arith, v.holder_has j l h)) (λ p. v.queue_apart t p sent)

  pub held_sound : s.token ≡ At t → s.status t ≡ Idle → Sound (held s t)
  held_sound has idle =
      let same : arrived s t ≡ held s t = cc in
      subst Sound same (holding_sound (λ j l h. grind (arith, v.holder_has j l h)) (λ p. grind (arith, v.queue_waits t p)))
