-- Parking leads to a sound state that is as a parked manager has to be.
use Rattle.std.proofs.Common.{◌≡◌, ℕ, ◌-◌, ◌<◌, ◌≤◌, refl, arith}
use Rattle.std.proofs.lemmas.Bool.Decides.{nat_tests}
use Rattle.counting.proofs.Sums.{upd_same, upd_other, sum_zero}
use Rattle.counting.specs.Sizes.{fitted}
use Rattle.counting.specs.Tables.{total, row}
use Rattle.manager.specs.Effects.{Parked}
use Rattle.manager.specs.declared.status.Status.TheVariants.{Idle, Holding}
use Rattle.suzuki_rules.specs.Invariant.{Sound}
use Rattle.suzuki_rules.specs.Reading.{meaning_of}
use Rattle.suzuki_rules.specs.Rules.{fresh, made, parked, requests}
use Rattle.suzuki_rules.specs.State.{State}

module _ (n g : ℕ) (low : 2 ≤ n) (high : n ≤ 16) (within : g < n) where
  pub fresh_sound : Sound (fresh n g)
  fresh_sound = record {
    fewest = low;
    most = high;
    at_site = λ t p. grind arith;
    sent_site = λ t p. grind arith;
    sent_waits = λ t p. grind arith;
    holder_has = λ i l p. grind (arith, nat_tests);
    has_no_wait = λ t p q. grind (arith, nat_tests);
    served_low = λ i l. omega arith;
    served_high = λ i l. omega arith;
    idle_served = λ i l p. refl;
    waiting_unserved = λ i l p. grind (arith, nat_tests);
    heard = λ i j hi hj ne. refl;
    no_loop = λ i l. refl;
    once = λ j. omega arith;
    queue_site = λ j p. absurd (omega arith);
    queue_waits = λ j p. absurd (omega arith);
    queue_apart = λ j p q. omega arith;
    idle_queue = λ t p q. refl;
    idle_knows = λ t i p q l ne. omega arith;
    young = λ i l. omega arith;
  }

  pub fresh_quiet : total (requests (fresh n g)) n ≡ 0
  fresh_quiet = sum_zero (row (requests (fresh n g)) n) n (λ i l. sum_zero (requests (fresh n g) i) n (λ j k. refl))

pub made_sound : (n : ℕ) → Sound (made n)
made_sound n = fresh_sound (fitted n) (fitted n - 1) (omega arith) (omega arith) (omega arith)

pub park_lawful : (s : State) (g : ℕ) → 2 ≤ s.sites → s.sites ≤ 16 → g < s.sites → Sound (parked s g) × Parked (meaning_of s) g (meaning_of (parked s g))
park_lawful s g low high within = (
  fresh_sound s.sites g low high within,
  record {
    sites = refl;
    toll = refl;
    holds = upd_same (λ i. Idle) g Holding;
    others = λ j l. upd_other (λ i. Idle) g Holding j;
    quiet = omega (arith, fresh_quiet s.sites g low high within);
    unbarred = λ j l. refl;
    work = omega (arith, fresh_quiet s.sites g low high within);
    age = refl;
  },
)
