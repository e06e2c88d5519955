-- Parking leads to a sound state that is as a parked manager has to be.
use Rattle.std.proofs.Common.{◌≡◌, ℕ, ◌-◌, ◌<◌, ◌≤◌, refl, arith}
use Rattle.std.proofs.lemmas.Bool.Decides.{nat_tests}
use Rattle.counting.specs.Sizes.{fitted}
use Rattle.counting.specs.Tables.{total}
use Rattle.counting.proofs.Sums.{upd_same, upd_other}
use Rattle.counting.proofs.Tables.{total_zero}
use Rattle.manager.specs.Effects.{Parked}
use Rattle.manager.specs.declared.status.Status.TheVariants.{Idle, Holding}
use Rattle.ricart_rules.specs.Invariant.{Sound}
use Rattle.ricart_rules.specs.Reading.{meaning_of}
use Rattle.ricart_rules.specs.Rules.{fresh, made, parked, requests, replies}
use Rattle.ricart_rules.specs.State.{State}
use Rattle.ricart_rules.proofs.Facts.{held_unbarred, messages_total}

module _ (n g : ℕ) (low : 2 ≤ n) (high : n ≤ 16) (within : g < n) where
  pub fresh_sound : Sound (fresh n g)
  fresh_sound = record {
    fewest = low;
    most = high;
    idle_unasked = λ i j hi hj p. grind (arith, nat_tests);
    busy_asked = λ i j hi hj ne p. grind (arith, nat_tests);
    no_loop = λ i hi. grind (arith, nat_tests);
    answered_earlier = λ i j hi hj p q. grind (arith, nat_tests);
    answered_first = λ i j hi hj p q. grind (arith, nat_tests);
    deferred_waits = λ i j hi hj p. grind (arith, nat_tests);
    deferred_by = λ i j hi hj p. absurd (grind (arith, nat_tests));
    heard = λ i j hi hj p. omega arith;
    holder_has = λ i j hi hj ne p. grind (arith, nat_tests);
    waiting_lacks = λ i hi p. absurd (grind (arith, nat_tests));
    young = λ i hi p. omega arith;
    young_highest = λ i hi. omega arith;
  }

  pub fresh_no_requests : total (requests (fresh n g)) n ≡ 0
  fresh_no_requests = total_zero (requests (fresh n g)) n (λ a b ha hb. grind (arith, nat_tests))

  pub fresh_no_replies : total (replies (fresh n g)) n ≡ 0
  fresh_no_replies = total_zero (replies (fresh n g)) n (λ a b ha hb. grind (arith, nat_tests))

pub made_sound : (n : ℕ) → Sound (made n)
made_sound n = fresh_sound (fitted n) (fitted n - 1) (omega arith) (omega arith) (omega arith)

pub park_lawful : (s : State) (g : ℕ) → 2 ≤ s.sites → s.sites ≤ 16 → g < s.sites → Sound (parked s g) × Parked (meaning_of s) g (meaning_of (parked s g))
park_lawful s g low high within =
    let no_requests = fresh_no_requests s.sites g low high within in
    let no_replies = fresh_no_replies s.sites g low high within in
    let holds = upd_same (λ i. Idle) g Holding in (
      fresh_sound s.sites g low high within,
      record {
        sites = refl;
        toll = refl;
        holds = holds;
        others = λ j l. upd_other (λ i. Idle) g Holding j;
        quiet = omega (arith, messages_total (parked s g) s.sites);
        unbarred = λ j l. held_unbarred (parked s g) j g within holds;
        work = omega arith;
        age = refl;
      },
    )
