-- An ask at an idle site keeps a state sound and does what an ask has to do.
use Rattle.std.proofs.Common.{◌≡◌, ℕ, ◌+◌, ◌-◌, ◌<◌, ◌≤◌, false, Some, refl, inl, inr, arith}
use Rattle.std.proofs.lemmas.Bool.{cases_eq, cond_both}
use Rattle.std.proofs.lemmas.Bool.Decides.{nat_tests}
use Rattle.counting.specs.Tables.{total, row}
use Rattle.counting.proofs.Sums.{upd_same, upd_other, sum_but_one}
use Rattle.counting.proofs.Tables.{total_row_change}
use Rattle.manager.specs.Effects.{Asked}
use Rattle.manager.specs.declared.status.Status.TheVariants.{Idle, Waiting, Holding}
use Rattle.suzuki_rules.specs.Invariant.{Sound, Heard}
use Rattle.suzuki_rules.specs.Reading.{meaning_of}
use Rattle.suzuki_rules.specs.Rules.{held, requested, asked, requests}
use Rattle.suzuki_rules.specs.State.{State, has_token}
use Rattle.suzuki_rules.specs.declared.Token.TheVariants.{At}
use Rattle.suzuki_rules.proofs.Hold.{held_sound}
use Rattle.suzuki_rules.proofs.Facts.{has_token_at, barred_sent, called_holds, called_kept, heard_same, known_most, requests_most}

module _ (s : State) (i : ℕ) (v : Sound s) (within : i < s.sites) (idle : s.status i ≡ Idle) where
  module _ (has : s.token ≡ At i) where
    -- While i has the token and is idle no site holds, and none is barred.
    held_asked : Asked (meaning_of s) i (meaning_of (held s i))
    held_asked = record {
      sites = refl;
      toll = refl;
      asker = inr (upd_same s.status i Holding);
      others = λ j l. upd_other s.status i Holding j;
      called = λ j l c. absurd (grind (arith, v.holder_has j l (called_holds s j c), called_holds s j c));
      barred = λ j l b. absurd (let t = barred_sent s j b in grind (arith, t.1));
      work = omega arith;
      age = refl;
    }

  module _ (lacks : has_token s i ≡ false) where
    requested_heard : (a b : ℕ) → a < s.sites → b < s.sites → (a ≡ b → ⊥) → Heard ((requested s i).link a b) ((requested s i).known a a) ((requested s i).known b a)
    requested_heard a b ha hb ne = elim (cases_eq a i) [
      | inl e ↦ heard_same (Some (s.known i i + 1)) ((requested s i).link a b) (s.known i i + 1) ((requested s i).known a a) (s.known b i) ((requested s i).known b a) (grind (arith, nat_tests)) (grind (arith, nat_tests)) (grind (arith, nat_tests)) (refl, omega (arith, known_most s i b v within hb))
      | inr k ↦ heard_same (s.link a b) ((requested s i).link a b) (s.known a a) ((requested s i).known a a) (s.known b a) ((requested s i).known b a) (grind (arith, nat_tests)) (grind (arith, nat_tests)) (grind (arith, nat_tests)) (v.heard a b ha hb ne)
    ]

    requested_sound : Sound (requested s i)
    requested_sound = record {
      fewest = v.fewest;
      most = v.most;
      at_site = v.at_site;
      sent_site = v.sent_site;
      sent_waits = λ t p. grind (arith, nat_tests, v.sent_waits t p);
      holder_has = λ j l p. grind (arith, nat_tests, v.holder_has j l);
      has_no_wait = λ t p q. grind (arith, nat_tests, v.has_no_wait t p);
      served_low = λ j l. grind (arith, nat_tests, v.served_low j l);
      served_high = λ j l. grind (arith, nat_tests, v.served_high j l, v.idle_served i within idle);
      idle_served = λ j l p. grind (arith, nat_tests, v.idle_served j l);
      waiting_unserved = λ j l p. grind (arith, nat_tests, v.waiting_unserved j l, v.idle_served i within idle);
      heard = requested_heard;
      no_loop = λ j l. grind (arith, nat_tests, v.no_loop j l);
      once = v.once;
      queue_site = v.queue_site;
      queue_waits = λ j p. grind (arith, nat_tests, v.queue_waits j p);
      queue_apart = v.queue_apart;
      idle_queue = λ t p q. grind (arith, nat_tests, v.idle_queue t p);
      idle_knows = λ t j p q l ne. grind (arith, nat_tests, v.idle_knows t j p);
      young = λ j l. grind (arith, nat_tests, v.young j l);
    }

    -- At most the REQUESTs of row i are new, and i sends none to itself.
    requested_total : total (requests (requested s i)) s.sites ≤ total (requests s) s.sites + (s.sites - 1)
    requested_total =
        let f : ℕ → ℕ → ℕ = requests s in
        let g : ℕ → ℕ → ℕ = requests (requested s i) in
        let changed : total g s.sites + row f s.sites i ≡ total f s.sites + row g s.sites i = total_row_change f g s.sites i within (λ a b ha hb ne. grind (arith, nat_tests)) in
        let small : row g s.sites i + 1 ≤ s.sites = sum_but_one (g i) s.sites i within (λ j l. requests_most (requested s i) i j) (grind (arith, nat_tests, v.no_loop i within)) in
        omega arith

    requested_asked : Asked (meaning_of s) i (meaning_of (requested s i))
    requested_asked = record {
      sites = refl;
      toll = refl;
      asker = inl (upd_same s.status i Waiting);
      others = λ j l. upd_other s.status i Waiting j;
      called = λ j l c. called_kept s (requested s i) j refl refl (grind (arith, nat_tests, called_holds s j c)) (λ k m ne w. grind (arith, nat_tests, called_holds s j c)) c;
      barred = λ j l b free. (b, λ h. let t = barred_sent s j b in grind (arith, nat_tests, t.1, v.holder_has j l));
      work = omega (arith, requested_total);
      age = refl;
    }

pub ask_lawful : (s : State) (i : ℕ) → Sound s → i < s.sites → s.status i ≡ Idle → Sound (asked s i) × Asked (meaning_of s) i (meaning_of (asked s i))
ask_lawful s i v within idle =
    cond_both (has_token s i) (held s i) (requested s i) (λ s'. Sound s' × Asked (meaning_of s) i (meaning_of s')) (λ e. let has = has_token_at s i e in (held_sound s i v within has idle, held_asked s i v within idle has)) (λ e. (requested_sound s i v within idle e, requested_asked s i v within idle e))
