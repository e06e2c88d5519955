-- A step, the coming of a REQUEST or of the token, keeps a state sound and does what a step has to do.
use Rattle.std.proofs.Common.{◌≡◌, ℕ, ◌+◌, ◌<◌, ◌≤◌, max, Bool, true, false, ◌&&◌, eqb, Some, None, Option, refl, inl, inr, arith}
use Rattle.std.proofs.lemmas.Bool.{cases_Bool, cond_both}
use Rattle.std.proofs.lemmas.Bool.Decides.{nat_tests}
use Rattle.counting.specs.Tables.{total}
use Rattle.counting.proofs.Sums.{upd_same, upd_other}
use Rattle.counting.proofs.Tables.{total_change}
use Rattle.manager.specs.Effects.{Stepped}
use Rattle.manager.specs.Meaning.{is_idle}
use Rattle.manager.specs.declared.status.Status.TheVariants.{Idle, Waiting, Holding}
use Rattle.suzuki_rules.specs.Invariant.{Sound, Heard}
use Rattle.suzuki_rules.specs.Reading.{meaning_of, tokens_sent}
use Rattle.suzuki_rules.specs.Rules.{received, arrived, requests, Delivered, request_comes, token_comes}
use Rattle.suzuki_rules.specs.State.{State, has_token}
use Rattle.suzuki_rules.specs.declared.Token.TheVariants.{At, Sent}
use Rattle.suzuki_rules.proofs.Hold.{arrived_sound}
use Rattle.suzuki_rules.proofs.Facts.{barred_sent, called_holds, called_kept, heard_same, unserved_waits}

-- Does b, told by a REQUEST with number m that a waits, send it the token?
abbrev sends : State → (a b m : ℕ) → Bool
sends s a b m = has_token s b && (is_idle (s.status b) && eqb (max (s.known b a) m) (s.served a + 1))

module _ (s : State) (v : Sound s) (a b m : ℕ) (ha : a < s.sites) (hb : b < s.sites) (sent : s.link a b ≡ Some m) where
  apart : a ≡ b → ⊥
  apart e = grind (arith, v.no_loop a ha)

  carried : (m ≡ s.known a a) × (s.known b a < s.known a a)
  carried = rw sent at (v.heard a b ha hb apart)

  at_before : (t : ℕ) → (received s a b m).token ≡ At t → (s.token ≡ At t) × (sends s a b m ≡ false)
  at_before t p = cond_both (sends s a b m) (Sent a) s.token (λ x. x ≡ At t → (s.token ≡ At t) × (sends s a b m ≡ false)) (λ e q. absurd (grind arith)) (λ e q. (q, e)) p

  -- The token is sent only from an idle site, to one that waits, with an empty queue.
  sender_has : sends s a b m ≡ true → s.token ≡ At b
  sender_has h = grind (arith, nat_tests)

  sender_idle : sends s a b m ≡ true → s.status b ≡ Idle
  sender_idle h = grind (arith, nat_tests)

  receiver_waits : sends s a b m ≡ true → s.status a ≡ Waiting
  receiver_waits h = unserved_waits s b a v (sender_has h) ha apart (grind (arith, nat_tests, carried))

  received_heard : (i j : ℕ) → i < s.sites → j < s.sites → (i ≡ j → ⊥) → Heard ((received s a b m).link i j) ((received s a b m).known i i) ((received s a b m).known j i)
  received_heard i j hi hj ne = elim (cases_Bool (eqb i a && eqb j b)) [
    | inl e ↦ heard_same None ((received s a b m).link i j) (s.known a a) ((received s a b m).known i i) (s.known a a) ((received s a b m).known j i) (grind arith) (grind (arith, nat_tests, apart)) (grind (arith, nat_tests, carried)) refl
    | inr e ↦ heard_same (s.link i j) ((received s a b m).link i j) (s.known i i) ((received s a b m).known i i) (s.known j i) ((received s a b m).known j i) (grind arith) (grind (arith, nat_tests, apart)) (grind (arith, nat_tests)) (v.heard i j hi hj ne)
  ]

  received_sound : Sound (received s a b m)
  received_sound = record {
    fewest = v.fewest;
    most = v.most;
    at_site = λ t p. v.at_site t (at_before t p).0;
    sent_site = λ t p. grind (arith, v.sent_site t);
    sent_waits = λ t p. grind (arith, v.sent_waits t, receiver_waits);
    holder_has = λ j l p. grind (arith, v.holder_has j l p, sender_has, sender_idle);
    has_no_wait = λ t p. v.has_no_wait t (at_before t p).0;
    served_low = λ j l. grind (arith, nat_tests, v.served_low j l, apart);
    served_high = λ j l. grind (arith, nat_tests, v.served_high j l, apart);
    idle_served = λ j l p. grind (arith, nat_tests, v.idle_served j l p, apart);
    waiting_unserved = λ j l p. grind (arith, nat_tests, v.waiting_unserved j l p, apart);
    heard = received_heard;
    no_loop = λ j l. grind (arith, nat_tests, v.no_loop j l);
    once = v.once;
    queue_site = v.queue_site;
    queue_waits = v.queue_waits;
    queue_apart = λ j p q. grind (arith, nat_tests, v.queue_apart j p, v.idle_queue b, sender_has, sender_idle);
    idle_queue = λ t p. v.idle_queue t (at_before t p).0;
    idle_knows = λ t j p q l ne. grind (arith, nat_tests, at_before t p, v.idle_knows t j (at_before t p).0 q l ne, v.served_high j l, carried);
    young = λ j l. grind (arith, nat_tests, v.young j l, apart);
  }

  received_total : total (requests (received s a b m)) s.sites + 1 ≡ total (requests s) s.sites
  received_total =
      let f : ℕ → ℕ → ℕ = requests s in
      let g : ℕ → ℕ → ℕ = requests (received s a b m) in
      let changed : total g s.sites + f a b ≡ total f s.sites + g a b = total_change f g s.sites a ha b hb (λ i j hi hj ne. grind (arith, nat_tests)) (λ j hj ne. grind (arith, nat_tests)) in
      let one : f a b ≡ 1 = grind arith in
      let none : g a b ≡ 0 = grind (arith, nat_tests) in
      omega arith

  received_tokens : tokens_sent (received s a b m).token ≤ tokens_sent s.token + 1
  received_tokens = grind arith

  received_stepped : Stepped (meaning_of s) None (meaning_of (received s a b m))
  received_stepped = record {
    sites = refl;
    toll = refl;
    granted = λ j l. refl;
    called = λ j l c. called_kept s (received s a b m) j refl refl (called_holds s j c) (λ k n ne w. grind (arith, nat_tests, carried, v.served_high a ha)) c;
    barred = λ j l p free. let t = barred_sent s j p in (grind (arith, nat_tests, t.1), λ h. grind (arith, t.1, v.holder_has j l h));
    work = omega (arith, received_total, received_tokens);
    age = refl;
  }

module _ (s : State) (v : Sound s) (t : ℕ) (sent : s.token ≡ Sent t) where
  arrived_stepped : Stepped (meaning_of s) (Some t) (meaning_of (arrived s t))
  arrived_stepped = record {
    sites = refl;
    toll = refl;
    granted = (v.sent_site t sent, v.sent_waits t sent, upd_same s.status t Holding, λ j l. upd_other s.status t Holding j);
    called = λ j l c. absurd (grind (arith, v.holder_has j l (called_holds s j c)));
    barred = λ j l b free. absurd (free t (v.sent_site t sent) (λ e. grind (arith, nat_tests)) (upd_same s.status t Holding));
    work = rw sent (omega arith);
    age = refl;
  }

pub step_lawful : (s : State) (k : ℕ) (grant : Option ℕ) (s' : State) → Sound s → Delivered s k grant s' → Sound s' × Stepped (meaning_of s) grant (meaning_of s')
step_lawful s k grant s' v (request_comes a b m ha hb sent place) = (received_sound s v a b m ha hb sent, received_stepped s v a b m ha hb sent)
step_lawful s k grant s' v (token_comes t sent place) = (arrived_sound s t v (v.sent_site t sent) sent, arrived_stepped s v t sent)
