-- The coming of a REQUEST keeps a state sound and does what a step has to do.
use Rattle.std.proofs.Common.{◌≡◌, ℕ, ◌+◌, ◌<◌, ◌≤◌, true, false, ◌⊎◌, None, refl, ap, ◌∙◌, inl, inr, arith}
use Rattle.std.proofs.lemmas.Bool.Decides.{nat_tests}
use Rattle.counting.specs.Tables.{total}
use Rattle.counting.proofs.Tables.{total_change}
use Rattle.manager.specs.Effects.{Stepped}
use Rattle.manager.specs.declared.status.Status.TheVariants.{Idle, Waiting, Holding}
use Rattle.ricart_rules.specs.Invariant.{Sound}
use Rattle.ricart_rules.specs.Reading.{meaning_of, is_barred}
use Rattle.ricart_rules.specs.Rules.{defers, received, requests, replies}
use Rattle.ricart_rules.specs.State.{State, earlier, answered, unanswered, lacks}
use Rattle.ricart_rules.specs.declared.Stage.TheVariants.{Requested, Deferred}
use Rattle.ricart_rules.proofs.Facts.{lacks_some, lacks_from, called_holds, called_kept, barred_free, barred_some, barred_from, earlier_total, unfinished_waits, replies_most}

module _ (s : State) (v : Sound s) (a b : ℕ) (ha : a < s.sites) (hb : b < s.sites) (sent : s.stage a b ≡ Requested) where
  apart : a ≡ b → ⊥
  apart e = grind (arith, v.no_loop a ha)

  sender_waits : s.status a ≡ Waiting
  sender_waits = unfinished_waits s a b v ha hb apart (λ p. grind arith) (λ p. grind arith)

  -- What has a REPLY sent, or is deferred, was so before, or is the REQUEST that has come.
  received_answered : (i j : ℕ) → answered ((received s a b).stage i j) ≡ true → (answered (s.stage i j) ≡ true) ⊎ ((i ≡ a) × (j ≡ b) × (defers s b a ≡ false))
  received_answered i j p = grind (arith, nat_tests)

  received_deferred : (i j : ℕ) → (received s a b).stage i j ≡ Deferred → (s.stage i j ≡ Deferred) ⊎ ((i ≡ a) × (j ≡ b) × (defers s b a ≡ true))
  received_deferred i j p = grind (arith, nat_tests)

  defers_holds : defers s b a ≡ true → (s.status b ≡ Holding) ⊎ ((s.status b ≡ Waiting) × (earlier s b a ≡ true))
  defers_holds d = grind arith

  answers_not_earlier : defers s b a ≡ false → (s.status b ≡ Idle → ⊥) → earlier s b a ≡ false
  answers_not_earlier d q = grind arith

  -- A site that is not idle answers only the earlier stamp, and then its own REQUEST is not answered.
  answers_earlier : defers s b a ≡ false → (s.status b ≡ Idle → ⊥) → earlier s a b ≡ true
  answers_earlier d q = earlier_total s a b apart (answers_not_earlier d q)

  answered_defers : answered (s.stage b a) ≡ true → defers s b a ≡ true
  answered_defers p =
      let first : earlier s b a ≡ true = v.answered_earlier b a hb ha p (λ e. grind (arith, sender_waits)) in
      grind (arith, v.idle_unasked b a hb ha)

  answers_first : defers s b a ≡ false → (s.status b ≡ Idle → ⊥) → unanswered (s.stage b a) ≡ true
  answers_first d q = grind (arith, v.busy_asked b a hb ha, answered_defers, apart)

  received_earlier : (i j : ℕ) → i < s.sites → j < s.sites → answered ((received s a b).stage i j) ≡ true → (s.status j ≡ Idle → ⊥) → earlier s i j ≡ true
  received_earlier i j hi hj p q = grind (arith, received_answered i j p, v.answered_earlier i j hi hj, answers_earlier)

  received_first : (i j : ℕ) → i < s.sites → j < s.sites → answered ((received s a b).stage i j) ≡ true → (s.status j ≡ Idle → ⊥) → unanswered ((received s a b).stage j i) ≡ true
  received_first i j hi hj p q = elim (received_answered i j p) [
    | inl old ↦
        let first : unanswered (s.stage j i) ≡ true = v.answered_first i j hi hj old q in
        grind (arith, nat_tests, answered_defers)
    | inr new ↦
        let first : unanswered (s.stage b a) ≡ true = answers_first new.2 (λ e. q (ap s.status new.1 ∙ e)) in
        grind (arith, nat_tests, apart, new.0, new.1)
  ]

  received_lacks : (i : ℕ) → i < s.sites → s.status i ≡ Waiting → lacks s.sites i ((received s a b).stage i) ≡ true
  received_lacks i hi p =
      let w = lacks_some s.sites i (s.stage i) (v.waiting_lacks i hi p) in
      lacks_from s.sites i ((received s a b).stage i) w.0 w.1 w.2 (λ q. grind (arith, nat_tests, w.3))

  pub received_sound : Sound (received s a b)
  received_sound = record {
    fewest = v.fewest;
    most = v.most;
    idle_unasked = λ i j hi hj p. grind (arith, nat_tests, v.idle_unasked i j hi hj p);
    busy_asked = λ i j hi hj ne p. grind (arith, nat_tests, v.busy_asked i j hi hj ne);
    no_loop = λ i hi. grind (arith, nat_tests, v.no_loop i hi);
    answered_earlier = received_earlier;
    answered_first = received_first;
    deferred_waits = λ i j hi hj p. grind (arith, nat_tests, v.deferred_waits i j hi hj, sender_waits);
    deferred_by = λ i j hi hj p. grind (arith, received_deferred i j p, v.deferred_by i j hi hj, defers_holds);
    heard = λ i j hi hj p. grind (arith, nat_tests, v.heard i j hi hj);
    holder_has = λ i j hi hj ne p. grind (arith, nat_tests, v.holder_has i j hi hj ne);
    waiting_lacks = received_lacks;
    young = λ i hi p. grind (arith, v.young i hi);
    young_highest = λ i hi. grind (arith, nat_tests, v.young_highest i hi, v.young a ha, sender_waits);
  }

  received_requests : total (requests (received s a b)) s.sites + 1 ≡ total (requests s) s.sites
  received_requests =
      let f : ℕ → ℕ → ℕ = requests s in
      let g : ℕ → ℕ → ℕ = requests (received s a b) in
      let changed : total g s.sites + f a b ≡ total f s.sites + g a b = total_change f g s.sites a ha b hb (λ i j hi hj ne. grind (arith, nat_tests)) (λ j hj ne. grind (arith, nat_tests)) in
      let one : f a b ≡ 1 = grind arith in
      let none : g a b ≡ 0 = grind (arith, nat_tests) in
      omega arith

  received_replies : total (replies (received s a b)) s.sites ≤ total (replies s) s.sites + 1
  received_replies =
      let f : ℕ → ℕ → ℕ = replies s in
      let g : ℕ → ℕ → ℕ = replies (received s a b) in
      let changed : total g s.sites + f b a ≡ total f s.sites + g b a = total_change f g s.sites b hb a ha (λ i j hi hj ne. grind (arith, nat_tests)) (λ j hj ne. grind (arith, nat_tests)) in
      omega (arith, replies_most (received s a b) b a)

  received_barred : (j : ℕ) → is_barred s j ≡ true → is_barred (received s a b) j ≡ true
  received_barred j p =
      let w = barred_some s j p in
      barred_from (received s a b) j (barred_free s j p) w.0 w.1 w.2 (grind (arith, nat_tests, w.3))

  pub received_stepped : Stepped (meaning_of s) None (meaning_of (received s a b))
  received_stepped = record {
    sites = refl;
    toll = refl;
    granted = λ j l. refl;
    called = λ j l c. called_kept s (received s a b) j refl (called_holds s j c) (λ k m d. grind (arith, nat_tests)) c;
    barred = λ j l p free. (received_barred j p, barred_free s j p j l);
    work = omega (arith, received_requests, received_replies);
    age = refl;
  }
