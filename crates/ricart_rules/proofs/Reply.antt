-- The coming of a REPLY keeps a state sound and does what a step has to do.
use Rattle.std.proofs.Common.{◌≡◌, ℕ, ◌+◌, ◌<◌, Bool, true, false, cond, ◌⊎◌, Some, None, sym, refl, ◌∙◌, inl, inr, arith}
use Rattle.std.proofs.lemmas.Bool.{cases_eq, and_parts, not-true}
use Rattle.std.proofs.lemmas.Bool.Decides.{nat_tests}
use Rattle.counting.specs.Tables.{total}
use Rattle.counting.proofs.Tables.{total_ext, total_change}
use Rattle.manager.specs.Effects.{Stepped, Granted}
use Rattle.manager.specs.declared.status.Status.TheVariants.{Idle, Waiting, Holding}
use Rattle.ricart_rules.specs.Invariant.{Sound}
use Rattle.ricart_rules.specs.Reading.{meaning_of, is_barred}
use Rattle.ricart_rules.specs.Rules.{completes, replied, served, requests, replies}
use Rattle.ricart_rules.specs.State.{State, answered, unanswered, reached, lacks}
use Rattle.ricart_rules.specs.declared.Stage.TheVariants.{Deferred, Replied, Received}
use Rattle.ricart_rules.proofs.Facts.{lacks_some, lacks_from, lacks_none, called_holds, called_kept, barred_free, barred_some, barred_from, unfinished_waits}

module _ (s : State) (v : Sound s) (a b : ℕ) (ha : a < s.sites) (hb : b < s.sites) (sent : s.stage b a ≡ Replied) where
  ends_apart : b ≡ a → ⊥
  ends_apart e = grind (arith, v.no_loop a ha)

  receiver_waits : s.status b ≡ Waiting
  receiver_waits = unfinished_waits s b a v hb ha ends_apart (λ p. grind arith) (λ p. grind arith)

  -- The last REPLY leaves none to come.
  completes_has : completes s a b ≡ true → (j : ℕ) → j < s.sites → (j ≡ b → ⊥) → (replied s a b).stage b j ≡ Received
  completes_has c = lacks_none s.sites b ((replied s a b).stage b) (not-true _ (and_parts _ _ c).1)

  completes_lacks : completes s a b ≡ false → lacks s.sites b ((replied s a b).stage b) ≡ true
  completes_lacks c = grind (arith, receiver_waits)

  -- The REPLY changes no stage but its own, which stays answered, and nobody becomes idle or ceases to be so.
  replied_answered : (i j : ℕ) → answered ((replied s a b).stage i j) ≡ answered (s.stage i j)
  replied_answered i j = grind (arith, nat_tests)

  replied_unanswered : (i j : ℕ) → unanswered ((replied s a b).stage i j) ≡ unanswered (s.stage i j)
  replied_unanswered i j = grind (arith, nat_tests)

  replied_reached : (i j : ℕ) → reached ((replied s a b).stage i j) ≡ reached (s.stage i j)
  replied_reached i j = grind (arith, nat_tests)

  replied_idle : (i : ℕ) → s.status i ≡ Idle → (replied s a b).status i ≡ Idle
  replied_idle i p = grind (arith, nat_tests, receiver_waits)

  replied_holds : (i : ℕ) → s.status i ≡ Holding → (replied s a b).status i ≡ Holding
  replied_holds i p = grind (arith, nat_tests)

  replied_waits : (i : ℕ) → s.status i ≡ Waiting → ((replied s a b).status i ≡ Holding) ⊎ ((replied s a b).status i ≡ Waiting)
  replied_waits i p = grind (arith, nat_tests)

  replied_deferred : (i j : ℕ) → (replied s a b).stage i j ≡ Deferred → s.stage i j ≡ Deferred
  replied_deferred i j p = grind (arith, nat_tests)

  replied_lacks : (i : ℕ) → i < s.sites → (replied s a b).status i ≡ Waiting → lacks s.sites i ((replied s a b).stage i) ≡ true
  replied_lacks i hi p = elim (cases_eq i b) [
    | inl e ↦
        let more : completes s a b ≡ false = grind (arith, nat_tests) in
        rw e (completes_lacks more)
    | inr ne ↦
        let w = lacks_some s.sites i (s.stage i) (v.waiting_lacks i hi (grind (arith, nat_tests))) in
        lacks_from s.sites i ((replied s a b).stage i) w.0 w.1 w.2 (λ q. grind (arith, nat_tests, w.3))
  ]

  pub replied_sound : Sound (replied s a b)
  replied_sound = record {
    fewest = v.fewest;
    most = v.most;
    idle_unasked = λ i j hi hj p. grind (arith, nat_tests, v.idle_unasked i j hi hj, receiver_waits);
    busy_asked = λ i j hi hj ne p. replied_idle i (grind (arith, nat_tests, v.busy_asked i j hi hj ne));
    no_loop = λ i hi. grind (arith, nat_tests, v.no_loop i hi);
    answered_earlier = λ i j hi hj p q. v.answered_earlier i j hi hj (sym (replied_answered i j) ∙ p) (λ e. q (replied_idle j e));
    answered_first = λ i j hi hj p q. replied_unanswered j i ∙ v.answered_first i j hi hj (sym (replied_answered i j) ∙ p) (λ e. q (replied_idle j e));
    deferred_waits = λ i j hi hj p. grind (arith, nat_tests, v.deferred_waits i j hi hj (replied_deferred i j p), completes_has, v.no_loop b hb);
    deferred_by = λ i j hi hj p. grind (arith, v.deferred_by i j hi hj (replied_deferred i j p), replied_holds j, replied_waits j);
    heard = λ i j hi hj p. v.heard i j hi hj (sym (replied_reached i j) ∙ p);
    holder_has = λ i j hi hj ne p. grind (arith, nat_tests, v.holder_has i j hi hj ne, completes_has, receiver_waits);
    waiting_lacks = replied_lacks;
    young = λ i hi p. omega (arith, v.young i hi (λ e. p (replied_idle i e)));
    young_highest = λ i hi. omega (arith, v.young_highest i hi);
  }

  replied_requests : total (requests (replied s a b)) s.sites ≡ total (requests s) s.sites
  replied_requests = total_ext (requests (replied s a b)) (requests s) s.sites (λ i j hi hj. grind (arith, nat_tests))

  replied_replies : total (replies (replied s a b)) s.sites + 1 ≡ total (replies s) s.sites
  replied_replies =
      let f : ℕ → ℕ → ℕ = replies s in
      let g : ℕ → ℕ → ℕ = replies (replied s a b) in
      let changed : total g s.sites + f a b ≡ total f s.sites + g a b = total_change f g s.sites a ha b hb (λ i j hi hj ne. grind (arith, nat_tests)) (λ j hj ne. grind (arith, nat_tests)) in
      let one : f a b ≡ 1 = grind arith in
      let none : g a b ≡ 0 = grind (arith, nat_tests) in
      omega arith

  replied_granted : (last : Bool) → completes s a b ≡ last → Granted (meaning_of s) (cond last (Some b) None) (meaning_of (replied s a b))
  replied_granted true c = (hb, receiver_waits, grind (arith, nat_tests), λ j l ne. grind (arith, nat_tests))
  replied_granted false c = λ j l. grind arith

  -- A site that has sent a REPLY to one that waits lacks the REPLY of that one.
  barred_incomplete : is_barred s b ≡ true → completes s a b ≡ true → ⊥
  barred_incomplete p c =
      let w = barred_some s b p in
      let pending : unanswered (s.stage b w.0) ≡ true = v.answered_first w.0 b w.1 hb w.3 (λ e. grind (arith, receiver_waits)) in
      let ne : w.0 ≡ b → ⊥ = λ e. grind (arith, v.no_loop b hb) in
      let has : (replied s a b).stage b w.0 ≡ Received = completes_has c w.0 w.1 ne in
      grind (arith, replied_unanswered b w.0)

  -- So where a site is barred and no other comes to hold, none does.
  barred_not_last : (j : ℕ) → is_barred s j ≡ true → ((k : ℕ) → k < s.sites → (k ≡ j → ⊥) → (replied s a b).status k ≡ Holding → ⊥) → completes s a b ≡ false
  barred_not_last j p free = grind (arith, nat_tests, barred_incomplete, free b hb)

  replied_barred : (j : ℕ) → is_barred s j ≡ true → completes s a b ≡ false → is_barred (replied s a b) j ≡ true
  replied_barred j p c =
      let w = barred_some s j p in
      barred_from (replied s a b) j (λ k l h. grind (arith, barred_free s j p k l)) w.0 w.1 (grind (arith, w.2)) (replied_answered w.0 j ∙ w.3)

  pub replied_stepped : Stepped (meaning_of s) (served s a b) (meaning_of (replied s a b))
  replied_stepped = record {
    sites = refl;
    toll = refl;
    granted = replied_granted (completes s a b) refl;
    called = λ j l c. called_kept s (replied s a b) j refl (grind (arith, nat_tests, called_holds s j c, receiver_waits)) (λ k m d. grind (arith, nat_tests)) c;
    barred = λ j l p free. let c = barred_not_last j p free in (replied_barred j p c, λ h. grind (arith, barred_free s j p j l));
    work = omega (arith, replied_requests, replied_replies);
    age = refl;
  }
