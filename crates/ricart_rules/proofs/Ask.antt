-- An ask at an idle site keeps a state sound and does what an ask has to do.
use Rattle.std.proofs.Common.{◌≡◌, ℕ, ◌+◌, ◌-◌, ◌<◌, ◌≤◌, true, refl, ap, inl, inr, arith}
use Rattle.std.proofs.lemmas.Bool.{cases_eq, or_right}
use Rattle.std.proofs.lemmas.Bool.Decides.{nat_tests}
use Rattle.counting.specs.Tables.{total, row}
use Rattle.counting.proofs.Sums.{upd_same, upd_other, sum_but_one}
use Rattle.counting.proofs.Tables.{total_ext, total_row_change}
use Rattle.manager.specs.Effects.{Asked}
use Rattle.manager.specs.declared.status.Status.TheVariants.{Idle, Waiting}
use Rattle.ricart_rules.specs.Invariant.{Sound}
use Rattle.ricart_rules.specs.Reading.{meaning_of, is_barred}
use Rattle.ricart_rules.specs.Rules.{asked, requests, replies}
use Rattle.ricart_rules.specs.State.{State, earlier, is_deferred, answered, unanswered, reached, lacks}
use Rattle.ricart_rules.specs.declared.Stage.TheVariants.{Deferred}
use Rattle.ricart_rules.proofs.Facts.{lacks_some, lacks_from, called_holds, called_kept, barred_free, barred_some, barred_from, requests_most}

module _ (s : State) (i : ℕ) (v : Sound s) (within : i < s.sites) (idle : s.status i ≡ Idle) where
  -- There are two sites at least, so the asking site lacks the REPLY of another.
  other : (j : ℕ) × (j < s.sites) × (j ≡ i → ⊥)
  other = elim (cases_eq i 0) [
    | inl e ↦ (1, omega (arith, v.fewest), λ q. omega arith)
    | inr ne ↦ (0, omega arith, λ q. omega arith)
  ]

  asked_lacks : (a : ℕ) → a < s.sites → (asked s i).status a ≡ Waiting → lacks s.sites a ((asked s i).stage a) ≡ true
  asked_lacks a ha p = elim (cases_eq a i) [
    | inl e ↦
        let o = other in
        lacks_from s.sites a ((asked s i).stage a) o.0 o.1 (λ q. grind (arith, o.2)) (λ q. grind (arith, nat_tests, o.1, o.2))
    | inr ne ↦
        let w = lacks_some s.sites a (s.stage a) (v.waiting_lacks a ha (grind (arith, nat_tests))) in
        lacks_from s.sites a ((asked s i).stage a) w.0 w.1 w.2 (λ q. grind (arith, nat_tests, w.3))
  ]

  -- A REQUEST that has come was sent by another site before.
  asked_reached : (a b : ℕ) → b < s.sites → reached ((asked s i).stage a b) ≡ true → (a ≡ i → ⊥) × ((asked s i).stage a b ≡ s.stage a b)
  asked_reached a b hb p = (λ e. grind (arith, nat_tests, v.idle_unasked i b within hb idle), grind (arith, nat_tests, v.idle_unasked i b within hb idle))

  asked_answered : (a b : ℕ) → b < s.sites → answered ((asked s i).stage a b) ≡ true → (a ≡ i → ⊥) × (answered (s.stage a b) ≡ true)
  asked_answered a b hb p =
      let o = asked_reached a b hb (or_right (is_deferred ((asked s i).stage a b)) (answered ((asked s i).stage a b)) p) in
      (o.0, rw o.1 at p)

  -- Whoever has heard of a stamp takes a later one.
  asked_earlier : (a b : ℕ) → a < s.sites → b < s.sites → (a ≡ i → ⊥) → answered (s.stage a b) ≡ true → ((asked s i).status b ≡ Idle → ⊥) → earlier (asked s i) a b ≡ true
  asked_earlier a b ha hb ne p q = grind (arith, nat_tests, v.answered_earlier a b ha hb, v.heard a b ha hb)

  asked_first : (a b : ℕ) → a < s.sites → b < s.sites → (a ≡ i → ⊥) → answered (s.stage a b) ≡ true → ((asked s i).status b ≡ Idle → ⊥) → unanswered ((asked s i).stage b a) ≡ true
  asked_first a b ha hb ne p q = grind (arith, nat_tests, v.answered_first a b ha hb p)

  asked_deferred : (a b : ℕ) → a < s.sites → b < s.sites → (asked s i).stage a b ≡ Deferred → (a ≡ i → ⊥) × (b ≡ i → ⊥) × (s.stage a b ≡ Deferred)
  asked_deferred a b ha hb p =
      let o = asked_reached a b hb (ap reached p) in
      (o.0, λ e. grind (arith, v.deferred_by a b ha hb, o.1), cc o.1)

  asked_sound : Sound (asked s i)
  asked_sound = record {
    fewest = v.fewest;
    most = v.most;
    idle_unasked = λ a b ha hb p. grind (arith, nat_tests, v.idle_unasked a b ha hb);
    busy_asked = λ a b ha hb ne p. grind (arith, nat_tests, v.busy_asked a b ha hb ne);
    no_loop = λ a ha. grind (arith, nat_tests, v.no_loop a ha);
    answered_earlier = λ a b ha hb p q. let o = asked_answered a b hb p in asked_earlier a b ha hb o.0 o.1 q;
    answered_first = λ a b ha hb p q. let o = asked_answered a b hb p in asked_first a b ha hb o.0 o.1 q;
    deferred_waits = λ a b ha hb p. grind (arith, nat_tests, v.deferred_waits a b ha hb);
    deferred_by = λ a b ha hb p. let o = asked_deferred a b ha hb p in grind (arith, nat_tests, v.deferred_by a b ha hb o.2, o.0, o.1);
    heard = λ a b ha hb p. grind (arith, nat_tests, v.heard a b ha hb, v.idle_unasked i b within hb idle);
    holder_has = λ a b ha hb ne p. grind (arith, nat_tests, v.holder_has a b ha hb ne);
    waiting_lacks = asked_lacks;
    young = λ a ha p. grind (arith, nat_tests, v.young a ha, v.young_highest a ha);
    young_highest = λ a ha. omega (arith, v.young_highest a ha);
  }

  -- At most the REQUESTs of row i are new, and i sends none to itself.
  asked_requests : total (requests (asked s i)) s.sites ≤ total (requests s) s.sites + (s.sites - 1)
  asked_requests =
      let f : ℕ → ℕ → ℕ = requests s in
      let g : ℕ → ℕ → ℕ = requests (asked s i) in
      let changed : total g s.sites + row f s.sites i ≡ total f s.sites + row g s.sites i = total_row_change f g s.sites i within (λ a b ha hb ne. grind (arith, nat_tests)) in
      let small : row g s.sites i + 1 ≤ s.sites = sum_but_one (g i) s.sites i within (λ j l. requests_most (asked s i) i j) (grind (arith, nat_tests, v.no_loop i within)) in
      omega arith

  asked_replies : total (replies (asked s i)) s.sites ≡ total (replies s) s.sites
  asked_replies =
      total_ext (replies (asked s i)) (replies s) s.sites (λ a b ha hb. grind (arith, nat_tests, v.idle_unasked i a within ha idle))

  asked_barred : (j : ℕ) → is_barred s j ≡ true → is_barred (asked s i) j ≡ true
  asked_barred j b =
      let w = barred_some s j b in
      barred_from (asked s i) j (λ k l h. grind (arith, nat_tests, barred_free s j b k l)) w.0 w.1 (grind (arith, nat_tests, w.2)) (grind (arith, nat_tests, w.2, w.3))

  asked_does : Asked (meaning_of s) i (meaning_of (asked s i))
  asked_does = record {
    sites = refl;
    toll = refl;
    asker = inl (upd_same s.status i Waiting);
    others = λ j l. upd_other s.status i Waiting j;
    called = λ j l c. called_kept s (asked s i) j refl (grind (arith, nat_tests, called_holds s j c)) (λ k m d. grind (arith, nat_tests, v.idle_unasked i j within l idle)) c;
    barred = λ j l b free. (asked_barred j b, λ h. grind (arith, nat_tests, barred_free s j b j l));
    work = omega (arith, asked_requests, asked_replies);
    age = refl;
  }

pub ask_lawful : (s : State) (i : ℕ) → Sound s → i < s.sites → s.status i ≡ Idle → Sound (asked s i) × Asked (meaning_of s) i (meaning_of (asked s i))
ask_lawful s i v within idle = (asked_sound s i v within idle, asked_does s i v within idle)
