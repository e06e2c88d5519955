-- A free at a holder keeps a state sound and does what a free has to do.
use Rattle.std.proofs.Common.{◌≡◌, ℕ, ◌+◌, ◌-◌, ◌<◌, ◌≤◌, true, refl, arith}
use Rattle.std.proofs.lemmas.Bool.Decides.{nat_tests}
use Rattle.counting.specs.Tables.{total, row}
use Rattle.counting.proofs.Sums.{upd_same, upd_other, sum_but_one}
use Rattle.counting.proofs.Tables.{total_ext, total_row_change}
use Rattle.manager.specs.Effects.{Freed}
use Rattle.manager.specs.declared.status.Status.TheVariants.{Idle, Waiting, Holding}
use Rattle.ricart_rules.specs.Invariant.{Sound}
use Rattle.ricart_rules.specs.Reading.{meaning_of, is_called, is_barred}
use Rattle.ricart_rules.specs.Rules.{freed, requests, replies}
use Rattle.ricart_rules.specs.State.{State, answered, unanswered, lacks}
use Rattle.ricart_rules.proofs.Facts.{lacks_some, lacks_from, called_some, barred_from, exclusive, replies_most}

module _ (s : State) (i : ℕ) (v : Sound s) (within : i < s.sites) (holds : s.status i ≡ Holding) where
  freed_first : (a b : ℕ) → a < s.sites → b < s.sites → answered ((freed s i).stage a b) ≡ true → ((freed s i).status b ≡ Idle → ⊥) → unanswered ((freed s i).stage b a) ≡ true
  freed_first a b ha hb p q = grind (arith, nat_tests, v.answered_first a b ha hb)

  freed_lacks : (a : ℕ) → a < s.sites → (freed s i).status a ≡ Waiting → lacks s.sites a ((freed s i).stage a) ≡ true
  freed_lacks a ha p =
      let w = lacks_some s.sites a (s.stage a) (v.waiting_lacks a ha (grind (arith, nat_tests))) in
      lacks_from s.sites a ((freed s i).stage a) w.0 w.1 w.2 (λ q. grind (arith, nat_tests, w.3))

  freed_sound : Sound (freed s i)
  freed_sound = record {
    fewest = v.fewest;
    most = v.most;
    idle_unasked = λ a b ha hb p. grind (arith, nat_tests, v.idle_unasked a b ha hb);
    busy_asked = λ a b ha hb ne p. grind (arith, nat_tests, v.busy_asked a b ha hb ne);
    no_loop = λ a ha. grind (arith, nat_tests, v.no_loop a ha);
    answered_earlier = λ a b ha hb p q. grind (arith, nat_tests, v.answered_earlier a b ha hb);
    answered_first = freed_first;
    deferred_waits = λ a b ha hb p. grind (arith, nat_tests, v.deferred_waits a b ha hb);
    deferred_by = λ a b ha hb p. grind (arith, nat_tests, v.deferred_by a b ha hb);
    heard = λ a b ha hb p. grind (arith, nat_tests, v.heard a b ha hb);
    holder_has = λ a b ha hb ne p. grind (arith, nat_tests, v.holder_has a b ha hb ne);
    waiting_lacks = freed_lacks;
    young = λ a ha p. grind (arith, nat_tests, v.young a ha);
    young_highest = λ a ha. omega (arith, v.young_highest a ha);
  }

  -- The holder's own REQUESTs have all come.
  freed_requests : total (requests (freed s i)) s.sites ≡ total (requests s) s.sites
  freed_requests =
      total_ext (requests (freed s i)) (requests s) s.sites (λ a b ha hb. grind (arith, nat_tests, v.holder_has a b ha hb, v.no_loop a ha))

  -- At most the REPLYs of row i are new, and i sends none to itself.
  freed_replies : total (replies (freed s i)) s.sites ≤ total (replies s) s.sites + (s.sites - 1)
  freed_replies =
      let f : ℕ → ℕ → ℕ = replies s in
      let g : ℕ → ℕ → ℕ = replies (freed s i) in
      let changed : total g s.sites + row f s.sites i ≡ total f s.sites + row g s.sites i = total_row_change f g s.sites i within (λ a b ha hb ne. grind (arith, nat_tests, v.holder_has b a hb ha)) in
      let small : row g s.sites i + 1 ≤ s.sites = sum_but_one (g i) s.sites i within (λ j l. replies_most (freed s i) i j) (grind (arith, nat_tests)) in
      omega arith

  -- Whom a called site deferred goes first.
  freed_bars : is_called s i ≡ true → is_barred (freed s i) i ≡ true
  freed_bars c =
      let w = called_some s i c in
      let waits : s.status w.0 ≡ Waiting = v.deferred_waits w.0 i w.1 within w.2 in
      barred_from (freed s i) i (λ j l h. grind (arith, nat_tests, exclusive s v i j within l holds)) w.0 w.1 (grind (arith, nat_tests)) (grind (arith, nat_tests, w.2))

  freed_does : Freed (meaning_of s) i (meaning_of (freed s i))
  freed_does = record {
    sites = refl;
    toll = refl;
    freer = upd_same s.status i Idle;
    others = λ j l. upd_other s.status i Idle j;
    bars = freed_bars;
    work = omega (arith, freed_requests, freed_replies);
    age = refl;
  }

pub free_lawful : (s : State) (i : ℕ) → Sound s → i < s.sites → s.status i ≡ Holding → Sound (freed s i) × Freed (meaning_of s) i (meaning_of (freed s i))
free_lawful s i v within holds = (freed_sound s i v within holds, freed_does s i v within holds)
