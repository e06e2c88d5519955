-- A free at a holder keeps a state sound and does what a free has to do, in whatever order the other sites are visited.
use Rattle.std.proofs.Common.{◌≡◌, ℕ, ◌+◌, ◌<◌, ◌≤◌, false, List, [], ◌∷◌, refl, ap, inl, inr, arith}
use Rattle.std.proofs.lemmas.Bool.{cases_Bool}
use Rattle.std.proofs.lemmas.Bool.Decides.{nat_tests}
use Rattle.counting.specs.Sums.{times}
use Rattle.counting.proofs.Sums.{upd_same, upd_other}
use Rattle.manager.specs.Effects.{Freed}
use Rattle.manager.specs.declared.status.Status.TheVariants.{Idle, Waiting, Holding}
use Rattle.suzuki_rules.specs.Invariant.{Sound}
use Rattle.suzuki_rules.specs.Reading.{meaning_of, empty, tokens_sent}
use Rattle.suzuki_rules.specs.Rules.{order, searched, token_after, rest, freed_by, freed}
use Rattle.suzuki_rules.specs.State.{State, wants}
use Rattle.suzuki_rules.specs.declared.Token.{Token}
use Rattle.suzuki_rules.specs.declared.Token.TheVariants.{At, Sent}
use Rattle.suzuki_rules.proofs.Facts.{Wanted, called_wanted, queued_some, known_most, sent_bars, wanted_waits}
use Rattle.suzuki_rules.proofs.Search.{Visits, visits_site, order_visits, times_searched, searched_from, searched_once}

-- The token stays only with an empty queue, and else leaves for a site of the queue.
after_at : (q : List ℕ) (x : Token) (t : ℕ) → token_after q x ≡ At t → (q ≡ []) × (x ≡ At t)
after_at [] x t e = (refl, e)
after_at (j ∷ q) x t e = absurd (grind arith)

after_sent : (q : List ℕ) (x : Token) (i t : ℕ) → x ≡ At i → token_after q x ≡ Sent t → times q t ≡ times (rest q) t + 1
after_sent [] x i t has e = absurd (grind arith)
after_sent (j ∷ q) x i t has e = grind (arith, nat_tests)

tokens_most : (x : Token) → tokens_sent x ≤ 1
tokens_most (At t) = omega arith
tokens_most (Sent t) = omega arith

after_fill : (q : List ℕ) (x : Token) → empty q ≡ false → (t : ℕ) × (token_after q x ≡ Sent t) × (0 < times q t)
after_fill [] x e = absurd (grind arith)
after_fill (j ∷ q) x e = (j, refl, grind (arith, nat_tests))

rest_most : (q : List ℕ) (x : ℕ) → times (rest q) x ≤ times q x
rest_most [] x = omega arith
rest_most (j ∷ q) x = omega arith

member_fills : (q : List ℕ) (x : ℕ) → 0 < times q x → empty q ≡ false
member_fills [] x h = absurd (omega arith)
member_fills (j ∷ q) x h = refl

-- The queue that a freeing site has made before it sends the token.
abbrev found : List ℕ → State → ℕ → List ℕ
found js s i = searched s i s.queue js

module _ (js : List ℕ) (s : State) (i : ℕ) (visits : Visits js s.sites i) (v : Sound s) (within : i < s.sites) (holds : s.status i ≡ Holding) where
  has : s.token ≡ At i
  has = v.holder_has i within holds

  found_waits : (j : ℕ) → 0 < times (found js s i) j → (j < s.sites) × (s.status j ≡ Waiting)
  found_waits j h = elim (searched_from s i s.queue js j h) [
    | inl p ↦ (v.queue_site j p, v.queue_waits j p)
    | inr p ↦
        let small : j < s.sites = visits_site js s.sites i visits j p.1 in
        (small, wanted_waits s i j v has small (grind (arith, nat_tests, visits j, p.1)) p.0)
  ]

  -- Whoever is queued or wanted is found.
  wanted_found : Wanted s i → empty (found js s i) ≡ false
  wanted_found (inl p) =
      let f = queued_some s.queue p in
      member_fills (found js s i) f.0 (grind (arith, times_searched s i s.queue js f.0, f.1))
  wanted_found (inr w) =
      member_fills (found js s i) w.0 (grind (arith, nat_tests, times_searched s i s.queue js w.0, visits w.0, w.1, w.2, w.3))

  -- So with nobody found the freeing site knows nobody to wait.
  none_unserved : found js s i ≡ [] → (j : ℕ) → j < s.sites → (j ≡ i → ⊥) → s.known i j ≤ s.served j
  none_unserved e j h ne = elim (cases_Bool (wants s i j)) [
    | inl w ↦ absurd (let f : empty (found js s i) ≡ false = wanted_found (inr (j, h, ne, w)) in grind arith)
    | inr w ↦ grind (arith, nat_tests, known_most s j i v h within, v.served_high j h)
  ]

  next_waits : (t : ℕ) → (freed_by js s i).token ≡ Sent t → (t < s.sites) × (s.status t ≡ Waiting)
  next_waits t p = found_waits t (omega (arith, after_sent (found js s i) s.token i t has p))

  rest_found : (j : ℕ) → 0 < times (freed_by js s i).queue j → 0 < times (found js s i) j
  rest_found j h = omega (arith, rest_most (found js s i) j)

  waits_on : (j : ℕ) → s.status j ≡ Waiting → (freed_by js s i).status j ≡ Waiting
  waits_on j h = grind (arith, nat_tests)

  freed_sound : Sound (freed_by js s i)
  freed_sound = record {
    fewest = v.fewest;
    most = v.most;
    at_site = λ t p. v.at_site t (after_at (found js s i) s.token t p).1;
    sent_site = λ t p. (next_waits t p).0;
    sent_waits = λ t p. waits_on t (next_waits t p).1;
    holder_has = λ j l p. absurd (grind (arith, nat_tests, v.holder_has j l));
    has_no_wait = λ t p q. grind (arith, nat_tests, (after_at (found js s i) s.token t p).1);
    served_low = λ j l. grind (arith, nat_tests, v.served_low j l);
    served_high = λ j l. grind (arith, nat_tests, v.served_high j l);
    idle_served = λ j l p. grind (arith, nat_tests, v.idle_served j l);
    waiting_unserved = λ j l p. grind (arith, nat_tests, v.waiting_unserved j l);
    heard = v.heard;
    no_loop = v.no_loop;
    once = λ j. omega (arith, rest_most (found js s i) j, searched_once s i s.queue js v.once j);
    queue_site = λ j p. (found_waits j (rest_found j p)).0;
    queue_waits = λ j p. waits_on j (found_waits j (rest_found j p)).1;
    queue_apart = λ j p q. omega (arith, after_sent (found js s i) s.token i j has q, searched_once s i s.queue js v.once j);
    idle_queue = λ t p q. ap rest (after_at (found js s i) s.token t p).0;
    idle_knows = λ t j p q l ne. grind (arith, nat_tests, none_unserved (after_at (found js s i) s.token t p).0 j l, (after_at (found js s i) s.token t p).1);
    young = λ j l. omega (arith, v.young j l);
  }

  freed_does : Freed (meaning_of s) i (meaning_of (freed_by js s i))
  freed_does = record {
    sites = refl;
    toll = refl;
    freer = upd_same s.status i Idle;
    others = λ j l. upd_other s.status i Idle j;
    bars = λ c. let t = after_fill (found js s i) s.token (wanted_found (called_wanted s i c)) in sent_bars (freed_by js s i) t.0 i t.1 (λ e. grind (arith, found_waits t.0 t.2));
    work = omega (arith, tokens_most (freed_by js s i).token, v.fewest);
    age = refl;
  }

pub free_lawful_by : (js : List ℕ) (s : State) (i : ℕ) → Visits js s.sites i → Sound s → i < s.sites → s.status i ≡ Holding → Sound (freed_by js s i) × Freed (meaning_of s) i (meaning_of (freed_by js s i))
free_lawful_by js s i visits v within holds = (freed_sound js s i visits v within holds, freed_does js s i visits v within holds)

pub free_lawful : (s : State) (i : ℕ) → Sound s → i < s.sites → s.status i ≡ Holding → Sound (freed s i) × Freed (meaning_of s) i (meaning_of (freed s i))
free_lawful s i v within = free_lawful_by (order i s.sites) s i (order_visits i s.sites within) v within
