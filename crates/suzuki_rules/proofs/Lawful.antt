-- The meaning of every sound state is lawful, and that of every state of a fit size is bounded.
use Rattle.std.proofs.Common.{◌≡◌, ℕ, ◌+◌, ◌<◌, ◌≤◌, true, sym, refl, ap, ◌∙◌, inl, inr, mul-le-mul_right, arith}
use Rattle.std.proofs.lemmas.Bool.Decides.{nat_tests}
use Rattle.counting.specs.Tables.{total}
use Rattle.counting.proofs.Tables.{total_none, total_most}
use Rattle.manager.specs.Laws.{Bounded, Lawful}
use Rattle.manager.specs.Meaning.{limit}
use Rattle.manager.specs.declared.status.Status.{Status}
use Rattle.manager.specs.declared.status.Status.TheVariants.{Idle, Waiting, Holding}
use Rattle.suzuki_rules.specs.Invariant.{Sound}
use Rattle.suzuki_rules.specs.Reading.{meaning_of, is_called, tokens_sent}
use Rattle.suzuki_rules.specs.Rules.{requests}
use Rattle.suzuki_rules.specs.State.{State}
use Rattle.suzuki_rules.specs.declared.Token.{Token}
use Rattle.suzuki_rules.specs.declared.Token.TheVariants.{At, Sent}
use Rattle.suzuki_rules.proofs.Facts.{barred_sent, called_holds, called_wanted, called_from, queued_some, requests_most, requests_none, wanted_waits}

module _ (s : State) (v : Sound s) where
  pub exclusive : (i j : ℕ) → i < s.sites → j < s.sites → s.status i ≡ Holding → s.status j ≡ Holding → i ≡ j
  exclusive i j hi hj p q =
      let a : s.token ≡ At i = v.holder_has i hi p in
      let b : s.token ≡ At j = v.holder_has j hj q in
      cc

  -- With nothing under way the token's site has heard of i, so it can only hold.
  pub token_serves : (i : ℕ) → i < s.sites → s.status i ≡ Waiting → total (requests s) s.sites ≡ 0 → (t : ℕ) → s.token ≡ At t → (h : ℕ) × (h < s.sites) × (s.status h ≡ Holding) × (is_called s h ≡ true)
  token_serves i hi w none t e = (t, ht, holds, called_from s t holds (inr (i, hi, apart, grind (arith, nat_tests, own, heard))))
    where
      ht : t < s.sites
      ht = v.at_site t e

      apart : i ≡ t → ⊥
      apart q = v.has_no_wait t e (ap s.status (sym q) ∙ w)

      heard : s.known t i ≡ s.known i i
      heard = rw (requests_none s i t (total_none (requests s) s.sites i t none hi ht)) at (v.heard i t hi ht apart)

      own : s.known i i ≡ s.served i + 1
      own = v.waiting_unserved i hi w

      only_holds : (x : Status) → s.status t ≡ x → s.status t ≡ Holding
      only_holds Idle k = absurd (omega (arith, v.idle_knows t i e k hi apart, heard, own))
      only_holds Waiting k = absurd (v.has_no_wait t e k)
      only_holds Holding k = k

      holds : s.status t ≡ Holding
      holds = only_holds (s.status t) refl

  pub lawful : Lawful (meaning_of s)
  lawful = record {
    exclusive = exclusive;
    served = λ i hi w none. served i hi w none s.token refl;
    called_holds = λ i hi c. called_holds s i c;
    called_wanted = λ i hi c. elim (called_wanted s i c) [
      | inl q ↦ let f = queued_some s.queue q in (f.0, v.queue_site f.0 f.1, v.queue_waits f.0 f.1)
      | inr w ↦ (w.0, w.1, wanted_waits s i w.0 v (v.holder_has i hi (called_holds s i c)) w.1 w.2 w.3)
    ];
    barred_free = λ i j hi hj b h. let t = barred_sent s i b in grind (arith, v.holder_has j hj h, t.1);
  }
    where
      served : (i : ℕ) → i < s.sites → s.status i ≡ Waiting → total (requests s) s.sites + tokens_sent s.token ≡ 0 → (x : Token) → s.token ≡ x → (h : ℕ) × (h < s.sites) × (s.status h ≡ Holding) × (is_called s h ≡ true)
      served i hi w none (At t) e = token_serves i hi w (omega arith) t e
      served i hi w none (Sent t) e = absurd (grind arith)

pub bounded : (s : State) → 2 ≤ s.sites → s.sites ≤ 16 → s.age ≤ limit → Bounded (meaning_of s)
bounded s low high young = record {
  fewest = low;
  most = omega arith;
  underway = grind (arith, total_most (requests s) s.sites (requests_most s), mul-le-mul_right s.sites high);
  age = young;
}
