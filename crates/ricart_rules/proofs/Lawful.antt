-- The meaning of every sound state is lawful, and that of every state of a fit size is bounded.
use Rattle.std.proofs.Common.{◌≡◌, ℕ, ◌<◌, ◌≤◌, true, ap, mul-le-mul_right, arith}
use Rattle.counting.specs.Tables.{total}
use Rattle.counting.proofs.Tables.{total_none, total_most}
use Rattle.counting.proofs.Tests.{First, first_exists}
use Rattle.manager.specs.Laws.{Bounded, Lawful}
use Rattle.manager.specs.Meaning.{limit, is_waiting}
use Rattle.manager.specs.declared.status.Status.TheVariants.{Waiting, Holding}
use Rattle.ricart_rules.specs.Invariant.{Sound}
use Rattle.ricart_rules.specs.Reading.{meaning_of, is_called}
use Rattle.ricart_rules.specs.Rules.{requests, replies, messages}
use Rattle.ricart_rules.specs.State.{State, earlier}
use Rattle.ricart_rules.specs.declared.Stage.TheVariants.{Deferred, Received}
use Rattle.ricart_rules.proofs.Facts.{lacks_some, called_holds, called_some, called_from, barred_free, earlier_irreflexive, earlier_transitive, exclusive, requests_most, replies_most, messages_total}

module _ (s : State) (v : Sound s) where
  -- With nothing under way, whoever has not sent its REPLY to a waiting site defers it.
  pub quiet_deferred : total (messages s) s.sites ≡ 0 → (i j : ℕ) → i < s.sites → j < s.sites → (j ≡ i → ⊥) → s.status i ≡ Waiting → (s.stage i j ≡ Received → ⊥) → s.stage i j ≡ Deferred
  quiet_deferred none i j hi hj ne w r =
      grind (arith, v.busy_asked i j hi hj, total_none (messages s) s.sites i j none hi hj, total_none (messages s) s.sites j i none hj hi)

  -- So the waiting site with the earliest stamp is deferred by a holder.
  pub earliest_calls : total (messages s) s.sites ≡ 0 → (m : ℕ) → First (λ j. is_waiting (s.status j)) (earlier s) s.sites m → (h : ℕ) × (h < s.sites) × (s.status h ≡ Holding) × (is_called s h ≡ true)
  earliest_calls none m f = (h.0, h.1, holds, called_from s h.0 holds m f.within deferred)
    where
      waits : s.status m ≡ Waiting
      waits = grind (arith, f.passes)

      h : (j : ℕ) × (j < s.sites) × (j ≡ m → ⊥) × (s.stage m j ≡ Received → ⊥)
      h = lacks_some s.sites m (s.stage m) (v.waiting_lacks m f.within waits)

      deferred : s.stage m h.0 ≡ Deferred
      deferred = quiet_deferred none m h.0 f.within h.1 h.2 waits h.3

      holds : s.status h.0 ≡ Holding
      holds = grind (arith, v.deferred_by m h.0 f.within h.1 deferred, f.least h.0 h.1)

  pub lawful : Lawful (meaning_of s)
  lawful = record {
    exclusive = λ i j hi hj p q. grind (arith, exclusive s v i j hi hj p q);
    served = λ i hi w none. let m = first_exists (λ j. is_waiting (s.status j)) (earlier s) (earlier_irreflexive s) (earlier_transitive s) s.sites i hi (ap is_waiting w) in earliest_calls none m.0 m.1;
    called_holds = λ i hi. called_holds s i;
    called_wanted = λ i hi c. let w = called_some s i c in (w.0, w.1, v.deferred_waits w.0 i w.1 hi w.2);
    barred_free = λ i j hi hj b. barred_free s i b j hj;
  }

pub bounded : (s : State) → 2 ≤ s.sites → s.sites ≤ 16 → s.age ≤ limit → Bounded (meaning_of s)
bounded s low high young = record {
  fewest = low;
  most = omega arith;
  underway = grind (arith, messages_total s s.sites, total_most (requests s) s.sites (requests_most s), total_most (replies s) s.sites (replies_most s), mul-le-mul_right s.sites high);
  age = young;
}
