-- The coming of a REPLY: where it was the last, its receiver holds.
use Rattle.std.proofs.Common.{◌≡◌, ℕ, ◌+◌, true, false, Some, None, sym, ap, ◌∙◌}
use Rattle.std.proofs.lemmas.Bool.{cond-true, cond-false}
use Rattle.counting.specs.Sums.{upd}
use Rattle.counting.specs.Tables.{upd2}
use Rattle.manager.specs.declared.status.Status.{Status}
use Rattle.manager.specs.declared.status.Status.TheVariants.{Holding}
use Rattle.ricart_rules.specs.Rules.{completes, replied, served}
use Rattle.ricart_rules.specs.State.{State}
use Rattle.ricart_rules.specs.declared.Stage.TheVariants.{Received}
use Rattle.ricart_agrawala.specs.Receiving.{noted, is_served, holding}

module _ (s next : State) (a b : ℕ) (noting : next ≡ noted s a b) where
  -- The state once the REPLY is noted, by its statuses.
  abbrev after_reply : (ℕ → Status) → State
  after_reply status = record {
    sites = s.sites;
    status = status;
    highest = s.highest;
    number = s.number;
    stage = upd2 s.stage b a Received;
    age = s.age + 1;
  }

  pub last_reply : (after : State) → is_served next b ≡ true → after ≡ holding next b → (after ≡ replied s a b) × (Some b ≡ served s a b)
  last_reply after all e =
      let done : completes s a b ≡ true = sym (ap (λ t. is_served t b) noting) ∙ all in (
        e ∙ ap (λ t. holding t b) noting ∙ ap after_reply (sym (cond-true (completes s a b) (upd s.status b Holding) s.status done)),
        sym (cond-true (completes s a b) (Some b) None done),
      )

  pub early_reply : is_served next b ≡ false → (next ≡ replied s a b) × (None ≡ served s a b)
  early_reply more =
      let open_still : completes s a b ≡ false = sym (ap (λ t. is_served t b) noting) ∙ more in (
        noting ∙ ap after_reply (sym (cond-false (completes s a b) (upd s.status b Holding) s.status open_still)),
        sym (cond-false (completes s a b) (Some b) None open_still),
      )
