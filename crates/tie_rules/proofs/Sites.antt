-- What a call of a part leaves of a site that it does not name, and of two linked sides.
use Rattle.std.proofs.Common.{◌≡◌, ℕ, ◌<◌, true, ◌⊎◌, Some, None, Option, refl, ◌∙◌, inl, inr, arith}
use Rattle.std.proofs.lemmas.Bool.{cases_eq}
use Rattle.manager.specs.Effects.{Asked, Freed, Stepped, Granted}
use Rattle.manager.specs.Laws.{Lawful}
use Rattle.manager.specs.Meaning.{Meaning}
use Rattle.manager.specs.declared.status.Status.TheVariants.{Idle, Waiting, Holding}
use Rattle.tie_rules.specs.Invariant.{StandsAt, Stands, Unreached}
use Rattle.tie_rules.specs.Sides.{Side, at}
use Rattle.gateway.specs.declared.state.Gateway.{Gateway}
use Rattle.gateway.specs.declared.state.Gateway.TheVariants.{Out, Coming, In, Leaving}
use Rattle.tie_rules.proofs.Linked.{Linked}

-- A site keeps its status, or comes to hold after waiting, and a called holder stays called.
pub record Keeps (m m' : Meaning) (j : ℕ) : Type 0 where
  pub status : (m'.status j ≡ m.status j) ⊎ ((m.status j ≡ Waiting) × (m'.status j ≡ Holding))
  pub called : m.status j ≡ Holding → m.called j ≡ true → m'.called j ≡ true

pub keeps_same : (m : Meaning) (j : ℕ) → Keeps m m j
keeps_same m j = record { status = inl refl; called = λ h c. c }

granted_status : (m : Meaning) (g : Option ℕ) (m' : Meaning) (j : ℕ) → Granted m g m' → j < m.sites → (m'.status j ≡ m.status j) ⊎ ((m.status j ≡ Waiting) × (m'.status j ≡ Holding))
granted_status m None m' j h l = inl (h j l)
granted_status m (Some i) m' j h l = elim (cases_eq j i) [ inl e ↦ inr (grind (arith, h.1), grind (arith, h.2)) | inr ne ↦ inl (h.3 j l ne) ]

pub stepped_keeps : {m m' : Meaning} {g : Option ℕ} (j : ℕ) → Stepped m g m' → j < m.sites → Keeps m m' j
stepped_keeps {m} {m'} {g} j e l = record { status = granted_status m g m' j e.granted l; called = λ h c. e.called j l c }

pub asked_keeps : {m m' : Meaning} {i : ℕ} (j : ℕ) → Asked m i m' → j < m.sites → (j ≡ i → ⊥) → Keeps m m' j
asked_keeps j e l ne = record { status = inl (e.others j l ne); called = λ h c. e.called j l c }

-- While i holds no other site does.
pub freed_keeps : {m m' : Meaning} {i : ℕ} (j : ℕ) → Lawful m → Freed m i m' → i < m.sites → m.status i ≡ Holding → j < m.sites → (j ≡ i → ⊥) → Keeps m m' j
freed_keeps {m} {m'} {i} j v e k holds l ne = record {
  status = inl (e.others j l ne);
  called = λ h c. absurd (ne (v.exclusive j i l k h holds));
}

pub keeps_holding : {m m' : Meaning} {j : ℕ} → Keeps m m' j → m.status j ≡ Holding → m'.status j ≡ Holding
keeps_holding k h = grind (arith, k.status)

pub keeps_idle : {m m' : Meaning} {j : ℕ} → Keeps m m' j → m.status j ≡ Idle → m'.status j ≡ Idle
keeps_idle k h = grind (arith, k.status)

-- Waiting leads only to holding.
pub keeps_busy : {m m' : Meaning} {j : ℕ} → Keeps m m' j → (m.status j ≡ Waiting) ⊎ (m.status j ≡ Holding) → (m'.status j ≡ Waiting) ⊎ (m'.status j ≡ Holding)
keeps_busy k (inl h) = elim k.status [ inl e ↦ inl (e ∙ h) | inr e ↦ inr e.1 ]
keeps_busy k (inr h) = inr (keeps_holding k h)

pub stands_kept : (g : Gateway) (m m' : Meaning) (i : ℕ) (o o' : Meaning) (p : ℕ) → Keeps m m' i → Keeps o o' p → StandsAt g m i o p → StandsAt g m' i o' p
stands_kept Out m m' i o o' p k l s = (keeps_holding k s.0, keeps_idle l s.1)
stands_kept Coming m m' i o o' p k l s = (keeps_holding k s.0, k.called s.0 s.1, keeps_busy l s.2)
stands_kept In m m' i o o' p k l s = (keeps_idle k s.0, keeps_holding l s.1)
stands_kept Leaving m m' i o o' p k l s = (keeps_busy k s.0, keeps_holding l s.1, l.called s.1 s.2)

module _ (a b : Side) (o : Meaning) (v : Linked a b o) where
  -- The island of side a is called, or the outer manager, and stays linked.
  pub island_linked : (m : Meaning) (g : Gateway) → Lawful m → m.sites ≡ a.island.sites → StandsAt g m a.gateway o a.post → Unreached (at a m g) → Linked (at a m g) b o
  island_linked m g lawful sites stands unreached = record {
    here = record { lawful = lawful; sites = sites ∙ v.here.sites; post = v.here.post; stands = stands; unreached = unreached };
    there = v.there;
    outer = v.outer;
    apart = v.apart;
    unused = v.unused;
  }

  pub outer_linked : (g : Gateway) (o' : Meaning) → Lawful o' → o'.sites ≡ o.sites → StandsAt g a.island a.gateway o' a.post → Stands b o' → ((j : ℕ) → j < o.sites → (j ≡ a.post → ⊥) → (j ≡ b.post → ⊥) → Keeps o o' j) → Linked (at a a.island g) b o'
  outer_linked g o' lawful sites stands_a stands_b keeps = record {
    here = record { lawful = v.here.lawful; sites = v.here.sites; post = omega (arith, v.here.post); stands = stands_a; unreached = v.here.unreached };
    there = record { lawful = v.there.lawful; sites = v.there.sites; post = omega (arith, v.there.post); stands = stands_b; unreached = v.there.unreached };
    outer = lawful;
    apart = v.apart;
    unused = λ j l p q. let k : j < o.sites = omega arith in keeps_idle (keeps j k p q) (v.unused j k p q);
  }
