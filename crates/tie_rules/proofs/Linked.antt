-- What soundness says of two sides and of the outer manager between them, told alike from either side.
use Rattle.std.proofs.Common.{◌≡◌, ℕ, ◌+◌, ◌<◌, true, false, inl, inr, arith}
use Rattle.std.proofs.lemmas.Bool.{cases_Bool, cases_lt}
use Rattle.manager.specs.Laws.{Lawful}
use Rattle.manager.specs.Meaning.{Meaning, is_holding}
use Rattle.manager.specs.declared.status.Status.{Status}
use Rattle.manager.specs.declared.status.Status.TheVariants.{Idle, Holding}
use Rattle.tie_rules.specs.Invariant.{StandsAt, Stands, Unreached}
use Rattle.tie_rules.specs.Sides.{Side, Own, inside}
use Rattle.gateway.specs.declared.state.Gateway.{Gateway}
use Rattle.gateway.specs.declared.state.Gateway.TheVariants.{Out, Coming, In, Leaving}

pub record Sided (a : Side) (o : Meaning) : Type 0 where
  pub lawful : Lawful a.island
  pub sites : a.island.sites ≡ a.gateway + 1
  pub post : a.post < o.sites
  pub stands : Stands a o
  pub unreached : Unreached a

pub record Linked (a b : Side) (o : Meaning) : Type 0 where
  pub here : Sided a o
  pub there : Sided b o
  pub outer : Lawful o
  pub apart : a.post ≡ b.post → ⊥
  pub unused : (j : ℕ) → j < o.sites → (j ≡ a.post → ⊥) → (j ≡ b.post → ⊥) → o.status j ≡ Idle

pub linked_turned : {a b : Side} {o : Meaning} → Linked a b o → Linked b a o
linked_turned v = record {
  here = v.there;
  there = v.here;
  outer = v.outer;
  apart = λ e. v.apart (cc);
  unused = λ j l p q. v.unused j l q p;
}

pub holds_not : (x : Status) → is_holding x ≡ false → x ≡ Holding → ⊥
holds_not x h e = grind arith

inside_stands : (g : Gateway) (m : Meaning) (i : ℕ) (o : Meaning) (p : ℕ) → StandsAt g m i o p → inside g ≡ true → o.status p ≡ Holding
inside_stands Out m i o p s e = absurd (grind arith)
inside_stands Coming m i o p s e = absurd (grind arith)
inside_stands In m i o p s e = s.1
inside_stands Leaving m i o p s e = s.1

outside_stands : (g : Gateway) (m : Meaning) (i : ℕ) (o : Meaning) (p : ℕ) → StandsAt g m i o p → inside g ≡ false → m.status i ≡ Holding
outside_stands Out m i o p s e = s.0
outside_stands Coming m i o p s e = s.0
outside_stands In m i o p s e = absurd (grind arith)
outside_stands Leaving m i o p s e = absurd (grind arith)

module _ (a : Side) (o : Meaning) (v : Sided a o) where
  -- With the resource in its island, the side holds at the outer manager; else its gateway holds in the island.
  pub inside_holds : inside a.gate ≡ true → o.status a.post ≡ Holding
  inside_holds = inside_stands a.gate a.island a.gateway o a.post v.stands

  pub outside_holds : inside a.gate ≡ false → a.island.status a.gateway ≡ Holding
  outside_holds = outside_stands a.gate a.island a.gateway o a.post v.stands

  -- The gateway is the holder, so no other site is.
  pub gateway_alone : (i : ℕ) → i < a.gateway → a.island.status a.gateway ≡ Holding → a.island.status i ≡ Holding → ⊥
  gateway_alone i l g h = omega (arith, v.sites, v.lawful.exclusive i a.gateway (omega (arith, v.sites)) (omega (arith, v.sites)) h g)

  pub holder_inside : (i : ℕ) → i < a.gateway → a.island.status i ≡ Holding → inside a.gate ≡ true
  holder_inside i l h = elim (cases_Bool (inside a.gate)) [ inl e ↦ e | inr e ↦ absurd (gateway_alone i l (outside_holds e) h) ]

  -- A site of the island that is not idle is the tie's own, or the gateway.
  pub busy_own : (j : ℕ) → j < a.island.sites → (a.island.status j ≡ Idle → ⊥) → (j ≡ a.gateway → ⊥) → Own a j
  busy_own j l busy ne = elim (cases_lt (j + a.offset) 64) [
    | inl h ↦ (omega (arith, v.sites), h)
    | inr h ↦ absurd (busy (v.unreached j (omega (arith, v.sites)) h))
  ]

module _ (a b : Side) (o : Meaning) (v : Linked a b o) where
  pub outer_alone : o.status a.post ≡ Holding → o.status b.post ≡ Holding → ⊥
  outer_alone p q = v.apart (v.outer.exclusive a.post b.post v.here.post v.there.post p q)

  -- The resource is in one island at most.
  pub inside_once : inside a.gate ≡ true → inside b.gate ≡ true → ⊥
  inside_once p q = outer_alone (inside_holds a o v.here p) (inside_holds b o v.there q)

  -- An outer site that is not idle is a's or b's.
  pub busy_post : (j : ℕ) → j < o.sites → (o.status j ≡ Idle → ⊥) → (j ≡ a.post → ⊥) → (j ≡ b.post → ⊥) → ⊥
  busy_post j l busy p q = busy (v.unused j l p q)
