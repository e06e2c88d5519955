-- Called and barred marks of one side's sites last through whatever befalls a part.
use Rattle.std.proofs.Common.{◌≡◌, ℕ, ◌<◌, true, false, refl, ◌∙◌, inl, inr, arith}
use Rattle.std.proofs.lemmas.Bool.{cases_Bool, both_ways}
use Rattle.manager.specs.Effects.{CalledLasts, BarredLasts}
use Rattle.manager.specs.Meaning.{Meaning, is_holding}
use Rattle.manager.specs.declared.status.Status.TheVariants.{Holding}
use Rattle.tie_rules.specs.Sides.{Side, at, Own, inside}
use Rattle.gateway.specs.declared.state.Gateway.{Gateway}
use Rattle.gateway.specs.declared.state.Gateway.TheVariants.{Out, In}
use Rattle.tie_rules.proofs.Barred.{Barred, island_bars, gateway_takes, post_barred, other_barred, other_comes, barred_alone}
use Rattle.manager.proofs.Statuses.{holds_of}
use Rattle.tie_rules.proofs.Linked.{Linked, linked_turned, holds_not, inside_holds, outside_holds, gateway_alone, busy_own, outer_alone, inside_once, busy_post}

-- Sides a and b with the outer manager o have become a', b' and o': what lasts for the sites of a.
pub record Kept (a b : Side) (o : Meaning) (a' b' : Side) (o' : Meaning) : Type 0 where
  pub called : (i : ℕ) → Own a i → a.island.called i ≡ true → a'.island.called i ≡ true
  pub barred : (i : ℕ) → Own a i → Barred a b o i → ((j : ℕ) → Own a j → (j ≡ i → ⊥) → a'.island.status j ≡ Holding → ⊥) → ((j : ℕ) → Own b j → b'.island.status j ≡ Holding → ⊥) → Barred a' b' o' i × (a'.island.status i ≡ Holding → ⊥)

module _ (a b : Side) (o : Meaning) (v : Linked a b o) where
  -- A barred site does not hold, and still does not where its island is left alone.
  idle_still : (i : ℕ) → Own a i → Barred a b o i → a.island.status i ≡ Holding → ⊥
  idle_still i own why h = barred_alone a b o i v own why i own h

  -- Their own island is called, and the gateway does not pass between in and out.
  module _ (m : Meaning) (g : Gateway) (way : inside g ≡ inside a.gate) (v' : Linked (at a m g) b o) (calls : CalledLasts a.island m) (bars : BarredLasts a.island m) where
    beside_gateway : (j : ℕ) → j < a.island.sites → (j ≡ a.gateway → ⊥) → m.status j ≡ Holding → Own a j
    beside_gateway j l ne h = busy_own (at a m g) o v'.here j (omega (arith, v.here.sites, v'.here.sites)) (λ q. grind arith) ne

    gateway_first : (i : ℕ) → Own a i → inside a.gate ≡ true → m.status a.gateway ≡ Holding → Barred (at a m g) b o i × (m.status i ≡ Holding → ⊥)
    gateway_first i own e h = (gateway_takes (way ∙ e) h, gateway_alone (at a m g) o v'.here i own.0 h)

    gateway_still : (i : ℕ) → Own a i → inside a.gate ≡ false → m.status i ≡ Holding → ⊥
    gateway_still i own e = gateway_alone (at a m g) o v'.here i own.0 (outside_holds (at a m g) o v'.here (way ∙ e))

    pub island_here : (a.island.status a.gateway ≡ Holding → m.status a.gateway ≡ Holding) → Kept a b o (at a m g) b o
    island_here holds = record {
      called = λ i own. calls i (omega (arith, v.here.sites));
      barred = bar;
    }
      where
        bar : (i : ℕ) → Own a i → Barred a b o i → ((j : ℕ) → Own a j → (j ≡ i → ⊥) → m.status j ≡ Holding → ⊥) → ((j : ℕ) → Own b j → b.island.status j ≡ Holding → ⊥) → Barred (at a m g) b o i × (m.status i ≡ Holding → ⊥)
        bar i own (island_bars e p) alone far = elim (cases_Bool (is_holding (m.status a.gateway))) [
          | inl h ↦ gateway_first i own e (holds_of (m.status a.gateway) h)
          | inr h ↦
              let r = bars i (omega (arith, v.here.sites)) p (λ j l ne k. alone j (beside_gateway j l (λ q. holds_not (m.status a.gateway) h (grind arith)) k) ne k) in
              (island_bars (way ∙ e) r.0, r.1)
        ]
        bar i own (gateway_takes e p) alone far = gateway_first i own e (holds p)
        bar i own (post_barred e p) alone far = (post_barred (way ∙ e) p, gateway_still i own e)
        bar i own (other_barred e f p) alone far = (other_barred (way ∙ e) f p, gateway_still i own e)
        bar i own (other_comes e f p) alone far = (other_comes (way ∙ e) f p, gateway_still i own e)

    -- The same call as the sites of the other side meet it.
    pub island_there : Kept b a o b (at a m g) o
    island_there = record { called = λ i own c. c; barred = λ i own why alone far. (bar i why far, barred_alone b a o i (linked_turned v) own why i own) }
      where
        bar : (i : ℕ) → Barred b a o i → ((j : ℕ) → Own a j → m.status j ≡ Holding → ⊥) → Barred b (at a m g) o i
        bar i (island_bars e p) far = island_bars e p
        bar i (gateway_takes e p) far = gateway_takes e p
        bar i (post_barred e p) far = post_barred e p
        bar i (other_barred e f p) far =
            other_barred e (way ∙ f) (bars a.gateway (omega (arith, v.here.sites)) p (λ j l ne k. far j (beside_gateway j l ne k) k)).0
        bar i (other_comes e f p) far = other_comes e (way ∙ f) p

  -- The outer manager is called, and neither gateway passes between in and out.
  pub outer_here : (g h : Gateway) (o' : Meaning) → inside g ≡ inside a.gate → inside h ≡ inside b.gate → Linked (at a a.island g) (at b b.island h) o' → o'.sites ≡ o.sites → BarredLasts o o' → (o.status b.post ≡ Holding → o'.status b.post ≡ Holding) → Kept a b o (at a a.island g) (at b b.island h) o'
  outer_here g h o' way way_b v' sites bars holds = record { called = λ i own c. c; barred = λ i own why alone far. (bar i why, idle_still i own why) }
    where
      comes : (i : ℕ) → inside a.gate ≡ false → o.barred a.post ≡ true → o'.status b.post ≡ Holding → Barred (at a a.island g) (at b b.island h) o' i
      comes i e p k = elim (cases_Bool (inside b.gate)) [
        | inl f ↦ absurd (v.outer.barred_free a.post b.post v.here.post v.there.post p (inside_holds b o v.there f))
        | inr f ↦ other_comes (way ∙ e) (way_b ∙ f) k
      ]

      bar : (i : ℕ) → Barred a b o i → Barred (at a a.island g) (at b b.island h) o' i
      bar i (island_bars e p) = island_bars (way ∙ e) p
      bar i (gateway_takes e p) = gateway_takes (way ∙ e) p
      bar i (post_barred e p) = elim (cases_Bool (is_holding (o'.status b.post))) [
        | inl k ↦ comes i e p (holds_of (o'.status b.post) k)
        | inr k ↦ post_barred (way ∙ e) (bars a.post v.here.post p (λ j l ne q. busy_post (at a a.island g) (at b b.island h) o' v' j (omega arith) (λ r. grind arith) ne (λ r. holds_not (o'.status b.post) k (grind arith)))).0
      ]
      bar i (other_barred e f p) = other_barred (way ∙ e) (way_b ∙ f) p
      bar i (other_comes e f p) = other_comes (way ∙ e) (way_b ∙ f) (holds p)

  -- The gateway of a, holding at the outer manager, frees its island and is in: no site was barred or called on its
  -- side, and the other side's are barred since the gateway is.
  pub arrives_here : (m : Meaning) → inside a.gate ≡ false → o.status a.post ≡ Holding → Kept a b o (at a m In) b o
  arrives_here m out holds = record {
    called = λ i own c. absurd (gateway_alone a o v.here i own.0 (outside_holds a o v.here out) (v.here.lawful.called_holds i (omega (arith, v.here.sites)) c));
    barred = λ i own why alone far. absurd (none i why);
  }
    where
      none : (i : ℕ) → Barred a b o i → ⊥
      none i (island_bars e p) = both_ways (inside a.gate) out e
      none i (gateway_takes e p) = both_ways (inside a.gate) out e
      none i (post_barred e p) = v.outer.barred_free a.post a.post v.here.post v.here.post p holds
      none i (other_barred e f p) = outer_alone a b o v holds (inside_holds b o v.there f)
      none i (other_comes e f p) = outer_alone a b o v holds p

  pub arrives_there : (m : Meaning) → o.status a.post ≡ Holding → m.barred a.gateway ≡ true → Kept b a o b (at a m In) o
  arrives_there m holds bars = record {
    called = λ i own c. c;
    barred = λ i own why alone far. (
      elim (cases_Bool (inside b.gate)) [ inl f ↦ absurd (outer_alone a b o v holds (inside_holds b o v.there f)) | inr f ↦ other_barred f refl bars ],
      barred_alone b a o i (linked_turned v) own why i own,
    );
  }

  -- The gateway of a, holding in its island, frees at the outer manager and is out: its side is barred there, and no
  -- site of the other side was barred.
  pub leaves_here : (o' : Meaning) → o'.barred a.post ≡ true → Kept a b o (at a a.island Out) b o'
  leaves_here o' bars = record { called = λ i own c. c; barred = λ i own why alone far. (post_barred refl bars, idle_still i own why) }

  pub leaves_there : (o' : Meaning) → inside a.gate ≡ true → a.island.status a.gateway ≡ Holding → Kept b a o b (at a a.island Out) o'
  leaves_there o' came holds = record { called = λ i own c. c; barred = λ i own why alone far. absurd (none i why) }
    where
      none : (i : ℕ) → Barred b a o i → ⊥
      none i (island_bars e p) = inside_once a b o v came e
      none i (gateway_takes e p) = inside_once a b o v came e
      none i (post_barred e p) = v.outer.barred_free b.post a.post v.there.post v.here.post p (inside_holds a o v.here came)
      none i (other_barred e f p) = v.here.lawful.barred_free a.gateway a.gateway (omega (arith, v.here.sites)) (omega (arith, v.here.sites)) p holds
      none i (other_comes e f p) = both_ways (inside a.gate) f came
