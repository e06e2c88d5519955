-- Why a site of the tie is barred, case by case, and that no site of the tie holds then.
use Rattle.std.proofs.Common.{◌≡◌, ℕ, true, false, cond, ◌||◌, inl, inr, arith}
use Rattle.std.proofs.lemmas.Bool.{cases_Bool, or_cases}
use Rattle.manager.specs.Meaning.{Meaning, is_holding}
use Rattle.manager.specs.declared.status.Status.TheVariants.{Holding}
use Rattle.tie_rules.specs.Sides.{Side, Own, inside, barred_on}
use Rattle.manager.proofs.Statuses.{holds_of}
use Rattle.tie_rules.proofs.Linked.{Linked, inside_holds, outside_holds, gateway_alone, holder_inside, inside_once}

pub data Barred (a b : Side) (o : Meaning) (i : ℕ) : Type 0 where
  -- the resource is in the island, where i is barred, or the gateway holds and takes it out
  island_bars : inside a.gate ≡ true → a.island.barred i ≡ true → Barred a b o i
  gateway_takes : inside a.gate ≡ true → a.island.status a.gateway ≡ Holding → Barred a b o i
  -- it is elsewhere, and the other side goes first at the outer manager, in its island, or by coming in
  post_barred : inside a.gate ≡ false → o.barred a.post ≡ true → Barred a b o i
  other_barred : inside a.gate ≡ false → inside b.gate ≡ true → b.island.barred b.gateway ≡ true → Barred a b o i
  other_comes : inside a.gate ≡ false → inside b.gate ≡ false → o.status b.post ≡ Holding → Barred a b o i

module _ (a b : Side) (o : Meaning) (i : ℕ) where
  pub barred_cases : barred_on a b o i ≡ true → Barred a b o i
  barred_cases h = elim (cases_Bool (inside a.gate)) [
    | inl e ↦
        let k : (a.island.barred i || is_holding (a.island.status a.gateway)) ≡ true = rw e at h in
        elim (or_cases (a.island.barred i) (is_holding (a.island.status a.gateway)) k) [
          | inl p ↦ island_bars e p
          | inr p ↦ gateway_takes e (holds_of (a.island.status a.gateway) p)
        ]
    | inr e ↦
        let k : (o.barred a.post || cond (inside b.gate) (b.island.barred b.gateway) (is_holding (o.status b.post))) ≡ true = rw e at h in
        elim (or_cases (o.barred a.post) (cond (inside b.gate) (b.island.barred b.gateway) (is_holding (o.status b.post))) k) [
          | inl p ↦ post_barred e p
          | inr p ↦ elim (cases_Bool (inside b.gate)) [
            | inl f ↦ other_barred e f (rw f at p)
            | inr f ↦ other_comes e f (holds_of (o.status b.post) (rw f at p))
          ]
        ]
  ]

  pub barred_from : Barred a b o i → barred_on a b o i ≡ true
  barred_from (island_bars e p) = grind arith
  barred_from (gateway_takes e p) = grind arith
  barred_from (post_barred e p) = grind arith
  barred_from (other_barred e f p) = grind arith
  barred_from (other_comes e f p) = grind arith

  module _ (v : Linked a b o) (own : Own a i) where
    pub barred_alone : Barred a b o i → (j : ℕ) → Own a j → a.island.status j ≡ Holding → ⊥
    barred_alone (island_bars e p) j k h = v.here.lawful.barred_free i j (omega (arith, v.here.sites)) (omega (arith, v.here.sites)) p h
    barred_alone (gateway_takes e p) j k h = gateway_alone a o v.here j k.0 p h
    barred_alone (post_barred e p) j k h = gateway_alone a o v.here j k.0 (outside_holds a o v.here e) h
    barred_alone (other_barred e f p) j k h = gateway_alone a o v.here j k.0 (outside_holds a o v.here e) h
    barred_alone (other_comes e f p) j k h = gateway_alone a o v.here j k.0 (outside_holds a o v.here e) h

    pub barred_alone_there : Barred a b o i → (j : ℕ) → Own b j → b.island.status j ≡ Holding → ⊥
    barred_alone_there (island_bars e p) j k h = inside_once a b o v e (holder_inside b o v.there j k.0 h)
    barred_alone_there (gateway_takes e p) j k h = inside_once a b o v e (holder_inside b o v.there j k.0 h)
    barred_alone_there (post_barred e p) j k h =
        v.outer.barred_free a.post b.post v.here.post v.there.post p (inside_holds b o v.there (holder_inside b o v.there j k.0 h))
    barred_alone_there (other_barred e f p) j k h = v.there.lawful.barred_free b.gateway j (omega (arith, v.there.sites)) (omega (arith, v.there.sites)) p h
    barred_alone_there (other_comes e f p) j k h = gateway_alone b o v.there j k.0 (outside_holds b o v.there f) h
