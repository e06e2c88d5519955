-- How many moves gateways can still make: at most six, fewer after each move, and never more after a step of a part.
use Rattle.std.proofs.Common.{◌≡◌, ℕ, ◌+◌, ◌<◌, ◌≤◌, Bool, true, false, is_some, ap, inl, inr, arith}
use Rattle.std.proofs.lemmas.Bool.{cases_Bool, or_cases, or_left, or_right, both_ways}
use Rattle.manager.specs.Answers.{first}
use Rattle.manager.specs.Effects.{BarredLasts}
use Rattle.manager.specs.Meaning.{Meaning, is_holding}
use Rattle.manager.specs.declared.status.Status.TheVariants.{Holding}
use Rattle.tie_rules.specs.Sides.{Side, at, inside, settled, weigh, moves}
use Rattle.gateway.specs.declared.state.Gateway.{Gateway}
use Rattle.gateway.specs.declared.state.Gateway.TheVariants.{Out, Coming, In, Leaving}
use Rattle.manager.proofs.First.{first_found, first_some}
use Rattle.manager.proofs.Statuses.{holds_of}
use Rattle.tie_rules.proofs.Linked.{Sided, Linked, inside_holds, gateway_alone, outer_alone, inside_once}

-- One of the island's sites below the gateway holds.
abbrev own_holds : Side → Bool
own_holds a = is_some (first (λ i. is_holding (a.island.status i)) a.gateway)

holder_found : (a : Side) (i : ℕ) → i < a.gateway → a.island.status i ≡ Holding → own_holds a ≡ true
holder_found a i l h = first_found (λ j. is_holding (a.island.status j)) a.gateway i l (ap is_holding h)

pub barred_settles : (a : Side) → a.island.barred a.gateway ≡ true → settled a ≡ true
barred_settles a h = or_right (own_holds a) (a.island.barred a.gateway) h

pub holder_settles : (a : Side) (i : ℕ) → i < a.gateway → a.island.status i ≡ Holding → settled a ≡ true
holder_settles a i l h = or_left (own_holds a) (a.island.barred a.gateway) (holder_found a i l h)

module _ (a : Side) (o : Meaning) (v : Sided a o) where
  -- Once settled, a side stays so while its holders hold on.
  pub settled_lasts : (m : Meaning) (g : Gateway) → ((i : ℕ) → i < a.gateway → a.island.status i ≡ Holding → m.status i ≡ Holding) → BarredLasts a.island m → settled a ≡ true → settled (at a m g) ≡ true
  settled_lasts m g holds bars s = elim (cases_Bool (own_holds (at a m g))) [
    | inl h ↦ or_left (own_holds (at a m g)) (m.barred a.gateway) h
    | inr none ↦ elim (or_cases (own_holds a) (a.island.barred a.gateway) s) [
      | inl h ↦
          let f = first_some (λ j. is_holding (a.island.status j)) a.gateway h in
          holder_settles (at a m g) f.0 f.1 (holds f.0 f.1 (holds_of (a.island.status f.0) f.2))
      | inr h ↦
          barred_settles (at a m g) (bars a.gateway (omega (arith, v.sites)) h (λ j l ne k. both_ways (own_holds (at a m g)) none (holder_found (at a m g) j (omega (arith, v.sites)) k))).0
    ]
  ]

  -- A gateway that holds in its island is not barred there, and no other site holds.
  pub taking_unsettled : a.island.status a.gateway ≡ Holding → settled a ≡ false
  taking_unsettled h = elim (cases_Bool (settled a)) [
    | inr s ↦ s
    | inl s ↦ absurd (elim (or_cases (own_holds a) (a.island.barred a.gateway) s) [
      | inl k ↦ let f = first_some (λ j. is_holding (a.island.status j)) a.gateway k in gateway_alone a o v f.0 f.1 h (holds_of (a.island.status f.0) f.2)
      | inr k ↦ v.lawful.barred_free a.gateway a.gateway (omega (arith, v.sites)) (omega (arith, v.sites)) k h
    ])
  ]

weigh_most : (g : Gateway) (s : Bool) → weigh g s ≤ 5
weigh_most g s = grind arith

weigh_outside : (g : Gateway) (s : Bool) → inside g ≡ false → weigh g s ≤ 1
weigh_outside g s e = grind arith

weigh_kept : (g : Gateway) (s s' : Bool) → (s ≡ true → s' ≡ true) → weigh g s' ≤ weigh g s
weigh_kept g s s' h = grind arith

weigh_recalls : (s s' : Bool) → (s ≡ true → s' ≡ true) → weigh Leaving s' + 1 ≤ weigh In s
weigh_recalls s s' h = grind arith

module _ (a b : Side) (o : Meaning) (v : Linked a b o) where
  pub moves_most : moves a b ≤ 6
  moves_most = elim (cases_Bool (inside a.gate)) [
    | inl e ↦ elim (cases_Bool (inside b.gate)) [
      | inl f ↦ absurd (inside_once a b o v e f)
      | inr f ↦ rw e (omega (arith, weigh_most a.gate (settled a), weigh_outside b.gate (settled b) f))
    ]
    | inr e ↦ elim (cases_Bool (inside b.gate)) [
      | inl f ↦ rw (e, f) (omega (arith, weigh_most b.gate (settled b), weigh_outside a.gate (settled a) e))
      | inr f ↦ rw (e, f) (omega (arith, weigh_outside a.gate (settled a) e, weigh_outside b.gate (settled b) f))
    ]
  ]

  -- While a holds at the outer manager, the resource is not in b's island.
  outside_there : o.status a.post ≡ Holding → inside b.gate ≡ false
  outside_there h = elim (cases_Bool (inside b.gate)) [ inl f ↦ absurd (outer_alone a b o v h (inside_holds b o v.there f)) | inr f ↦ f ]

  pub step_moves : (m : Meaning) → (settled a ≡ true → settled (at a m a.gate) ≡ true) → moves (at a m a.gate) b ≤ moves a b
  step_moves m lasts = omega (arith, weigh_kept a.gate (settled a) (settled (at a m a.gate)) lasts)

  pub asking_moves : a.gate ≡ Out → moves (at a a.island Coming) b + 1 ≤ moves a b
  asking_moves e = rw e (omega arith)

  pub arriving_moves : (m : Meaning) → a.gate ≡ Coming → o.status a.post ≡ Holding → m.barred a.gateway ≡ true → moves (at a m In) b + 1 ≤ moves a b
  arriving_moves m e h bars = rw (e, barred_settles (at a m In) bars, outside_there h) (omega arith)

  pub recalling_moves : (m : Meaning) → a.gate ≡ In → (settled a ≡ true → settled (at a m Leaving) ≡ true) → moves (at a m Leaving) b + 1 ≤ moves a b
  recalling_moves m e lasts = rw e (omega (arith, weigh_recalls (settled a) (settled (at a m Leaving)) lasts))

  pub leaving_moves : a.gate ≡ Leaving → o.status a.post ≡ Holding → a.island.status a.gateway ≡ Holding → moves (at a a.island Out) b + 1 ≤ moves a b
  leaving_moves e h k = rw (e, taking_unsettled a o v.here k, outside_there h) (omega arith)
