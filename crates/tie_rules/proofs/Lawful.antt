-- The meaning of two linked sides is lawful.
use Rattle.std.proofs.Common.{◌≡◌, ℕ, ◌+◌, ◌<◌, Bool, true, false, ◌⊎◌, sym, refl, ap, ◌∙◌, inl, inr, arith}
use Rattle.std.proofs.lemmas.Bool.{cases_eq}
use Rattle.counting.specs.Sums.{one_if}
use Rattle.manager.specs.Laws.{Lawful}
use Rattle.manager.specs.Meaning.{Meaning}
use Rattle.manager.specs.declared.status.Status.TheVariants.{Idle, Waiting, Holding}
use Rattle.tie_rules.specs.Invariant.{StandsAt}
use Rattle.tie_rules.specs.Reading.{things}
use Rattle.tie_rules.specs.Sides.{Side, Own, due}
use Rattle.gateway.specs.declared.state.Gateway.{Gateway}
use Rattle.gateway.specs.declared.state.Gateway.TheVariants.{Out, Coming, In, Leaving}
use Rattle.tie_rules.proofs.Barred.{barred_cases, barred_alone, barred_alone_there}
use Rattle.tie_rules.proofs.Linked.{Sided, Linked, linked_turned, holder_inside, busy_own, inside_once}
use Rattle.tie_rules.proofs.Views.{On, Views, views_turned, status_on, called_on, barred_at}

-- A gateway that is called in its island, while no move of it is due, waits at the outer manager.
called_waits : (g : Gateway) (a : Side) (o : Meaning) → a.gate ≡ g → StandsAt g a.island a.gateway o a.post → due a o ≡ false → a.island.status a.gateway ≡ Holding → a.island.called a.gateway ≡ true → o.status a.post ≡ Waiting
called_waits Out a o e s d h c = absurd (grind arith)
called_waits Coming a o e s d h c = grind arith
called_waits In a o e s d h c = absurd (grind arith)
called_waits Leaving a o e s d h c = absurd (grind arith)

-- A side that is called at the outer manager, while no move of its gateway is due, waits in its island.
holder_waits : (g : Gateway) (a : Side) (o : Meaning) → a.gate ≡ g → StandsAt g a.island a.gateway o a.post → due a o ≡ false → o.status a.post ≡ Holding → o.called a.post ≡ true → a.island.status a.gateway ≡ Waiting
holder_waits Out a o e s d h c = absurd (grind arith)
holder_waits Coming a o e s d h c = absurd (grind arith)
holder_waits In a o e s d h c = absurd (grind arith)
holder_waits Leaving a o e s d h c = grind arith

-- A gateway waits in its island only to leave, because the outer manager called it.
waits_leaving : (g : Gateway) (a : Side) (o : Meaning) → StandsAt g a.island a.gateway o a.post → a.island.status a.gateway ≡ Waiting → (o.status a.post ≡ Holding) × (o.called a.post ≡ true)
waits_leaving Out a o s w = absurd (grind arith)
waits_leaving Coming a o s w = absurd (grind arith)
waits_leaving In a o s w = absurd (grind arith)
waits_leaving Leaving a o s w = (s.1, s.2)

-- A side waits at the outer manager only to come, because its gateway was called in its island.
waits_coming : (g : Gateway) (a : Side) (o : Meaning) → StandsAt g a.island a.gateway o a.post → o.status a.post ≡ Waiting → (a.island.status a.gateway ≡ Holding) × (a.island.called a.gateway ≡ true)
waits_coming Out a o s w = absurd (grind arith)
waits_coming Coming a o s w = (s.0, s.1)
waits_coming In a o s w = absurd (grind arith)
waits_coming Leaving a o s w = absurd (grind arith)

one_if_none : (b : Bool) → one_if b ≡ 0 → b ≡ false
one_if_none true h = absurd (omega arith)
one_if_none false h = refl

things_none : (a b : Side) (o : Meaning) → things a b o ≡ 0 → (a.island.underway ≡ 0) × (b.island.underway ≡ 0) × (o.underway ≡ 0) × (due a o ≡ false) × (due b o ≡ false)
things_none a b o h = (omega arith, omega arith, omega arith, one_if_none (due a o) (omega arith), one_if_none (due b o) (omega arith))

-- A site of the tie that holds and is called, or that waits, on this side.
abbrev CalledOn : Side → Type 0
CalledOn a = (h : ℕ) × Own a h × (a.island.status h ≡ Holding) × (a.island.called h ≡ true)

abbrev WaitsOn : Side → Type 0
WaitsOn a = (h : ℕ) × Own a h × (a.island.status h ≡ Waiting)

module _ (a : Side) (o : Meaning) (v : Sided a o) where
  -- Whoever waits in an island with nothing under way waits for a site of the tie, or for the gateway.
  island_serves : (i : ℕ) → i < a.island.sites → a.island.status i ≡ Waiting → a.island.underway ≡ 0 → CalledOn a ⊎ ((a.island.status a.gateway ≡ Holding) × (a.island.called a.gateway ≡ true))
  island_serves i l w none =
      let s = v.lawful.served i l w none in
      elim (cases_eq s.0 a.gateway) [
        | inl e ↦ inr (ap a.island.status (sym e) ∙ s.2, ap a.island.called (sym e) ∙ s.3)
        | inr ne ↦ inl (s.0, busy_own a o v s.0 s.1 (λ q. grind (arith, s.2)) ne, s.2, s.3)
      ]

  -- A called site is wanted by a site of the tie, or by the gateway.
  island_wants : (i : ℕ) → i < a.island.sites → a.island.called i ≡ true → WaitsOn a ⊎ (a.island.status a.gateway ≡ Waiting)
  island_wants i l c =
      let s = v.lawful.called_wanted i l c in
      elim (cases_eq s.0 a.gateway) [
        | inl e ↦ inr (ap a.island.status (sym e) ∙ s.2)
        | inr ne ↦ inl (s.0, busy_own a o v s.0 s.1 (λ q. grind (arith, s.2)) ne, s.2)
      ]

module _ (a b : Side) (o : Meaning) (v : Linked a b o) where
  -- At the outer manager only the other side can be meant by what is said of some site there.
  other_post : (j : ℕ) → j < o.sites → (o.status j ≡ Idle → ⊥) → (j ≡ a.post → ⊥) → j ≡ b.post
  other_post j l busy ne = elim (cases_eq j b.post) [ inl e ↦ e | inr f ↦ absurd (busy (v.unused j l ne f)) ]

  outer_serves : o.status a.post ≡ Waiting → o.underway ≡ 0 → (o.status b.post ≡ Holding) × (o.called b.post ≡ true)
  outer_serves w none =
      let s = v.outer.served a.post v.here.post w none in
      let e : s.0 ≡ b.post = other_post s.0 s.1 (λ q. grind (arith, s.2)) (λ q. grind (arith, s.2)) in
      (ap o.status (sym e) ∙ s.2, ap o.called (sym e) ∙ s.3)

  outer_wants : o.called a.post ≡ true → o.status b.post ≡ Waiting
  outer_wants c =
      let s = v.outer.called_wanted a.post v.here.post c in
      let h = v.outer.called_holds a.post v.here.post c in
      let e : s.0 ≡ b.post = other_post s.0 s.1 (λ q. grind (arith, s.2)) (λ q. grind (arith, s.2)) in
      ap o.status (sym e) ∙ s.2

  side_served : (i : ℕ) → Own a i → a.island.status i ≡ Waiting → a.island.underway ≡ 0 → b.island.underway ≡ 0 → o.underway ≡ 0 → due a o ≡ false → due b o ≡ false → CalledOn a ⊎ CalledOn b
  side_served i own w none_a none_b none_o da db = elim (island_serves a o v.here i (omega (arith, v.here.sites)) w none_a) [
    | inl p ↦ inl p
    | inr p ↦
        let far = outer_serves (called_waits a.gate a o refl v.here.stands da p.0 p.1) none_o in
        let waits = holder_waits b.gate b o refl v.there.stands db far.0 far.1 in
        elim (island_serves b o v.there b.gateway (omega (arith, v.there.sites)) waits none_b) [ inl q ↦ inr q | inr q ↦ absurd (grind (arith, q.0)) ]
  ]

  side_wanted : (i : ℕ) → Own a i → a.island.called i ≡ true → WaitsOn a ⊎ WaitsOn b
  side_wanted i own c = elim (island_wants a o v.here i (omega (arith, v.here.sites)) c) [
    | inl p ↦ inl p
    | inr w ↦
        let far = waits_leaving a.gate a o v.here.stands w in
        let back = waits_coming b.gate b o v.there.stands (outer_wants far.1) in
        elim (island_wants b o v.there b.gateway (omega (arith, v.there.sites)) back.1) [ inl q ↦ inr q | inr q ↦ absurd (grind (arith, back.0)) ]
  ]

  module _ (m : Meaning) (old : ℕ) (w : Views m a b o old) where
    -- What is found on either side is found at the tie.
    called_found : CalledOn a ⊎ CalledOn b → (h : ℕ) × (h < m.sites) × (m.status h ≡ Holding) × (m.called h ≡ true)
    called_found (inl p) = (p.0 + a.offset, w.here.within p.0 p.1, w.here.status p.0 p.1 ∙ p.2, w.here.called p.0 p.1 ∙ p.3)
    called_found (inr p) = (p.0 + b.offset, w.there.within p.0 p.1, w.there.status p.0 p.1 ∙ p.2, w.there.called p.0 p.1 ∙ p.3)

    waits_found : WaitsOn a ⊎ WaitsOn b → (h : ℕ) × (h < m.sites) × (m.status h ≡ Waiting)
    waits_found (inl p) = (p.0 + a.offset, w.here.within p.0 p.1, w.here.status p.0 p.1 ∙ p.2)
    waits_found (inr p) = (p.0 + b.offset, w.there.within p.0 p.1, w.there.status p.0 p.1 ∙ p.2)

    -- With nothing under way at the tie, nothing is in any part, and no move of a gateway is due.
    served_at : (x : ℕ) → On a x → m.status x ≡ Waiting → m.underway ≡ 0 → (h : ℕ) × (h < m.sites) × (m.status h ≡ Holding) × (m.called h ≡ true)
    served_at x p waits none =
        let sum = things_none a b o (omega (arith, w.underway)) in
        called_found (side_served p.0 p.1 (sym (status_on w.here p) ∙ waits) sum.0 sum.1 sum.2 sum.3 sum.4)

    wanted_at : (x : ℕ) → On a x → m.called x ≡ true → (h : ℕ) × (h < m.sites) × (m.status h ≡ Waiting)
    wanted_at x p c = waits_found (side_wanted p.0 p.1 (sym (called_on w.here p) ∙ c))

    called_holds_at : (x : ℕ) → On a x → m.called x ≡ true → m.status x ≡ Holding
    called_holds_at x p c =
        status_on w.here p ∙ v.here.lawful.called_holds p.0 (omega (arith, v.here.sites, p.1)) (sym (called_on w.here p) ∙ c)

    exclusive_at : (x y : ℕ) → On a x → y < m.sites → m.status x ≡ Holding → m.status y ≡ Holding → x ≡ y
    exclusive_at x y p l h k =
        let hx : a.island.status p.0 ≡ Holding = sym (status_on w.here p) ∙ h in
        elim (w.side y l) [
          | inl q ↦ omega (arith, p.2, q.2, v.here.lawful.exclusive p.0 q.0 (omega (arith, v.here.sites, p.1)) (omega (arith, v.here.sites, q.1)) hx (sym (status_on w.here q) ∙ k))
          | inr q ↦ absurd (inside_once a b o v (holder_inside a o v.here p.0 p.1.0 hx) (holder_inside b o v.there q.0 q.1.0 (sym (status_on w.there q) ∙ k)))
        ]

    barred_free_at : (x y : ℕ) → On a x → y < m.sites → m.barred x ≡ true → m.status y ≡ Holding → ⊥
    barred_free_at x y p l bar k =
        let why = barred_cases a b o p.0 (sym (barred_at w.here p) ∙ bar) in
        elim (w.side y l) [
          | inl q ↦ barred_alone a b o p.0 v p.1 why q.0 q.1 (sym (status_on w.here q) ∙ k)
          | inr q ↦ barred_alone_there a b o p.0 v p.1 why q.0 q.1 (sym (status_on w.there q) ∙ k)
        ]

module _ (a b : Side) (o : Meaning) (v : Linked a b o) (m : Meaning) (old : ℕ) (w : Views m a b o old) where
  back : Linked b a o
  back = linked_turned v

  from_there : Views m b a o old
  from_there = views_turned a b o m old w

  pub linked_lawful : Lawful m
  linked_lawful = record {
    exclusive = λ x y l k. elim (w.side x l) [ inl p ↦ exclusive_at a b o v m old w x y p k | inr p ↦ exclusive_at b a o back m old from_there x y p k ];
    served = λ x l. elim (w.side x l) [ inl p ↦ served_at a b o v m old w x p | inr p ↦ served_at b a o back m old from_there x p ];
    called_holds = λ x l. elim (w.side x l) [ inl p ↦ called_holds_at a b o v m old w x p | inr p ↦ called_holds_at b a o back m old from_there x p ];
    called_wanted = λ x l. elim (w.side x l) [ inl p ↦ wanted_at a b o v m old w x p | inr p ↦ wanted_at b a o back m old from_there x p ];
    barred_free = λ x y l k. elim (w.side x l) [ inl p ↦ barred_free_at a b o v m old w x y p k | inr p ↦ barred_free_at b a o back m old from_there x y p k ];
  }
