-- What befalls side a and the outer manager, as the tie shows it.
use Rattle.std.proofs.Common.{◌≡◌, ℕ, ◌+◌, ◌*◌, ◌<◌, ◌≤◌, true, eqb, Some, None, Option, sym, refl, ◌∙◌, inl, inr, mul-le-mul_left, mul-one, mul-add, arith}
use Rattle.std.proofs.lemmas.Bool.{cond_both, eqb-true, eqb-false}
use Rattle.manager.specs.Effects.{OthersKeep, CalledLasts, BarredLasts, Granted, Stepped}
use Rattle.manager.specs.Meaning.{Meaning}
use Rattle.manager.specs.declared.status.Status.TheVariants.{Holding}
use Rattle.tie_rules.specs.Reading.{largest, lifted}
use Rattle.tie_rules.specs.Sides.{Side, at, Own, moves}
use Rattle.gateway.specs.declared.state.Gateway.{Gateway}
use Rattle.tie_rules.proofs.Barred.{barred_cases, barred_from}
use Rattle.tie_rules.proofs.Kept.{Kept}
use Rattle.tie_rules.proofs.Linked.{Sided, busy_own}
use Rattle.tie_rules.proofs.Views.{On, Views, views_turned, status_on, called_on, barred_at}

module _ (a b : Side) (o m n o' : Meaning) (g h : Gateway) (t t' : Meaning) (old old' : ℕ) (w : Views t a b o old) (w' : Views t' (at a m g) (at b n h) o' old') (k : Kept a b o (at a m g) (at b n h) o') where
  called_lasts : (x : ℕ) → On a x → t.called x ≡ true → t'.called x ≡ true
  called_lasts x p c = called_on w'.here p ∙ k.called p.0 p.1 (sym (called_on w.here p) ∙ c)

  barred_lasts : (x : ℕ) → On a x → t.barred x ≡ true → ((y : ℕ) → y < t.sites → (y ≡ x → ⊥) → t'.status y ≡ Holding → ⊥) → (t'.barred x ≡ true) × (t'.status x ≡ Holding → ⊥)
  barred_lasts x p bar alone =
      let why = barred_cases a b o p.0 (sym (barred_at w.here p) ∙ bar) in
      let r = k.barred p.0 p.1 why (λ j own ne q. alone (j + a.offset) (w.here.within j own) (λ e. ne (omega (arith, p.2))) (w'.here.status j own ∙ q)) (λ j own q. alone (j + b.offset) (w.there.within j own) (λ e. w.apart p.0 j p.1 own (omega (arith, p.2))) (w'.there.status j own ∙ q)) in
      (barred_at w'.here p ∙ barred_from (at a m g) (at b n h) o' p.0 r.0, λ q. r.1 (sym (status_on w'.here p) ∙ q))

-- Fewer moves, each worth k, are worth less.
fewer_moves : (k n n' : ℕ) → n' + 1 ≤ n → k * n' + k ≤ k * n
fewer_moves k n n' l = omega (arith, mul-le-mul_left k l, mul-add k n' 1, mul-one k)

module _ (a b : Side) (o m o' : Meaning) (g : Gateway) (t t' : Meaning) (old : ℕ) (w : Views t a b o old) (w' : Views t' (at a m g) b o' (old + 1)) where
  pub sites_same : t'.sites ≡ t.sites
  sites_same = w'.sites ∙ sym w.sites

  pub older : t'.age ≡ t.age + 1
  older = omega (arith, w.age, w'.age)

  module _ (here : Kept a b o (at a m g) b o') (there : Kept b a o b (at a m g) o') where
    pub tie_called_lasts : CalledLasts t t'
    tie_called_lasts x l = elim (w.side x l) [
      | inl p ↦ called_lasts a b o m b.island o' g b.gate t t' old (old + 1) w w' here x p
      | inr p ↦ called_lasts b a o b.island m o' b.gate g t t' old (old + 1) (views_turned a b o t old w) (views_turned (at a m g) b o' t' (old + 1) w') there x p
    ]

    pub tie_barred_lasts : BarredLasts t t'
    tie_barred_lasts x l = elim (w.side x l) [
      | inl p ↦ barred_lasts a b o m b.island o' g b.gate t t' old (old + 1) w w' here x p
      | inr p ↦ barred_lasts b a o b.island m o' b.gate g t t' old (old + 1) (views_turned a b o t old w) (views_turned (at a m g) b o' t' (old + 1) w') there x p
    ]

  module _ (toll : m.toll ≡ a.island.toll) (outer_toll : o'.toll ≡ o.toll) where
    largest_same : largest (at a m g) b o' ≡ largest a b o
    largest_same = omega arith

    pub toll_same : t'.toll ≡ t.toll
    toll_same = omega (arith, largest_same, w.toll, w'.toll)

    work_after : t'.work ≡ m.work + b.island.work + o'.work + (largest a b o + 1) * moves (at a m g) b
    work_after =
        let same = largest_same in
        let after = w'.work in
        cc

    -- A step of a part lowers its work and raises no moves.
    pub step_work : m.work + o'.work + 1 ≤ a.island.work + o.work → moves (at a m g) b ≤ moves a b → t'.work + 1 ≤ t.work
    step_work less fewer = omega (arith, work_after, w.work, mul-le-mul_left (largest a b o + 1) fewer)

    -- A move of a gateway adds at most a part's toll, and there is one move fewer.
    pub move_work : m.work + o'.work ≤ a.island.work + o.work + largest a b o → moves (at a m g) b + 1 ≤ moves a b → t'.work + 1 ≤ t.work
    move_work more fewer = omega (arith, work_after, w.work, fewer_moves (largest a b o + 1) (moves a b) (moves (at a m g) b) fewer)

    -- An ask or a free adds at most a part's toll and six moves.
    pub call_work : m.work + o'.work ≤ a.island.work + o.work + largest a b o → moves (at a m g) b ≤ 6 → t'.work ≤ t.work + t.toll
    call_work more few = omega (arith, work_after, w.work, w.toll, mul-le-mul_left (largest a b o + 1) few)

  -- The tie's statuses follow those of side a.
  pub others_keep : (x : ℕ) → (p : On a x) → ((j : ℕ) → Own a j → (j ≡ p.0 → ⊥) → m.status j ≡ a.island.status j) → OthersKeep t x t'
  others_keep x p keep y l ne = elim (w.side y l) [
    | inl q ↦ status_on w'.here q ∙ keep q.0 q.1 (λ e. ne (omega (arith, p.2, q.2))) ∙ sym (status_on w.here q)
    | inr q ↦ status_on w'.there q ∙ sym (status_on w.there q)
  ]

  pub all_keep : ((j : ℕ) → Own a j → m.status j ≡ a.island.status j) → (y : ℕ) → y < t.sites → t'.status y ≡ t.status y
  all_keep keep y l = elim (w.side y l) [
    | inl q ↦ status_on w'.here q ∙ keep q.0 q.1 ∙ sym (status_on w.here q)
    | inr q ↦ status_on w'.there q ∙ sym (status_on w.there q)
  ]

  -- A grant in the island is one at the tie, unless it is the gateway's.
  pub tie_granted : (i : Option ℕ) → Sided a o → Granted a.island i m → Granted t (lifted a.gateway a.offset i) t'
  tie_granted None v keep = all_keep (λ j own. keep j (omega (arith, v.sites)))
  tie_granted (Some i) v (l, waits, holds, keep) =
      cond_both (eqb i a.gateway) None (Some (i + a.offset)) (λ r. Granted t r t') (λ e. all_keep (λ j own. keep j (omega (arith, v.sites)) (λ q. omega (arith, eqb-true i a.gateway e)))) (λ e.
      let own : Own a i = busy_own a o v i l (λ q. grind arith) (eqb-false i a.gateway e) in
      (w.here.within i own, w.here.status i own ∙ waits, w'.here.status i own ∙ holds, others_keep (i + a.offset) (i, own, refl) (λ j own_j ne. keep j (omega (arith, v.sites)) ne)))

  -- All that a step has to do.
  pub tie_stepped : (r : Option ℕ) → m.toll ≡ a.island.toll → o'.toll ≡ o.toll → Granted t r t' → Kept a b o (at a m g) b o' → Kept b a o b (at a m g) o' → t'.work + 1 ≤ t.work → Stepped t r t'
  tie_stepped r toll outer_toll granted here there work = record {
    sites = sites_same;
    toll = toll_same toll outer_toll;
    granted = granted;
    called = tie_called_lasts here there;
    barred = tie_barred_lasts here there;
    work = work;
    age = older;
  }
