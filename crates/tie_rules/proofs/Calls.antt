-- A call of an island at a site of the tie, and a step of an island or of the outer manager, as the tie shows it.
use Rattle.std.proofs.Common.{◌≡◌, ℕ, ◌+◌, ◌<◌, ◌≤◌, None, Option, sym, refl, ◌∙◌, inl, inr, arith}
use Rattle.manager.specs.Effects.{Asked, Freed, Stepped}
use Rattle.manager.specs.Laws.{Lawful}
use Rattle.manager.specs.Meaning.{Meaning}
use Rattle.manager.specs.declared.status.Status.TheVariants.{Holding}
use Rattle.tie_rules.specs.Reading.{lifted}
use Rattle.tie_rules.specs.Sides.{Side, at}
use Rattle.tie_rules.proofs.Barred.{island_bars, barred_from}
use Rattle.tie_rules.proofs.Kept.{island_here, island_there, outer_here}
use Rattle.tie_rules.proofs.Linked.{Linked, linked_turned, holder_inside}
use Rattle.tie_rules.proofs.Moves.{moves_most, settled_lasts, step_moves}
use Rattle.tie_rules.proofs.Sites.{Keeps, keeps_same, stepped_keeps, asked_keeps, freed_keeps, keeps_holding, keeps_idle, stands_kept, island_linked, outer_linked}
use Rattle.tie_rules.proofs.Tied.{sites_same, older, tie_called_lasts, tie_barred_lasts, toll_same, step_work, call_work, others_keep, all_keep, tie_granted, tie_stepped}
use Rattle.tie_rules.proofs.Views.{On, Views, status_on, called_on, barred_at}

module _ (a b : Side) (o : Meaning) (v : Linked a b o) where
  -- The island of side a is called at site i, its own, and keeps its gateway and the sites that never ask.
  module _ (m : Meaning) (lawful : Lawful m) (sites : m.sites ≡ a.island.sites) where
    pub kept_linked : ((j : ℕ) → j ≡ a.gateway → Keeps a.island m j) → ((j : ℕ) → j < a.gateway → 64 ≤ j + a.offset → Keeps a.island m j) → Linked (at a m a.gate) b o
    kept_linked gateway far =
        island_linked a b o v m a.gate lawful sites (stands_kept a.gate a.island m a.gateway o o a.post (gateway a.gateway refl) (keeps_same o a.post) v.here.stands) (λ j l k. keeps_idle (far j l k) (v.here.unreached j l k))

  module _ (m : Meaning) (lawful : Lawful m) (x : ℕ) (p : On a x) where
    pub ask_linked : Asked a.island p.0 m → Linked (at a m a.gate) b o
    ask_linked e =
        kept_linked m lawful e.sites (λ j q. asked_keeps j e (omega (arith, v.here.sites)) (λ r. omega (arith, p.1.0))) (λ j l k. asked_keeps j e (omega (arith, v.here.sites)) (λ r. omega (arith, p.1.1)))

    pub free_linked : Freed a.island p.0 m → a.island.status p.0 ≡ Holding → Linked (at a m a.gate) b o
    free_linked e holds =
        let own : p.0 < a.island.sites = omega (arith, v.here.sites, p.1.0) in
        kept_linked m lawful e.sites (λ j q. freed_keeps j v.here.lawful e own holds (omega (arith, v.here.sites)) (λ r. omega (arith, p.1.0))) (λ j l k. freed_keeps j v.here.lawful e own holds (omega (arith, v.here.sites)) (λ r. omega (arith, p.1.1)))

    module _ (t t' : Meaning) (old : ℕ) (w : Views t a b o old) (w' : Views t' (at a m a.gate) b o (old + 1)) where
      pub ask_shown : Asked a.island p.0 m → Asked t x t'
      ask_shown e =
          let v' = ask_linked e in
          let here = island_here a b o v m a.gate refl v' e.called e.barred (λ h. keeps_holding (asked_keeps a.gateway e (omega (arith, v.here.sites)) (λ r. omega (arith, p.1.0))) h) in
          let there = island_there a b o v m a.gate refl v' e.called e.barred in
          record {
            sites = sites_same a b o m o a.gate t t' old w w';
            toll = toll_same a b o m o a.gate t t' old w w' e.toll refl;
            asker = elim e.asker [ inl s ↦ inl (status_on w'.here p ∙ s) | inr s ↦ inr (status_on w'.here p ∙ s) ];
            others = others_keep a b o m o a.gate t t' old w w' x p (λ j own ne. e.others j (omega (arith, v.here.sites)) ne);
            called = tie_called_lasts a b o m o a.gate t t' old w w' here there;
            barred = tie_barred_lasts a b o m o a.gate t t' old w w' here there;
            work = call_work a b o m o a.gate t t' old w w' e.toll refl (omega (arith, e.work)) (moves_most (at a m a.gate) b o v');
            age = older a b o m o a.gate t t' old w w';
          }

      -- A called site frees into being barred in its island, where the resource is.
      pub free_shown : Freed a.island p.0 m → a.island.status p.0 ≡ Holding → Freed t x t'
      free_shown e holds = record {
        sites = sites_same a b o m o a.gate t t' old w w';
        toll = toll_same a b o m o a.gate t t' old w w' e.toll refl;
        freer = status_on w'.here p ∙ e.freer;
        others = others_keep a b o m o a.gate t t' old w w' x p (λ j own ne. e.others j (omega (arith, v.here.sites)) ne);
        bars = λ c. barred_at w'.here p ∙ barred_from (at a m a.gate) b o p.0 (island_bars (holder_inside a o v.here p.0 p.1.0 holds) (e.bars (sym (called_on w.here p) ∙ c)));
        work = call_work a b o m o a.gate t t' old w w' e.toll refl (omega (arith, e.work)) (moves_most (at a m a.gate) b o (free_linked e holds));
        age = older a b o m o a.gate t t' old w w';
      }

  -- A step of the island.
  module _ (m : Meaning) (lawful : Lawful m) (g : Option ℕ) (e : Stepped a.island g m) where
    pub step_linked : Linked (at a m a.gate) b o
    step_linked =
        kept_linked m lawful e.sites (λ j q. stepped_keeps j e (omega (arith, v.here.sites))) (λ j l k. stepped_keeps j e (omega (arith, v.here.sites)))

    pub step_shown : (t t' : Meaning) (old : ℕ) → Views t a b o old → Views t' (at a m a.gate) b o (old + 1) → Stepped t (lifted a.gateway a.offset g) t'
    step_shown t t' old w w' =
        let here = island_here a b o v m a.gate refl step_linked e.called e.barred (λ h. keeps_holding (stepped_keeps a.gateway e (omega (arith, v.here.sites))) h) in
        let there = island_there a b o v m a.gate refl step_linked e.called e.barred in
        let fewer = step_moves a b o v m (settled_lasts a o v.here m a.gate (λ i l h. keeps_holding (stepped_keeps i e (omega (arith, v.here.sites))) h) e.barred) in
        let granted = tie_granted a b o m o a.gate t t' old w w' g v.here e.granted in
        tie_stepped a b o m o a.gate t t' old w w' (lifted a.gateway a.offset g) e.toll refl granted here there (step_work a b o m o a.gate t t' old w w' e.toll refl (omega (arith, e.work)) fewer)

  -- A step of the outer manager: it grants nobody at the tie, whichever gateway it makes hold.
  module _ (o' : Meaning) (lawful : Lawful o') (g : Option ℕ) (e : Stepped o g o') where
    pub outer_step_linked : Linked a b o'
    outer_step_linked =
        outer_linked a b o v a.gate o' lawful e.sites (stands_kept a.gate a.island a.island a.gateway o o' a.post (keeps_same a.island a.gateway) (stepped_keeps a.post e v.here.post) v.here.stands) (stands_kept b.gate b.island b.island b.gateway o o' b.post (keeps_same b.island b.gateway) (stepped_keeps b.post e v.there.post) v.there.stands) (λ j l p q. stepped_keeps j e l)

    pub outer_step_shown : (t t' : Meaning) (old : ℕ) → Views t a b o old → Views t' a b o' (old + 1) → Stepped t None t'
    outer_step_shown t t' old w w' =
        let here = outer_here a b o v a.gate b.gate o' refl refl outer_step_linked e.sites e.barred (λ h. keeps_holding (stepped_keeps b.post e v.there.post) h) in
        let there = outer_here b a o (linked_turned v) b.gate a.gate o' refl refl (linked_turned outer_step_linked) e.sites e.barred (λ h. keeps_holding (stepped_keeps a.post e v.here.post) h) in
        let granted = all_keep a b o a.island o' a.gate t t' old w w' (λ j own. refl) in
        tie_stepped a b o a.island o' a.gate t t' old w w' None refl e.toll granted here there (step_work a b o a.island o' a.gate t t' old w w' refl e.toll (omega (arith, e.work)) (omega arith))
