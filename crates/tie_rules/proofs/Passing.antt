-- The four moves of a gateway, as the tie shows them: each keeps the sides linked and is a step that grants nobody.
use Rattle.std.proofs.Common.{◌≡◌, ℕ, ◌+◌, ◌<◌, true, false, Some, None, sym, refl, ap, ◌∙◌, arith}
use Rattle.std.proofs.lemmas.Bool.{cond-true}
use Rattle.std.proofs.lemmas.Bool.Decides.{nat_tests}
use Rattle.manager.specs.Effects.{Asked, Freed, Stepped}
use Rattle.manager.specs.Laws.{Lawful}
use Rattle.manager.specs.Meaning.{Meaning, limit}
use Rattle.manager.specs.declared.refusal.Refusal.TheVariants.{NoThing}
use Rattle.manager.specs.declared.status.Status.TheVariants.{Holding}
use Rattle.tie_rules.specs.Invariant.{StandsAt}
use Rattle.gateway.specs.Automaton.{due as due_between}
use Rattle.gateway.specs.Moves.{call_refused, move_refused}
use Rattle.tie_rules.specs.Sides.{Side, at, inside, due}
use Rattle.gateway.specs.declared.state.Gateway.{Gateway}
use Rattle.gateway.specs.declared.state.Gateway.TheVariants.{Out, Coming, In, Leaving}
use Rattle.manager.proofs.Accepted.{ask_accepted, free_accepted}
use Rattle.tie_rules.proofs.Kept.{island_here, island_there, outer_here, arrives_here, arrives_there, leaves_here, leaves_there}
use Rattle.tie_rules.proofs.Linked.{Sided, Linked, linked_turned}
use Rattle.tie_rules.proofs.Moves.{settled_lasts, asking_moves, arriving_moves, recalling_moves, leaving_moves}
use Rattle.tie_rules.proofs.Sites.{keeps_same, asked_keeps, freed_keeps, keeps_holding, keeps_idle, stands_kept, island_linked, outer_linked}
use Rattle.tie_rules.proofs.Tied.{move_work, all_keep, tie_stepped}
use Rattle.tie_rules.proofs.Views.{Views}

-- A gateway's move is due to it if it is due to the tie, since the outer manager has its post.
pub due_alike : (a : Side) (o : Meaning) → a.post < o.sites → due_between a.gate a.island a.gateway o a.post ≡ due a o
due_alike a o within = grind (arith, nat_tests)

-- What a gateway known to be in state g says.
pub stands_in : (a : Side) (o : Meaning) (g : Gateway) → Sided a o → a.gate ≡ g → StandsAt g a.island a.gateway o a.post
stands_in a o g v e = rw e at v.stands

module _ (a : Side) (o : Meaning) (v : Sided a o) (young : a.island.age < limit) (outer_young : o.age < limit) where
  -- The call of a gateway's move is accepted, whatever its state,
  pub call_accepted : (g : Gateway) → a.gate ≡ g → call_refused g a.island a.gateway o a.post ≡ None
  call_accepted Out e = ask_accepted o a.post v.post outer_young (stands_in a o Out v e).1
  call_accepted Coming e = free_accepted a.island a.gateway (omega (arith, v.sites)) young (stands_in a o Coming v e).0
  call_accepted In e = ask_accepted a.island a.gateway (omega (arith, v.sites)) young (stands_in a o In v e).0
  call_accepted Leaving e = free_accepted o a.post v.post outer_young (stands_in a o Leaving v e).1

  -- and so is the move, once it is due.
  pub move_accepted : due a o ≡ true → move_refused a.gate a.island a.gateway o a.post ≡ None
  move_accepted now_due =
      cond-true (due_between a.gate a.island a.gateway o a.post) (call_refused a.gate a.island a.gateway o a.post) (Some NoThing)
      (due_alike a o v.post ∙ now_due) ∙ call_accepted a.gate refl

module _ (a b : Side) (o : Meaning) (v : Linked a b o) where
  away : b.post ≡ a.post → ⊥
  away e = v.apart (sym e)

  -- Called in its island, a gateway that is out asks at the outer manager.
  module _ (o' : Meaning) (lawful : Lawful o') (out : a.gate ≡ Out) (called : a.island.called a.gateway ≡ true) (e : Asked o a.post o') where
    pub asking_linked : Linked (at a a.island Coming) b o'
    asking_linked =
        outer_linked a b o v Coming o' lawful e.sites ((stands_in a o Out v.here out).0, called, e.asker) (stands_kept b.gate b.island b.island b.gateway o o' b.post (keeps_same b.island b.gateway) (asked_keeps b.post e v.there.post away) v.there.stands) (λ j l p q. asked_keeps j e l p)

    pub asking_shown : (t t' : Meaning) (old : ℕ) → Views t a b o old → Views t' (at a a.island Coming) b o' (old + 1) → Stepped t None t'
    asking_shown t t' old w w' =
        let way : false ≡ inside a.gate = sym (ap inside out) in
        let idle = (stands_in a o Out v.here out).1 in
        let here = outer_here a b o v Coming b.gate o' way refl asking_linked e.sites e.barred (λ h. keeps_holding (asked_keeps b.post e v.there.post away) h) in
        let there = outer_here b a o (linked_turned v) b.gate Coming o' refl way (linked_turned asking_linked) e.sites e.barred (λ h. absurd (grind arith)) in
        let granted = all_keep a b o a.island o' Coming t t' old w w' (λ j own. refl) in
        tie_stepped a b o a.island o' Coming t t' old w w' None refl e.toll granted here there (move_work a b o a.island o' Coming t t' old w w' refl e.toll (omega (arith, e.work)) (asking_moves a b o v out))

  -- Holding at the outer manager, a gateway that is coming frees its island, and is barred there.
  module _ (m : Meaning) (lawful : Lawful m) (coming : a.gate ≡ Coming) (holds : o.status a.post ≡ Holding) (e : Freed a.island a.gateway m) where
    pub arriving_linked : Linked (at a m In) b o
    arriving_linked =
        island_linked a b o v m In lawful e.sites (e.freer, holds) (λ j l k. keeps_idle (freed_keeps j v.here.lawful e (omega (arith, v.here.sites)) (stands_in a o Coming v.here coming).0 (omega (arith, v.here.sites)) (λ r. omega arith)) (v.here.unreached j l k))

    pub arriving_shown : (t t' : Meaning) (old : ℕ) → Views t a b o old → Views t' (at a m In) b o (old + 1) → Stepped t None t'
    arriving_shown t t' old w w' =
        let bars = e.bars (stands_in a o Coming v.here coming).1 in
        let granted = all_keep a b o m o In t t' old w w' (λ j own. e.others j (omega (arith, v.here.sites)) (λ r. omega (arith, own.0))) in
        tie_stepped a b o m o In t t' old w w' None e.toll refl granted (arrives_here a b o v m (ap inside coming) holds) (arrives_there a b o v m holds bars) (move_work a b o m o In t t' old w w' e.toll refl (omega (arith, e.work)) (arriving_moves a b o v m coming holds bars))

  -- Called at the outer manager, a gateway that is in asks in its island.
  module _ (m : Meaning) (lawful : Lawful m) (came : a.gate ≡ In) (called : o.called a.post ≡ true) (e : Asked a.island a.gateway m) where
    pub recalling_linked : Linked (at a m Leaving) b o
    recalling_linked =
        island_linked a b o v m Leaving lawful e.sites (e.asker, (stands_in a o In v.here came).1, called) (λ j l k. keeps_idle (asked_keeps j e (omega (arith, v.here.sites)) (λ r. omega arith)) (v.here.unreached j l k))

    pub recalling_shown : (t t' : Meaning) (old : ℕ) → Views t a b o old → Views t' (at a m Leaving) b o (old + 1) → Stepped t None t'
    recalling_shown t t' old w w' =
        let way = sym (ap inside came) in
        let idle = (stands_in a o In v.here came).0 in
        let here = island_here a b o v m Leaving way recalling_linked e.called e.barred (λ h. absurd (grind arith)) in
        let there = island_there a b o v m Leaving way recalling_linked e.called e.barred in
        let granted = all_keep a b o m o Leaving t t' old w w' (λ j own. e.others j (omega (arith, v.here.sites)) (λ r. omega (arith, own.0))) in
        let lasts = settled_lasts a o v.here m Leaving (λ i l h. keeps_holding (asked_keeps i e (omega (arith, v.here.sites)) (λ r. omega arith)) h) e.barred in
        tie_stepped a b o m o Leaving t t' old w w' None e.toll refl granted here there (move_work a b o m o Leaving t t' old w w' e.toll refl (omega (arith, e.work)) (recalling_moves a b o v m came lasts))

  -- Holding in its island, a gateway that is leaving frees at the outer manager, where its side is barred then.
  module _ (o' : Meaning) (lawful : Lawful o') (leaving : a.gate ≡ Leaving) (holds : a.island.status a.gateway ≡ Holding) (e : Freed o a.post o') where
    stood : StandsAt Leaving a.island a.gateway o a.post
    stood = stands_in a o Leaving v.here leaving

    pub leaving_linked : Linked (at a a.island Out) b o'
    leaving_linked =
        outer_linked a b o v Out o' lawful e.sites (holds, e.freer) (stands_kept b.gate b.island b.island b.gateway o o' b.post (keeps_same b.island b.gateway) (freed_keeps b.post v.outer e v.here.post stood.1 v.there.post away) v.there.stands) (λ j l p q. freed_keeps j v.outer e v.here.post stood.1 l p)

    pub leaving_shown : (t t' : Meaning) (old : ℕ) → Views t a b o old → Views t' (at a a.island Out) b o' (old + 1) → Stepped t None t'
    leaving_shown t t' old w w' =
        let granted = all_keep a b o a.island o' Out t t' old w w' (λ j own. refl) in
        tie_stepped a b o a.island o' Out t t' old w w' None refl e.toll granted (leaves_here a b o v o' (e.bars stood.2)) (leaves_there a b o v o' (ap inside leaving) holds) (move_work a b o a.island o' Out t t' old w w' refl e.toll (omega (arith, e.work)) (leaving_moves a b o v leaving stood.1 holds))
