-- What a call of a lawful part does to the side that it belongs to, for each call that a tie makes of its parts.
use Rattle.std.proofs.Common.{◌≡◌, ℕ, ◌+◌, ◌<◌, ◌≤◌, None, Option, refl, arith}
use Rattle.manager.specs.Effects.{Asked, Freed, Stepped}
use Rattle.manager.specs.Kinds.{Kind, Obeys}
use Rattle.manager.specs.Meaning.{Meaning, limit}
use Rattle.manager.specs.declared.status.Status.TheVariants.{Idle, Holding}
use Rattle.gateway.specs.Automaton.{last}
use Rattle.gateway.specs.Moves.{Passes, asks_outer, frees_island, asks_island, frees_outer, call_refused}
use Rattle.tie_rules.specs.Reading.{lifted}
use Rattle.tie_rules.specs.Sides.{Side, at}
use Rattle.gateway.specs.declared.state.Gateway.{Gateway}
use Rattle.gateway.specs.declared.state.Gateway.TheVariants.{Out, Coming, In, Leaving}
use Rattle.manager.proofs.Accepted.{ask_accepted, free_accepted, step_accepted}
use Rattle.tie_rules.proofs.Calls.{ask_linked, ask_shown, free_linked, free_shown, step_linked, step_shown, outer_step_linked, outer_step_shown}
use Rattle.tie_rules.proofs.Linked.{Linked}
use Rattle.tie_rules.proofs.Passing.{call_accepted, asking_linked, asking_shown, arriving_linked, arriving_shown}
use Rattle.tie_rules.proofs.Passing.{recalling_linked, recalling_shown, leaving_linked, leaving_shown}
use Rattle.tie_rules.proofs.Views.{On, Views}

-- An island and its gateway as a side.
abbrev pub part_side : {I : Type 0} → Kind I → I → Gateway → (post offset : ℕ) → Side
part_side ki p gate post offset = record { island = ki.meaning p; gate = gate; gateway = last (ki.meaning p); post = post; offset = offset }

-- Side a, of island p, and the outer manager o have become p' with gateway g' and o', still sound and linked to side b, at
-- most one older, with this effect at the tie.
pub record Acted {I O : Type 0} (ki : Kind I) (ko : Kind O) (a b : Side) (p : I) (o : O) (p' : I) (g' : Gateway) (o' : O) (effect : Meaning → Meaning → Type 0) : Type 0 where
  pub sound : ki.sound p'
  pub outer_sound : ko.sound o'
  pub sites : (ki.meaning p').sites ≡ (ki.meaning p).sites
  pub age : (ki.meaning p').age ≤ (ki.meaning p).age + 1
  pub outer_age : (ko.meaning o').age ≤ (ko.meaning o).age + 1
  pub linked : Linked (at a (ki.meaning p') g') b (ko.meaning o')
  pub shown : (t t' : Meaning) (old : ℕ) → Views t a b (ko.meaning o) old → Views t' (at a (ki.meaning p') g') b (ko.meaning o') (old + 1) → effect t t'

-- A sound island p, with its gateway linked through a sound outer manager o to side b, where neither manager is worn.
pub record Ready {I O : Type 0} (ki : Kind I) (ko : Kind O) (p : I) (gate : Gateway) (post offset : ℕ) (b : Side) (o : O) : Type 0 where
  pub laws : Obeys ki
  pub outer_laws : Obeys ko
  pub linked : Linked (part_side ki p gate post offset) b (ko.meaning o)
  pub sound : ki.sound p
  pub outer_sound : ko.sound o
  pub young : (ki.meaning p).age < limit
  pub outer_young : (ko.meaning o).age < limit

module _ {I O : Type 0} {ki : Kind I} {ko : Kind O} {p : I} {gate : Gateway} {post offset : ℕ} {b : Side} {o : O} (r : Ready ki ko p gate post offset b o) where
  abbrev a : Side
  a = part_side ki p gate post offset

  abbrev m : Meaning
  m = ki.meaning p

  abbrev n : Meaning
  n = ko.meaning o

  -- The island was called, or the outer manager was.
  island_acted : (p' : I) (g' : Gateway) (effect : Meaning → Meaning → Type 0) → ki.sound p' → (ki.meaning p').sites ≡ m.sites → (ki.meaning p').age ≡ m.age + 1 → Linked (at a (ki.meaning p') g') b n → ((t t' : Meaning) (old : ℕ) → Views t a b n old → Views t' (at a (ki.meaning p') g') b n (old + 1) → effect t t') → Acted ki ko a b p o p' g' o effect
  island_acted p' g' effect sound' sites older linked shown = record {
    sound = sound';
    outer_sound = r.outer_sound;
    sites = sites;
    age = omega arith;
    outer_age = omega arith;
    linked = linked;
    shown = shown;
  }

  outer_acted : (g' : Gateway) (o' : O) → ko.sound o' → (ko.meaning o').age ≡ n.age + 1 → Linked (at a m g') b (ko.meaning o') → ((t t' : Meaning) (old : ℕ) → Views t a b n old → Views t' (at a m g') b (ko.meaning o') (old + 1) → Stepped t None t') → Acted ki ko a b p o p g' o' (λ t t'. Stepped t None t')
  outer_acted g' o' sound' older linked shown = record {
    sound = r.sound;
    outer_sound = sound';
    sites = refl;
    age = omega arith;
    outer_age = omega arith;
    linked = linked;
    shown = shown;
  }

  pub ask_acts : (x : ℕ) (on : On a x) (p' : I) → m.status on.0 ≡ Idle → ki.asks p on.0 p' → Acted ki ko a b p o p' gate o (λ t t'. Asked t x t')
  ask_acts x on p' idle did =
      let now = r.laws.asking p p' on.0 r.sound (ask_accepted m on.0 (omega (arith, on.1.0)) r.young idle) did in
      let lawful = r.laws.lawful p' now.0 in
      island_acted p' gate (λ t t'. Asked t x t') now.0 now.1.sites now.1.age (ask_linked a b n r.linked (ki.meaning p') lawful x on now.1) (λ t t' old w w'. ask_shown a b n r.linked (ki.meaning p') lawful x on t t' old w w' now.1)

  pub free_acts : (x : ℕ) (on : On a x) (p' : I) → m.status on.0 ≡ Holding → ki.frees p on.0 p' → Acted ki ko a b p o p' gate o (λ t t'. Freed t x t')
  free_acts x on p' holds did =
      let now = r.laws.freeing p p' on.0 r.sound (free_accepted m on.0 (omega (arith, on.1.0)) r.young holds) did in
      let lawful = r.laws.lawful p' now.0 in
      island_acted p' gate (λ t t'. Freed t x t') now.0 now.1.sites now.1.age (free_linked a b n r.linked (ki.meaning p') lawful x on now.1 holds) (λ t t' old w w'. free_shown a b n r.linked (ki.meaning p') lawful x on t t' old w w' now.1 holds)

  pub step_acts : (k : ℕ) (g : Option ℕ) (p' : I) → k < m.underway → ki.steps p k g p' → Acted ki ko a b p o p' gate o (λ t t'. Stepped t (lifted a.gateway offset g) t')
  step_acts k g p' l did =
      let now = r.laws.stepping p p' k g r.sound (step_accepted m k l r.young) did in
      let lawful = r.laws.lawful p' now.0 in
      island_acted p' gate (λ t t'. Stepped t (lifted a.gateway offset g) t') now.0 now.1.sites now.1.age (step_linked a b n r.linked (ki.meaning p') lawful g now.1) (step_shown a b n r.linked (ki.meaning p') lawful g now.1)

  pub outer_step_acts : (k : ℕ) (g : Option ℕ) (o' : O) → k < n.underway → ko.steps o k g o' → Acted ki ko a b p o p gate o' (λ t t'. Stepped t None t')
  outer_step_acts k g o' l did =
      let now = r.outer_laws.stepping o o' k g r.outer_sound (step_accepted n k l r.outer_young) did in
      let lawful = r.outer_laws.lawful o' now.0 in
      outer_acted gate o' now.0 now.1.age (outer_step_linked a b n r.linked (ko.meaning o') lawful g now.1) (outer_step_shown a b n r.linked (ko.meaning o') lawful g now.1)

  accepts : (g : Gateway) → gate ≡ g → call_refused g m (last m) n post ≡ None
  accepts = call_accepted a n r.linked.here r.young r.outer_young

  pub pass_acts : {p' : I} {g' : Gateway} {o' : O} → Passes ki ko post p gate o p' g' o' → Acted ki ko a b p o p' g' o' (λ t t'. Stepped t None t')
  pass_acts (asks_outer {o'} out called did) =
      let now = r.outer_laws.asking o o' post r.outer_sound (accepts Out out) did in
      let lawful = r.outer_laws.lawful o' now.0 in
      outer_acted Coming o' now.0 now.1.age (asking_linked a b n r.linked (ko.meaning o') lawful out called now.1) (asking_shown a b n r.linked (ko.meaning o') lawful out called now.1)
  pass_acts (frees_island {p'} coming holds did) =
      let now = r.laws.freeing p p' a.gateway r.sound (accepts Coming coming) did in
      let lawful = r.laws.lawful p' now.0 in
      island_acted p' In (λ t t'. Stepped t None t') now.0 now.1.sites now.1.age (arriving_linked a b n r.linked (ki.meaning p') lawful coming holds now.1) (arriving_shown a b n r.linked (ki.meaning p') lawful coming holds now.1)
  pass_acts (asks_island {p'} came called did) =
      let now = r.laws.asking p p' a.gateway r.sound (accepts In came) did in
      let lawful = r.laws.lawful p' now.0 in
      island_acted p' Leaving (λ t t'. Stepped t None t') now.0 now.1.sites now.1.age (recalling_linked a b n r.linked (ki.meaning p') lawful came called now.1) (recalling_shown a b n r.linked (ki.meaning p') lawful came called now.1)
  pass_acts (frees_outer {o'} leaving holds did) =
      let now = r.outer_laws.freeing o o' post r.outer_sound (accepts Leaving leaving) did in
      let lawful = r.outer_laws.lawful o' now.0 in
      outer_acted Out o' now.0 now.1.age (leaving_linked a b n r.linked (ko.meaning o') lawful leaving holds now.1) (leaving_shown a b n r.linked (ko.meaning o') lawful leaving holds now.1)
