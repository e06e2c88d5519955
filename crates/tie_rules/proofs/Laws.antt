-- A tie of three lawful managers is a lawful manager.
use Rattle.std.proofs.Common.{◌≡◌, ℕ, ◌<◌, ◌≤◌, None, Option, sym, ◌∙◌, subst, arith}
use Rattle.manager.specs.Effects.{Parked, Asked, Freed, Stepped}
use Rattle.manager.specs.Kinds.{Kind, Obeys}
use Rattle.manager.specs.Laws.{Laws, Lawful}
use Rattle.manager.specs.Meaning.{Meaning, limit}
use Rattle.manager.specs.Refusals.{refused, site_order, ask_order, free_order, step_order}
use Rattle.manager.specs.declared.status.Status.{Status}
use Rattle.manager.specs.declared.status.Status.TheVariants.{Idle, Holding}
use Rattle.tie_rules.specs.Invariant.{Sound}
use Rattle.tie_rules.specs.Reading.{border, left_side, right_side, lifted, meaning_of}
use Rattle.tie_rules.specs.Rules.{AtSite, at_left, at_right, Asks, Frees, Parks, parks_left, parks_right, Steps, left_steps, right_steps, outer_steps, left_moves, right_moves}
use Rattle.tie_rules.specs.Sides.{Side, at}
use Rattle.tie_rules.specs.State.{Tie, next}
use Rattle.gateway.specs.declared.state.Gateway.{Gateway}
use Rattle.gateway.specs.declared.state.Gateway.TheVariants.{Out, In}
use Rattle.manager.proofs.Accepted.{accepted_site, accepted_ask, accepted_free, accepted_step}
use Rattle.tie_rules.proofs.Acting.{Acted, Ready, ask_acts, free_acts, step_acts, outer_step_acts, pass_acts}
use Rattle.tie_rules.proofs.Lawful.{linked_lawful}
use Rattle.tie_rules.proofs.Linked.{Linked, linked_turned}
use Rattle.tie_rules.proofs.Parking.{park_acts}
use Rattle.tie_rules.proofs.Refused.{left_young, right_young, outer_young}
use Rattle.tie_rules.proofs.Views.{On, views_turned, status_on}
use Rattle.tie_rules.proofs.Whole.{on_left, on_right, views, views_after, sound_after, bounded, sound_linked, left_acted, right_acted}

module _ {L R O : Type 0} (kl : Kind L) (kr : Kind R) (ko : Kind O) where
  module _ (ll : Obeys kl) (lr : Obeys kr) (lo : Obeys ko) where
    pub lawful : (t : Tie L R O) → Sound kl kr ko t → Lawful (meaning_of kl kr ko t)
    lawful t v = linked_lawful (left_side kl kr ko t) (right_side kl kr ko t) (ko.meaning t.outer) (sound_linked kl kr ko t ll lr lo v) (meaning_of kl kr ko t) t.age (views kl kr ko t)

    module _ (t t' : Tie L R O) (v : Sound kl kr ko t) (young : t.age < limit) where
      abbrev a : Side
      a = left_side kl kr ko t

      abbrev b : Side
      b = right_side kl kr ko t

      abbrev o : Meaning
      o = ko.meaning t.outer

      linked : Linked a b o
      linked = sound_linked kl kr ko t ll lr lo v

      left_ready : Ready kl ko t.left t.left_gate 0 0 b t.outer
      left_ready = record {
        laws = ll;
        outer_laws = lo;
        linked = linked;
        sound = v.left;
        outer_sound = v.outer;
        young = left_young kl kr ko t v young;
        outer_young = outer_young kl kr ko t v young;
      }

      right_ready : Ready kr ko t.right t.right_gate 1 (border kl kr ko t) a t.outer
      right_ready = record {
        laws = lr;
        outer_laws = lo;
        linked = linked_turned linked;
        sound = v.right;
        outer_sound = v.outer;
        young = right_young kl kr ko t v young;
        outer_young = outer_young kl kr ko t v young;
      }

      -- The tie has become sound, with this effect.
      abbrev Done : (Meaning → Meaning → Type 0) → Type 0
      Done effect = Sound kl kr ko t' × effect (meaning_of kl kr ko t) (meaning_of kl kr ko t')

      left_done : (l : L) (gate : Gateway) (o' : O) (effect : Meaning → Meaning → Type 0) → t' ≡ next t l t.right o' gate t.right_gate → Acted kl ko a b t.left t.outer l gate o' effect → Done effect
      left_done l gate o' effect e acted = subst (λ (u : Tie L R O). Sound kl kr ko u × effect (meaning_of kl kr ko t) (meaning_of kl kr ko u)) (sym e) (left_acted kl kr ko t ll lr lo v l gate o' effect acted)

      right_done : (r : R) (gate : Gateway) (o' : O) (effect : Meaning → Meaning → Type 0) → t' ≡ next t t.left r o' t.left_gate gate → Acted kr ko b a t.right t.outer r gate o' effect → Done effect
      right_done r gate o' effect e acted = subst (λ (u : Tie L R O). Sound kl kr ko u × effect (meaning_of kl kr ko t) (meaning_of kl kr ko u)) (sym e) (right_acted kl kr ko t ll lr lo v r gate o' effect acted)

      -- A call that names a site is done in the site's island.
      site_lawful : (status : Status) (effect : Meaning → ℕ → Meaning → Type 0) (does_left : L → ℕ → L → Type 0) (does_right : R → ℕ → R → Type 0) →
          ((x : ℕ) (on : On a x) (l : L) → a.island.status on.0 ≡ status → does_left t.left on.0 l → Acted kl ko a b t.left t.outer l t.left_gate t.outer (λ m n. effect m x n)) →
          ((x : ℕ) (on : On b x) (r : R) → b.island.status on.0 ≡ status → does_right t.right on.0 r → Acted kr ko b a t.right t.outer r t.right_gate t.outer (λ m n. effect m x n)) →
          (x : ℕ) → x < (meaning_of kl kr ko t).sites → (meaning_of kl kr ko t).status x ≡ status → AtSite kl kr ko does_left does_right t x t' → Done (λ m n. effect m x n)
      site_lawful status effect does_left does_right acts_left acts_right x within is (at_left l h did e) =
          let on = on_left kl kr ko t x within h in
          left_done l t.left_gate t.outer (λ m n. effect m x n) e (acts_left x on l (sym (status_on (views kl kr ko t).here on) ∙ is) did)
      site_lawful status effect does_left does_right acts_left acts_right x within is (at_right r h did e) =
          let on = on_right kl kr ko t x within h in
          right_done r t.right_gate t.outer (λ m n. effect m x n) e (acts_right x on r (sym (status_on (views kl kr ko t).there on) ∙ is) did)

      asking : (x : ℕ) → x < (meaning_of kl kr ko t).sites → (meaning_of kl kr ko t).status x ≡ Idle → Asks kl kr ko t x t' → Done (λ m n. Asked m x n)
      asking = site_lawful Idle Asked kl.asks kr.asks (ask_acts left_ready) (ask_acts right_ready)

      freeing : (x : ℕ) → x < (meaning_of kl kr ko t).sites → (meaning_of kl kr ko t).status x ≡ Holding → Frees kl kr ko t x t' → Done (λ m n. Freed m x n)
      freeing = site_lawful Holding Freed kl.frees kr.frees (free_acts left_ready) (free_acts right_ready)

      stepping : (k : ℕ) (grant : Option ℕ) → Steps kl kr ko t k grant t' → Done (λ m n. Stepped m grant n)
      stepping k grant (left_steps g l within did is e) =
          rw is (left_done l t.left_gate t.outer (λ m n. Stepped m (lifted a.gateway 0 g) n) e (step_acts left_ready k g l within did))
      stepping k grant (right_steps j g r place within did is e) =
          rw is (right_done r t.right_gate t.outer (λ m n. Stepped m (lifted b.gateway b.offset g) n) e (step_acts right_ready j g r within did))
      stepping k grant (outer_steps j g o' place within did is e) =
          rw is (left_done t.left t.left_gate o' (λ m n. Stepped m None n) e (outer_step_acts left_ready j g o' within did))
      stepping k grant (left_moves l gate o' place pass is e) =
          rw is (left_done l gate o' (λ m n. Stepped m None n) e (pass_acts left_ready pass))
      stepping k grant (right_moves r gate o' place pass is e) =
          rw is (right_done r gate o' (λ m n. Stepped m None n) e (pass_acts right_ready pass))

    pub ask_lawful : (t t' : Tie L R O) (x : ℕ) → Sound kl kr ko t → refused ask_order (meaning_of kl kr ko t) x ≡ None → Asks kl kr ko t x t' → Sound kl kr ko t' × Asked (meaning_of kl kr ko t) x (meaning_of kl kr ko t')
    ask_lawful t t' x v free =
        let ok = accepted_ask (meaning_of kl kr ko t) x free in
        asking t t' v ok.1 x ok.0 ok.2

    pub free_lawful : (t t' : Tie L R O) (x : ℕ) → Sound kl kr ko t → refused free_order (meaning_of kl kr ko t) x ≡ None → Frees kl kr ko t x t' → Sound kl kr ko t' × Freed (meaning_of kl kr ko t) x (meaning_of kl kr ko t')
    free_lawful t t' x v free =
        let ok = accepted_free (meaning_of kl kr ko t) x free in
        freeing t t' v ok.1 x ok.0 ok.2

    pub step_lawful : (t t' : Tie L R O) (k : ℕ) (grant : Option ℕ) → Sound kl kr ko t → refused step_order (meaning_of kl kr ko t) k ≡ None → Steps kl kr ko t k grant t' → Sound kl kr ko t' × Stepped (meaning_of kl kr ko t) grant (meaning_of kl kr ko t')
    step_lawful t t' k grant v free = stepping t t' v (accepted_step (meaning_of kl kr ko t) k free) k grant

    pub park_lawful : (t t' : Tie L R O) (x : ℕ) → refused site_order (meaning_of kl kr ko t) x ≡ None → Parks kl kr ko t x t' → Sound kl kr ko t' × Parked (meaning_of kl kr ko t) x (meaning_of kl kr ko t')
    park_lawful t t' x free (parks_left l r o' h pl pr po e) =
        let s : Tie L R O = record { left = l; right = r; outer = o'; left_gate = In; right_gate = Out; age = 0 } in
        let on = on_left kl kr ko t x (accepted_site (meaning_of kl kr ko t) x free) h in
        let begun = park_acts kl kr ko ll lr lo t.left t.right t.outer t.left_gate t.right_gate 0 1 0 (border kl kr ko t) (λ q. omega arith) (omega arith) (omega arith) x on l r o' pl pr po in
        let sound = sound_after kl kr ko t s begun.sites begun.other_sites begun.sound begun.other_sound begun.outer_sound (omega (arith, begun.age)) (omega (arith, begun.other_age)) (omega (arith, begun.outer_age)) begun.linked in
        let shown = begun.shown (meaning_of kl kr ko t) (meaning_of kl kr ko s) t.age (views kl kr ko t) (views_after kl kr ko t s begun.sites begun.other_sites) in
        subst (λ (u : Tie L R O). Sound kl kr ko u × Parked (meaning_of kl kr ko t) x (meaning_of kl kr ko u)) (sym e) (sound, shown)
    park_lawful t t' x free (parks_right l r o' h pl pr po e) =
        let s : Tie L R O = record { left = l; right = r; outer = o'; left_gate = Out; right_gate = In; age = 0 } in
        let on = on_right kl kr ko t x (accepted_site (meaning_of kl kr ko t) x free) h in
        let begun = park_acts kr kl ko lr ll lo t.right t.left t.outer t.right_gate t.left_gate 1 0 (border kl kr ko t) 0 (λ q. omega arith) (omega arith) (omega arith) x on r l o' pr pl po in
        let sound = sound_after kl kr ko t s begun.other_sites begun.sites begun.other_sound begun.sound begun.outer_sound (omega (arith, begun.other_age)) (omega (arith, begun.age)) (omega (arith, begun.outer_age)) (linked_turned begun.linked) in
        let before = views_turned (left_side kl kr ko t) (right_side kl kr ko t) (ko.meaning t.outer) (meaning_of kl kr ko t) t.age (views kl kr ko t) in
        let after = views_turned (at (left_side kl kr ko t) (kl.meaning l) Out) (at (right_side kl kr ko t) (kr.meaning r) In) (ko.meaning o') (meaning_of kl kr ko s) 0 (views_after kl kr ko t s begun.other_sites begun.sites) in
        subst (λ (u : Tie L R O). Sound kl kr ko u × Parked (meaning_of kl kr ko t) x (meaning_of kl kr ko u)) (sym e) (sound, begun.shown (meaning_of kl kr ko t) (meaning_of kl kr ko s) t.age before after)

    -- A struct that is read as a tie, and is never older than the limit, is a lawful manager by the tie's rules.
    pub tie_laws : {S : Type 0} (tie_of : S → Tie L R O) → ((s : S) → (tie_of s).age ≤ limit) → Laws (λ s. meaning_of kl kr ko (tie_of s)) (λ s. Sound kl kr ko (tie_of s)) (λ s i s'. Parks kl kr ko (tie_of s) i (tie_of s')) (λ s i s'. Asks kl kr ko (tie_of s) i (tie_of s')) (λ s i s'. Frees kl kr ko (tie_of s) i (tie_of s')) (λ s k g s'. Steps kl kr ko (tie_of s) k g (tie_of s'))
    tie_laws tie_of young = record {
      bounded = λ s. bounded kl kr ko (tie_of s) ll lr lo (young s);
      lawful = λ s. lawful (tie_of s);
      parking = λ s s' g. park_lawful (tie_of s) (tie_of s') g;
      asking = λ s s' i. ask_lawful (tie_of s) (tie_of s') i;
      freeing = λ s s' i. free_lawful (tie_of s) (tie_of s') i;
      stepping = λ s s' k g. step_lawful (tie_of s) (tie_of s') k g;
    }
